-- The tests of a line whose numbers rise say what In line says: of its neighbours, of its bags, of its marks.
use mathlib.Core.Path.{◌≡◌, refl, sym, ap}
use Rattle.std.specs.Prelude.{Some, None}
use Rattle.line.specs.Types.{Neighbour}
use mathlib.Core.Logic.{◌↔◌, ◌⊎◌, inl, inr, ⊎_elim}
use mathlib.Core.Bool.{true, not, ◌&&◌}
use mathlib.Core.List.Memᴰ
use mathlib.Core.List.{[], ◌∷◌}
use mathlib.Core.List.Memᴰ.{head as here}
use mathlib.Core.List.Memᴰ.{tail as there}
use mathlib.Core.List.{Memᴰ as Member}
use Prim.Native.Nat.{ℕ, ◌<◌, ◌≤◌}
use native.Mathlib.Omega.{arith}
use borrow.Author.Tests.{eqb-true, eq-eqb, not-true}
use Rattle.line.specs.declared.Side.{Side}
use Rattle.line.specs.declared.Side.TheVariants.{Left, Right}
use Rattle.line.specs.declared.Message.{Message}
use Rattle.line.specs.Message.{removal, same, is_removal}
use Rattle.line.specs.Node.{Node, Line, number, numbers, leaving, Present, Beyond, neighbour}
use Rattle.lists.specs.Lists.{all, any}
use Rattle.lists.specs.Numbers.{Rising}
use Rattle.line.specs.InLine.{IsNext, Quiet, AllStay, is_same, first, neighbours_after, neighbours_in_line, is_quiet, stays, in_line}
use Rattle.line.specs.Claims.{NeighboursTested, InLineTested}
use Rattle.lists.proofs.Lists.{clash, and_both, both_and, or_cases, or_right, fails, all_true, true_all, any_true, true_any}
use Rattle.line.proofs.Messages.{same_true, same_refl}
use Rattle.line.proofs.Sides.{none_station, station_inj}

pub is_same_lem : (a b : Neighbour) → (is_same a b ≡ true) ↔ (a ≡ b)
unfolding is_same
is_same_lem None None = (λ e. refl, λ e. refl)
is_same_lem None (Some n) = (λ e. clash e refl, λ e. none_station e)
is_same_lem (Some m) None = (λ e. clash e refl, λ e. none_station (sym e))
is_same_lem (Some m) (Some n) = (λ e. ap Some (eqb-true m n e), λ e. eq-eqb m n (station_inj e))

-- Two stations that are next to p on one side are one.
next_unique : (line : Line) (d : Side) (p : ℕ) (a b : Neighbour) → IsNext line d p a → IsNext line d p b → a ≡ b
next_unique line d p None None h k = refl
next_unique line d p None (Some n) h k = absurd (h n k.present k.beyond)
next_unique line d p (Some m) None h k = absurd (k m h.present h.beyond)
next_unique line d p (Some m) (Some n) h k = ap Some (one d (h.nearest n k.present k.beyond) (k.nearest m h.present h.beyond))
  where
    one : (d : Side) → ¬ Beyond d n m → ¬ Beyond d m n → m ≡ n
    one Left p q = omega arith
    one Right p q = omega arith

-- A line in written order, walked from the left: what is left to walk is l, and the station passed last is prev.
abbrev Passed : Neighbour → ℕ → Type 0
Passed None n = ⊥
Passed (Some p) n = n ≤ p

abbrev Ahead : Neighbour → ℕ → Type 0
Ahead None n = Unit {0}
Ahead (Some p) n = p < n

abbrev There : Line → Neighbour → Type 0
There whole None = Unit {0}
There whole (Some p) = Present whole p

record Walk (whole : Line) (prev : Neighbour) (l : Line) : Type 0 where
  last : There whole prev
  inside : (n : ℕ) → Present l n → Present whole n
  ahead : (n : ℕ) → Present l n → Ahead prev n
  split : (n : ℕ) → Present whole n → Passed prev n ⊎ Present l n
  rising : Rising (numbers l)

module _ (whole : Line) (s : Node) (l : Line) where
  -- what a number present is, seen from s
  place : (n : ℕ) → Present (s ∷ l) n → Rising (numbers (s ∷ l)) → (n ≡ number s) ⊎ (number s < n)
  place n m h = ⊎_elim inl (λ k. inr (h.0 n k)) (Memᴰ.cases_cons m)

  before_is_next : (prev : Neighbour) → Walk whole prev (s ∷ l) → IsNext whole Left (number s) prev
  before_is_next None w = λ r m h. ⊎_elim (λ k. k) (λ k. ⊎_elim (λ e. omega arith) (λ e. omega arith) (place r k w.rising)) (w.split r m)
  before_is_next (Some p) w = record {
    present = w.last;
    beyond = w.ahead (number s) (here refl);
    nearest = λ r m h i. ⊎_elim (λ k. omega arith) (λ k. ⊎_elim (λ e. omega arith) (λ e. omega arith) (place r k w.rising)) (w.split r m);
  }

  -- nothing passed lies above s
  not_above : (prev : Neighbour) → Walk whole prev (s ∷ l) → (r : ℕ) → Passed prev r → number s < r → ⊥
  not_above None w r k h = k
  not_above (Some p) w r k h = omega (arith, w.ahead (number s) (here refl))

  step_on : (prev : Neighbour) → Walk whole prev (s ∷ l) → Walk whole (Some (number s)) l
  step_on prev w = record {
    last = w.inside (number s) (here refl);
    inside = λ n m. w.inside n (there m);
    ahead = λ n m. w.rising.0 n m;
    split = λ n m. ⊎_elim (λ k. inl (below prev w n k)) (λ k. ⊎_elim (λ (e : n ≡ number s). inl (omega arith)) inr (Memᴰ.cases_cons k)) (w.split n m);
    rising = w.rising.1;
  }
    where
      below : (prev : Neighbour) → Walk whole prev (s ∷ l) → (n : ℕ) → Passed prev n → n ≤ number s
      below None w n k = absurd k
      below (Some p) w n k = omega (arith, w.ahead (number s) (here refl))

after_is_next : (whole : Line) (prev : Neighbour) (s : Node) (l : Line) → Walk whole prev (s ∷ l) → IsNext whole Right (number s) (first l)
unfolding first
after_is_next whole prev s [] w =
    λ r m h. ⊎_elim (λ k. not_above whole s [] prev w r k h) (λ k. ⊎_elim (λ e. omega arith) (λ i. Memᴰ.not-nil i) (Memᴰ.cases_cons k)) (w.split r m)
after_is_next whole prev s (t ∷ l) w = record {
  present = w.inside (number t) (there (here refl));
  beyond = w.rising.0 (number t) (here refl);
  nearest = λ r m h i. ⊎_elim (λ k. not_above whole s (t ∷ l) prev w r k h)
      (λ k. ⊎_elim (λ e. omega arith) (λ j. ⊎_elim (λ e. omega arith) (λ e. omega arith) (place whole t l r j w.rising.1)) (Memᴰ.cases_cons k)) (w.split r m);
}

-- the walk finds each neighbour equal to the next station on its side
module _ (whole : Line) where
  walked : (prev : Neighbour) (l : Line) → Walk whole prev l → neighbours_after prev l ≡ true
      → (s : Node) → Member s l → (d : Side) → IsNext whole d (number s) (neighbour d s.station)
  unfolding neighbours_after
  walked prev [] w e s m d = absurd (Memᴰ.not-nil m)
  walked prev (t ∷ l) w e s m d = ⊎_elim (λ (z : s ≡ t). rw z (at d)) (λ k. walked (Some (number t)) l (step_on whole t l prev w) rest.1 s k d) (Memᴰ.cases_cons m)
    where
      parts : (is_same t.station.left prev ≡ true) × ((is_same t.station.right (first l) && neighbours_after (Some (number t)) l) ≡ true)
      parts = and_both (is_same t.station.left prev) (is_same t.station.right (first l) && neighbours_after (Some (number t)) l) e

      rest : (is_same t.station.right (first l) ≡ true) × (neighbours_after (Some (number t)) l ≡ true)
      rest = and_both (is_same t.station.right (first l)) (neighbours_after (Some (number t)) l) parts.1

      at : (d : Side) → IsNext whole d (number t) (neighbour d t.station)
      at Left = rw ((is_same_lem t.station.left prev).0 parts.0) (before_is_next whole t l prev w)
      at Right = rw ((is_same_lem t.station.right (first l)).0 rest.0) (after_is_next whole prev t l w)

  walks : (prev : Neighbour) (l : Line) → Walk whole prev l → ((s : Node) → Member s l → (d : Side) → IsNext whole d (number s) (neighbour d s.station))
      → neighbours_after prev l ≡ true
  unfolding neighbours_after
  walks prev [] w h = refl
  walks prev (t ∷ l) w h =
      both_and ((is_same_lem t.station.left prev).1 (next_unique whole Left (number t) t.station.left prev (h t (here refl) Left) (before_is_next whole t l prev w)))
      (both_and ((is_same_lem t.station.right (first l)).1 (next_unique whole Right (number t) t.station.right (first l) (h t (here refl) Right) (after_is_next whole prev t l w)))
      (walks (Some (number t)) l (step_on whole t l prev w) (λ s m. h s (there m))))

pub neighbours_tested : NeighboursTested
unfolding neighbours_in_line
neighbours_tested line w = (λ e. walked line None line start e, λ h. walks line None line start h)
  where
    start : Walk line None line
    start = record { last = tt; inside = λ n m. m; ahead = λ n m. tt; split = λ n m. inr m; rising = w }

-- either removal passes the test, and nothing else does
is_removal_lem : (d : Side) → is_removal (removal d) ≡ true
unfolding is_removal
is_removal_lem Left = rw (same_refl (removal Left))
is_removal_lem Right = or_right (same (removal Left) (removal Right)) (same_refl (removal Right))

removal_is : (m : Message) → is_removal m ≡ true → (d : Side) × (removal d ≡ m)
unfolding is_removal
removal_is m e =
    ⊎_elim (λ h. (Left, same_true (removal Left) m h)) (λ h. (Right, same_true (removal Right) m h)) (or_cases (same (removal Left) m) (same (removal Right) m) e)

pub quiet_tested : (line : Line) → (all is_quiet line ≡ true) ↔ Quiet line
unfolding is_quiet
quiet_tested line = (
  λ e s m d k. clash (true_any is_removal k (is_removal_lem d)) (not-true (any is_removal s.bag) (all_true is_quiet e m)),
  λ h. true_all is_quiet line (λ s m. ap not (fails (any is_removal s.bag) (λ e.
      let w = any_true is_removal s.bag e in
      let r = removal_is w.0 w.2 in
      h s m r.0 (Memᴰ.cast r.1 w.1)))),
)

pub staying_tested : (line : Line) → (all stays line ≡ true) ↔ AllStay line
staying_tested line = (λ e s m. not-true (leaving s) (all_true stays e m), λ h. true_all stays line (λ s m. ap not (h s m)))

pub in_line_tested : InLineTested
unfolding in_line
in_line_tested line w = (
  λ e.
      let h = and_both (neighbours_in_line line) (all is_quiet line && all stays line) e in
      let k = and_both (all is_quiet line) (all stays line) h.1 in
      record { neighbours = (neighbours_tested line w).0 h.0; quiet = (quiet_tested line).0 k.0; staying = (staying_tested line).0 k.1 },
  λ l. both_and ((neighbours_tested line w).1 l.neighbours) (both_and ((quiet_tested line).1 l.quiet) ((staying_tested line).1 l.staying)),
)
