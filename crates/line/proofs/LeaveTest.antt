-- The test `leave_of` says whether NIDEC holds, and what holds the station where it does not.
use mathlib.Core.Path.{◌≡◌, refl, sym, ◌∙◌, ap, subst}
use Rattle.std.specs.Prelude.{Option, Some, None, Ok, Err}
use Rattle.line.specs.Types.{Leave, Neighbour}
use mathlib.Core.Logic.{◌≢◌, ⊎_elim}
use mathlib.Core.Bool.{Bool, true, false, not, cond, ◌||◌}
use mathlib.Core.List.Memᴰ
use mathlib.Core.List.{List, [], ◌∷◌}
use mathlib.Core.List.Memᴰ.{head as here}
use mathlib.Core.List.Memᴰ.{tail as there}
use mathlib.Core.List.{Memᴰ as Member}
use Prim.Native.Nat.{ℕ, ◌≤◌}
use native.Mathlib.Omega.{arith}
use lib.Dec.{eqb, ltb}
use borrow.Author.Tests.{eqb-true, eqb-false, eq-eqb, ne_eqb, ltb-true, ltb-false, not-true}
use Rattle.line.specs.declared.Message.{Message}
use Rattle.line.specs.declared.Side.TheVariants.{Left, Right}
use Rattle.line.specs.declared.Reason.{Reason}
use Rattle.line.specs.declared.Reason.TheVariants.{OwnBag, HeldBy}
use Rattle.line.specs.Message.{introduction, holds}
use Rattle.line.specs.Node.{Node, Line, number}
use Rattle.line.specs.Links.{Linked, by_neighbour, by_introduction, Link, link}
use Rattle.line.specs.Nidec.{Nidec, is_neighbour, names, is_empty}
use Rattle.line.specs.Leave.{Holder, Why, LeaveIs, is_holder, smaller, holder_of, held_by, leave_of}
use Rattle.line.specs.Claims.{LeaveTested, ReasonExactly, ReasonOnce}
use Rattle.lists.proofs.Lists.{clash, and_both, or_cases, or_right}
use Rattle.line.proofs.Messages.{held_mem, mem_held}

pub is_neighbour_lem : (n : ℕ) (k : Neighbour) → is_neighbour n k ≡ true → k ≡ Some n
unfolding is_neighbour
is_neighbour_lem n None e = clash e refl
is_neighbour_lem n (Some m) e = rw (eqb-true n m e)

neighbour_is : (n : ℕ) {k : Neighbour} → k ≡ Some n → is_neighbour n k ≡ true
unfolding is_neighbour
neighbour_is n e = rw e (eq-eqb n n refl)

pub names_linked : (n : ℕ) (s : Node) → names n s ≡ true → Linked s n
unfolding names
names_linked n s e =
    ⊎_elim (λ h. by_neighbour Left (is_neighbour_lem n s.station.left h))
    (λ h. ⊎_elim (λ i. by_neighbour Right (is_neighbour_lem n s.station.right i)) (λ i. by_introduction (held_mem (introduction n) s.bag i))
    (or_cases (is_neighbour n s.station.right) (holds (introduction n) s.bag) h))
    (or_cases (is_neighbour n s.station.left) (is_neighbour n s.station.right || holds (introduction n) s.bag) e)

pub linked_names : (n : ℕ) (s : Node) → Linked s n → names n s ≡ true
unfolding names
linked_names n s (by_neighbour Left h) = rw (neighbour_is n h) refl
linked_names n s (by_neighbour Right h) = or_right (is_neighbour n s.station.left) (rw (neighbour_is n h) refl)
linked_names n s (by_introduction m) = or_right (is_neighbour n s.station.left) (or_right (is_neighbour n s.station.right) (mem_held (introduction n) m))

is_empty_lem : (b : List Message) → is_empty b ≡ true → b ≡ []
unfolding is_empty
is_empty_lem [] e = refl
is_empty_lem (m ∷ b) e = clash e refl

empty_is : {b : List Message} → b ≡ [] → is_empty b ≡ true
unfolding is_empty
empty_is e = rw e refl

-- A station holds p exactly when it is another one that is linked to p.
module _ {p : ℕ} {s : Node} where
  holder_linked : is_holder p s ≡ true → (number s ≢ p) × Linked s p
  holder_linked e =
      let w = and_both (not (eqb (number s) p)) (names p s) e in
      (eqb-false (number s) p (not-true (eqb (number s) p) w.0), names_linked p s w.1)

  linked_holder : number s ≢ p → Linked s p → is_holder p s ≡ true
  linked_holder h l = rw (ne_eqb (number s) p h) (linked_names p s l)

-- what is found is the smallest of those that hold p; where nothing is found, nobody does
pub record Smallest (p : ℕ) (line : Line) (q : ℕ) : Type 0 where
  pub node : Node
  pub member : Member node line
  pub named : number node ≡ q
  pub holds : is_holder p node ≡ true
  pub least : (t : Node) → Member t line → is_holder p t ≡ true → q ≤ number t

abbrev pub Found : ℕ → Line → Option ℕ → Type 0
Found p line None = (s : Node) → Member s line → is_holder p s ≡ true → ⊥
Found p line (Some q) = Smallest p line q

pub holder_found : (p : ℕ) (line : Line) → Found p line (holder_of p line)
unfolding holder_of
holder_found p [] = λ s m e. Memᴰ.not-nil m
holder_found p (s ∷ line) = go (is_holder p s) refl (holder_of p line) (holder_found p line)
  where
    -- it is s alone, s before another, another before s, or another alone
    alone : is_holder p s ≡ true → ((t : Node) → Member t line → is_holder p t ≡ true → number s ≤ number t) → Smallest p (s ∷ line) (number s)
    alone e h = record { node = s; member = here refl; named = refl; holds = e; least = λ t m k. ⊎_elim (λ z. omega (arith, ap number z)) (λ i. h t i k) (Memᴰ.cases_cons m) }

    other : {q : ℕ} → Smallest p line q → (is_holder p s ≡ true → q ≤ number s) → Smallest p (s ∷ line) q
    other w h = record {
      node = w.node;
      member = there w.member;
      named = w.named;
      holds = w.holds;
      least = λ t m k. ⊎_elim (λ z. rw z (h (rw (← z) k))) (λ i. w.least t i k) (Memᴰ.cases_cons m);
    }

    both : (q : ℕ) → is_holder p s ≡ true → Smallest p line q → (b : Bool) → ltb q (number s) ≡ b → Smallest p (s ∷ line) (cond b q (number s))
    both q e w true h = other w (λ k. omega (arith, ltb-true q (number s) h))
    both q e w false h = alone e (λ t m k. omega (arith, w.least t m k, ltb-false q (number s) h))

    go : (b : Bool) → is_holder p s ≡ b → (o : Option ℕ) → Found p line o → Found p (s ∷ line) (smaller b (number s) o)
    go true e None h = alone e (λ t m k. absurd (h t m k))
    go true e (Some q) w = both q e w (ltb q (number s)) refl
    go false e None h = λ t m k. ⊎_elim (λ z. clash (rw (← z) k) e) (λ i. h t i k) (Memᴰ.cases_cons m)
    go false e (Some q) w = other w (λ k. clash k e)

-- the smallest is the holder that the paper asks for
smallest_holder : {p q : ℕ} {line : Line} → Smallest p line q → Holder line p q
smallest_holder {p} {q} {line} w = record {
  other = λ e. (holder_linked w.holds).0 (w.named ∙ e);
  linked = link w.node w.member w.named (holder_linked w.holds).1;
  smallest = below;
}
  where
    below : (r : ℕ) → r ≢ p → Link line r p → q ≤ r
    below r h (link s m e l) = rw e at (w.least s m (linked_holder (λ z. h (sym e ∙ z)) l))

-- What `leave_of` says is so, and nothing else is.
module _ (line : Line) (s : Node) where
  pub leave_is : LeaveIs line s (leave_of line s)
  unfolding leave_of
  leave_is = go (is_empty s.bag) refl (holder_of (number s) line) (holder_found (number s) line)
    where
      go : (b : Bool) → is_empty s.bag ≡ b → (o : Option ℕ) → Found (number s) line o → LeaveIs line s (cond b (held_by o) (Err OwnBag))
      go true e None h = record { empty = is_empty_lem s.bag e; unnamed = λ t m i l. h t m (linked_holder i l) }
      go true e (Some q) w = (is_empty_lem s.bag e, smallest_holder w)
      go false e o w = λ h. clash (empty_is h) e

  no_holder : {q : ℕ} → Nidec line s → Holder line (number s) q → ⊥
  no_holder {q} n h = go h.linked
    where
      go : Link line q (number s) → ⊥
      go (link t m e l) = n.unnamed t m (λ z. h.other (sym e ∙ z)) l

  same_reason : (why other : Reason) → Why line s why → Why line s other → why ≡ other
  same_reason OwnBag OwnBag h k = refl
  same_reason OwnBag (HeldBy q) h k = absurd (h k.0)
  same_reason (HeldBy q) OwnBag h k = absurd (k h.0)
  same_reason (HeldBy q) (HeldBy r) h k =
      let a = h.1.smallest r k.1.other k.1.linked in
      let b = k.1.smallest q h.1.other h.1.linked in
      ap HeldBy (omega arith)

  not_both : (why : Reason) → Nidec line s → Why line s why → ⊥
  not_both OwnBag n h = h n.empty
  not_both (HeldBy q) n h = no_holder n h.1

  leave_once : (a b : Leave) → LeaveIs line s a → LeaveIs line s b → a ≡ b
  leave_once (Ok _) (Ok _) h k = refl
  leave_once (Ok _) (Err why) h k = absurd (not_both why h k)
  leave_once (Err why) (Ok _) h k = absurd (not_both why k h)
  leave_once (Err why) (Err other) h k = ap Err (same_reason why other h k)

  reason_there : (l : Leave) → LeaveIs line s l → ¬ Nidec line s → (why : Reason) × Why line s why
  reason_there (Ok _) h n = absurd (n h)
  reason_there (Err why) h n = (why, h)

pub leave_tested : LeaveTested
leave_tested line s l = (λ e. subst (LeaveIs line s) e (leave_is line s), λ h. leave_once line s (leave_of line s) l (leave_is line s) h)

pub reason_exactly : ReasonExactly
reason_exactly line s = (λ w n. not_both line s w.0 n w.1, reason_there line s (leave_of line s) (leave_is line s))

pub reason_once : ReasonOnce
reason_once line s = same_reason line s
