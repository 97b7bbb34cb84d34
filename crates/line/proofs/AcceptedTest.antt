-- The test `accepted` says what Accepted says.
use mathlib.Core.Path.{◌≡◌, refl, sym, ◌∙◌, ap}
use Rattle.std.specs.Prelude.{Some, None}
use Rattle.line.specs.Types.{Neighbour}
use mathlib.Core.Logic.{◌↔◌}
use mathlib.Core.Bool.{Bool, true, ◌&&◌}
use mathlib.Core.List.Memᴰ
use mathlib.Core.List.{Memᴰ as Member}
use Prim.Native.Nat.{ℕ, ◌≤◌}
use native.Mathlib.Omega.{arith}
use lib.Dec.{eqb, leb}
use borrow.Author.Tests.{leb-true, le-leb, eqb-true, eq-eqb}
use lib.ListN.{length}
use Rattle.lists.proofs.Distinct.{are_distinct_lem}
use Rattle.line.specs.declared.Content.{Content}
use Rattle.line.specs.declared.Content.TheVariants.{Introduction, RemoveLeft, RemoveRight}
use Rattle.line.specs.declared.Message.{Message}
use Rattle.line.specs.declared.Side.{Side}
use Rattle.line.specs.declared.Side.TheVariants.{Left, Right}
use Rattle.lists.specs.Lists.{all}
use Rattle.line.specs.Message.{introduction, capacity}
use Rattle.line.specs.Marks.{marks_hold}
use Rattle.line.specs.Node.{Node, Line, number, numbers, Present, Beyond, neighbour}
use Rattle.line.specs.Links.{Linked, by_neighbour, by_introduction}
use Rattle.lists.specs.Numbers.{are_distinct}
use Rattle.line.specs.Accepted.{Sided, Accepted, in_range, has_small_bag, lies_beyond, has_sides, is_present, knows_neighbour, knows_content, names_present, accepted}
use Rattle.line.specs.Claims.{AcceptedTested}
use Rattle.lists.proofs.Lists.{and_both, both_and, all_true, true_all, any_true, true_any, mem-map}
use Rattle.line.proofs.Sides.{none_station, station_inj, beyond_true, true_beyond}
use Rattle.line.proofs.Changes.{node_of_lem}

pub in_range_lem : (n : ℕ) → (in_range n ≡ true) ↔ ((1 ≤ n) × (n ≤ 999999))
unfolding in_range
in_range_lem n = (
  λ e. let h = and_both (leb 1 n) (leb n 999999) e in (leb-true 1 n h.0, leb-true n 999999 h.1),
  λ h. both_and (le-leb 1 n h.0) (le-leb n 999999 h.1),
)

pub small_bag : (s : Node) → (has_small_bag s ≡ true) ↔ (length s.bag ≤ capacity)
unfolding has_small_bag
small_bag s = (leb-true (length s.bag) capacity, le-leb (length s.bag) capacity)

-- a neighbour on its side
lies_beyond_lem : (d : Side) (p : ℕ) (k : Neighbour) → (lies_beyond d p k ≡ true) ↔ ((q : ℕ) → k ≡ Some q → Beyond d p q)
unfolding lies_beyond
lies_beyond_lem d p None = (λ e q z. none_station z, λ h. refl)
lies_beyond_lem d p (Some r) = (λ e q z. beyond_true d p q (rw (station_inj z) at e), λ h. true_beyond d p r (h r refl))

pub has_sides_lem : (s : Node) → (has_sides s ≡ true) ↔ Sided s
unfolding has_sides
has_sides_lem s = (
  λ e. let h = and_both (lies_beyond Left (number s) s.station.left) (lies_beyond Right (number s) s.station.right) e in
      λ d. elim d as (λ (d : Side). (q : ℕ) → neighbour d s.station ≡ Some q → Beyond d (number s) q) [
        | Left ↦ (lies_beyond_lem Left (number s) s.station.left).0 h.0
        | Right ↦ (lies_beyond_lem Right (number s) s.station.right).0 h.1
      ],
  λ h. both_and ((lies_beyond_lem Left (number s) s.station.left).1 (h Left)) ((lies_beyond_lem Right (number s) s.station.right).1 (h Right)),
)

module _ (line : Line) where
  pub is_present_lem : (n : ℕ) → (is_present line n ≡ true) ↔ Present line n
  unfolding is_present
  is_present_lem n = (
    λ e. let w = any_true (λ (s : Node). eqb n (number s)) line e in Memᴰ.cast (eqb-true n (number w.0) w.2) (mem-map number w.1),
    λ m. let w = node_of_lem line m in true_any (λ (s : Node). eqb n (number s)) w.1 (eq-eqb n (number w.0) w.2),
  )

  knows_neighbour_lem : (k : Neighbour) → (knows_neighbour line k ≡ true) ↔ ((q : ℕ) → k ≡ Some q → Present line q)
  unfolding knows_neighbour
  knows_neighbour_lem None = (λ e q z. none_station z, λ h. refl)
  knows_neighbour_lem (Some r) = (λ e q z. rw (station_inj z) at ((is_present_lem r).0 e), λ h. (is_present_lem r).1 (h r refl))

  knows_content_lem : (m : Message) → (knows_content line m.content ≡ true) ↔ ((q : ℕ) → introduction q ≡ m → Present line q)
  unfolding knows_content
  knows_content_lem m = go m.content refl
    where
      message_is : {c : Content} {q : ℕ} → m.content ≡ c → introduction q ≡ m → Introduction q ≡ c
      message_is e z = ap (λ (k : Message). k.content) z ∙ e

      go : (c : Content) → m.content ≡ c → (knows_content line c ≡ true) ↔ ((q : ℕ) → introduction q ≡ m → Present line q)
      go (Introduction r) e = (
        λ k q z. let w = message_is e z in let i : r ≡ q = cc in rw i at ((is_present_lem r).0 k),
        λ h. (is_present_lem r).1 (h r (ap (λ (c : Content). record { content = c }) (sym e))),
      )
      go RemoveLeft e = (λ k q z. let w = message_is e z in absurd (let i : ◌≡◌ {A = ℕ} 0 1 = cc in omega arith), λ h. refl)
      go RemoveRight e = (λ k q z. let w = message_is e z in absurd (let i : ◌≡◌ {A = ℕ} 0 1 = cc in omega arith), λ h. refl)

  heard : Message → Bool
  heard m = knows_content line m.content

  pub names_present_lem : (s : Node) → (names_present line s ≡ true) ↔ ((q : ℕ) → Linked s q → Present line q)
  unfolding names_present heard
  names_present_lem s = (forth, back)
    where
      forth : names_present line s ≡ true → (q : ℕ) → Linked s q → Present line q
      forth e q l = go l
        where
          parts : ((knows_neighbour line s.station.left && knows_neighbour line s.station.right) ≡ true) × (all heard s.bag ≡ true)
          parts = and_both (knows_neighbour line s.station.left && knows_neighbour line s.station.right) (all heard s.bag) e

          sides : (knows_neighbour line s.station.left ≡ true) × (knows_neighbour line s.station.right ≡ true)
          sides = and_both (knows_neighbour line s.station.left) (knows_neighbour line s.station.right) parts.0

          go : Linked s q → Present line q
          go (by_neighbour Left h) = (knows_neighbour_lem s.station.left).0 sides.0 q h
          go (by_neighbour Right h) = (knows_neighbour_lem s.station.right).0 sides.1 q h
          go (by_introduction m) = (knows_content_lem (introduction q)).0 (all_true heard parts.1 m) q refl

      back : ((q : ℕ) → Linked s q → Present line q) → names_present line s ≡ true
      back h =
          both_and
          (both_and ((knows_neighbour_lem s.station.left).1 (λ q z. h q (by_neighbour Left z))) ((knows_neighbour_lem s.station.right).1 (λ q z. h q (by_neighbour Right z))))
          (true_all heard s.bag (λ m k. (knows_content_lem m).1 (λ q z. h q (by_introduction (Memᴰ.cast z k)))))

-- a test of every node, and what it says of every node
every : (f : Node → Bool) (P : Node → Type 0) → ((s : Node) → (f s ≡ true) ↔ P s) → (line : Line) → (all f line ≡ true) ↔ ((s : Node) → Member s line → P s)
every f P t line = (λ e s m. (t s).0 (all_true f e m), λ h. true_all f line (λ s m. (t s).1 (h s m)))

pub accepted_tested : AcceptedTested
unfolding accepted
accepted_tested line = (forth, back)
  where
    ranged : (s : Node) → (in_range (number s) ≡ true) ↔ ((1 ≤ number s) × (number s ≤ 999999))
    ranged s = in_range_lem (number s)

    forth : accepted line ≡ true → Accepted line
    forth e =
        let a = and_both (leb (length line) 64) _ e in
        let b = and_both (all (λ (s : Node). in_range (number s)) line) _ a.1 in
        let g = and_both (all (λ (s : Node). marks_hold s.station.marks) line) _ b.1 in
        let c = and_both (all has_small_bag line) _ g.1 in
        let d = and_both (all has_sides line) _ c.1 in
        let f = and_both (are_distinct (numbers line)) (all (names_present line) line) d.1 in
        record {
          few = leb-true (length line) 64 a.0;
          ranged = (every (λ (s : Node). in_range (number s)) _ ranged line).0 b.0;
          marked = λ s m. all_true (λ (t : Node). marks_hold t.station.marks) g.0 m;
          small = (every has_small_bag _ small_bag line).0 c.0;
          sided = (every has_sides _ has_sides_lem line).0 d.0;
          distinct = (are_distinct_lem (numbers line)).0 f.0;
          known = (every (names_present line) _ (names_present_lem line) line).0 f.1;
        }

    back : Accepted line → accepted line ≡ true
    back h =
        both_and (le-leb (length line) 64 h.few)
        (both_and ((every (λ (s : Node). in_range (number s)) _ ranged line).1 h.ranged)
        (both_and (true_all (λ (s : Node). marks_hold s.station.marks) line h.marked)
        (both_and ((every has_small_bag _ small_bag line).1 h.small)
        (both_and ((every has_sides _ has_sides_lem line).1 h.sided)
        (both_and ((are_distinct_lem (numbers line)).1 h.distinct) ((every (names_present line) _ (names_present_lem line) line).1 h.known))))))
