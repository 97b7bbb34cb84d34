-- Laws of the two sides, each said once over a side.
use mathlib.Core.Path.{◌≡◌, refl}
use Rattle.std.specs.Prelude.{Some, None}
use Rattle.line.specs.Types.{Neighbour}
use mathlib.Core.Logic.{◌≢◌, ◌⊎◌, inl, inr}
use mathlib.Core.Bool.{Bool, true, false, cond}
use mathlib.Core.List.{List}
use Prim.Native.Nat.{ℕ}
use native.Mathlib.Omega.{arith}
use lib.Dec.{ltb}
use borrow.Author.Tests.{ltb-true, ltb-false, lt-ltb}
use Rattle.line.specs.declared.Message.{Message}
use Rattle.line.specs.declared.Station as declared
use Rattle.line.specs.declared.Side.{Side}
use Rattle.line.specs.declared.Side.TheVariants.{Left, Right}
use Rattle.line.specs.Node.{Node, Beyond, beyond, side_of, neighbour, with_neighbour}
use Rattle.line.specs.Links.{Linked, by_neighbour, by_introduction}
use Rattle.line.specs.Accepted.{Sided}

pub station_inj : {a b : ℕ} → Some a ≡ Some b → a ≡ b
station_inj e = cc

pub none_station : {a : ℕ} {C : Type 0} → None ≡ Some a → C
none_station e = absurd (let z : ◌≡◌ {A = ℕ} 0 1 = cc in omega arith)

-- by the side that was told
pub beyond_left : (d : Side) (p q : ℕ) → d ≡ Left → ltb q p ≡ beyond d p q
unfolding beyond
beyond_left d p q e = rw e

pub beyond_right : (d : Side) (p q : ℕ) → d ≡ Right → ltb p q ≡ beyond d p q
unfolding beyond
beyond_right d p q e = rw e

pub beyond_true : (d : Side) (p q : ℕ) → beyond d p q ≡ true → Beyond d p q
unfolding beyond
beyond_true Left p q e = ltb-true q p e
beyond_true Right p q e = ltb-true p q e

pub true_beyond : (d : Side) (p q : ℕ) → Beyond d p q → beyond d p q ≡ true
unfolding beyond
true_beyond Left p q h = lt-ltb q p h
true_beyond Right p q h = lt-ltb p q h

pub beyond_other : (d : Side) (p q : ℕ) → Beyond d p q → q ≢ p
beyond_other Left p q h e = omega arith
beyond_other Right p q h e = omega arith

pub side_of_beyond : (p q : ℕ) → q ≢ p → Beyond (side_of p q) p q
unfolding side_of
side_of_beyond p q h = go (ltb p q) refl
  where
    go : (t : Bool) → ltb p q ≡ t → Beyond (cond t Right Left) p q
    go true e = ltb-true p q e
    go false e = omega (arith, ltb-false p q e, h)

-- the neighbour on one side is changed
module _ (d : Side) (k : Neighbour) (p : declared.Station) where
  pub changed_number : (with_neighbour d k p).number ≡ p.number
  unfolding with_neighbour
  changed_number = elim d as (λ (e : Side). (with_neighbour e k p).number ≡ p.number) [ Left ↦ refl | Right ↦ refl ]

  pub changed_marks : (with_neighbour d k p).marks ≡ p.marks
  unfolding with_neighbour
  changed_marks = elim d as (λ (e : Side). (with_neighbour e k p).marks ≡ p.marks) [ Left ↦ refl | Right ↦ refl ]

  pub changed_neighbour : neighbour d (with_neighbour d k p) ≡ k
  unfolding with_neighbour
  changed_neighbour = elim d as (λ (e : Side). neighbour e (with_neighbour e k p) ≡ k) [ Left ↦ refl | Right ↦ refl ]

abbrev pub node : declared.Station → List Message → Node
node p b = record { station = p; bag = b }

-- the links after: the new neighbour, and old ones
pub changed_links : (d : Side) (k : Neighbour) (p : declared.Station) (b : List Message) {y : ℕ} → Linked (node (with_neighbour d k p) b) y → (k ≡ Some y) ⊎ Linked (node p b) y
unfolding with_neighbour
changed_links Left k p b (by_neighbour Left e) = inl e
changed_links Left k p b (by_neighbour Right e) = inr (by_neighbour Right e)
changed_links Left k p b (by_introduction m) = inr (by_introduction m)
changed_links Right k p b (by_neighbour Right e) = inl e
changed_links Right k p b (by_neighbour Left e) = inr (by_neighbour Left e)
changed_links Right k p b (by_introduction m) = inr (by_introduction m)

-- the links before: the old neighbour, and those that stay
pub links_changed : (d : Side) (k : Neighbour) (p : declared.Station) (b : List Message) {y : ℕ} → Linked (node p b) y → (neighbour d p ≡ Some y) ⊎ Linked (node (with_neighbour d k p) b) y
unfolding with_neighbour
links_changed Left k p b (by_neighbour Left e) = inl e
links_changed Left k p b (by_neighbour Right e) = inr (by_neighbour Right e)
links_changed Left k p b (by_introduction m) = inr (by_introduction m)
links_changed Right k p b (by_neighbour Right e) = inl e
links_changed Right k p b (by_neighbour Left e) = inr (by_neighbour Left e)
links_changed Right k p b (by_introduction m) = inr (by_introduction m)

pub changed_sided : (d : Side) (k : Neighbour) (p : declared.Station) (b : List Message) → Sided (node p b) → ((q : ℕ) → k ≡ Some q → Beyond d p.number q)
    → Sided (node (with_neighbour d k p) b)
unfolding with_neighbour
changed_sided Left k p b h f Left q e = f q e
changed_sided Left k p b h f Right q e = h Right q e
changed_sided Right k p b h f Right q e = f q e
changed_sided Right k p b h f Left q e = h Left q e
