-- What each element is to every element behind it, in lists joined and mapped; and how long a list can be in which nothing stands twice.
use mathlib.Core.Path.{◌≡◌, refl, sym, subst, ◌∙◌}
use mathlib.Core.Logic.{◌≢◌, ⊎_elim}
use mathlib.Core.List.Memᴰ
use mathlib.Core.List.{List, [], ◌∷◌, ◌++◌, map}
use mathlib.Core.List.Memᴰ.{head as here}
use mathlib.Core.List.Memᴰ.{tail as there}
use mathlib.Core.List.{Memᴰ as Member}
use Prim.Native.Nat.{suc, ◌≤◌}
use native.Mathlib.Omega.{arith}
use lib.ListN.{length}
use Rattle.lists.specs.Numbers.{Pairwise}
use Rattle.lists.proofs.Lists.{map-mem}

pub pairwise_append : {A : Type 0} (R : A → A → Type 0) (a b : List A) → Pairwise R a → Pairwise R b → ((x y : A) → Member x a → Member y b → R x y) → Pairwise R (a ++ b)
pairwise_append R [] b p q h = q
pairwise_append R (x ∷ a) b p q h = (
  λ y m. ⊎_elim (p.0 y) (h x y (here refl)) (Memᴰ.append_cases a m),
  pairwise_append R a b p.1 q (λ y z k n. h y z (there k) n),
)

pub pairwise_map : {A B : Type 0} (R : A → A → Type 0) (S : B → B → Type 0) (f : A → B) → ((x y : A) → R x y → S (f x) (f y)) → (l : List A) → Pairwise R l → Pairwise S (map f l)
pairwise_map R S f g [] h = tt
pairwise_map R S f g (x ∷ l) h = (λ y m. let w = map-mem f l m in subst (S (f x)) (sym w.2) (g x w.0 (h.0 w.0 w.1)), pairwise_map R S f g l h.1)

module _ {A : Type 0} where
  -- a list without one of its elements: one element less, and all others are there
  without_one : {x : A} {l : List A} → Member x l → (r : List A) × (length l ≡ suc (length r)) × ((y : A) → Member y l → x ≢ y → Member y r)
  without_one (here {x = z} {xs = r} e) = (r, refl, λ y m h. ⊎_elim (λ (p : y ≡ z). absurd (h (e ∙ sym p))) (λ k. k) (Memᴰ.cases_cons m))
  without_one (there {x = z} {xs = r} m) =
      let w = without_one m in
      (z ∷ w.0, omega (arith, w.1), λ y k h. ⊎_elim here (λ i. there (w.2 y i h)) (Memᴰ.cases_cons k))

  -- a list in which nothing stands twice is no longer than one that has all its elements
  pub no_longer : (R : A → A → Type 0) → ((x : A) → R x x → ⊥) → (a b : List A) → Pairwise R a → ((x : A) → Member x a → Member x b) → length a ≤ length b
  no_longer R s [] b p h = omega arith
  no_longer R s (x ∷ a) b p h =
      let w = without_one (h x (here refl)) in
      let behind : (y : A) → Member y a → Member y w.0 = λ y m. w.2 y (h y (there m)) (λ e. s y (subst (λ (z : A). R z y) e (p.0 y m))) in
      omega (arith, w.1, no_longer R s a w.0 p.1 behind)
