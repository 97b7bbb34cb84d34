-- Lists of numbers: rising, and no two equal; each as a statement and as a test.
use Rattle.std.specs.Prelude.{ℕ, ◌<◌, ◌≢◌, Bool, true, not, ◌&&◌, List, [], ◌∷◌, eqb, ltb}
use mathlib.Core.List.{Memᴰ as Member}
use Rattle.lists.specs.Lists.{all}

-- each element stands in a relation to every element behind it
abbrev pub Pairwise : {A : Type 0} → (A → A → Type 0) → List A → Type 0
Pairwise R [] = Unit {0}
Pairwise {A} R (x ∷ l) = ((y : A) → Member y l → R x y) × Pairwise R l

-- numbers rise strictly
abbrev pub Rising : List ℕ → Type 0
Rising l = Pairwise (λ (n k : ℕ). n < k) l

-- each number is below the next
unfoldable pub rises : List ℕ → Bool
rises [] = true
rises (x ∷ []) = true
rises (x ∷ y ∷ l) = ltb x y && rises (y ∷ l)

-- no two are equal
abbrev pub Distinct : List ℕ → Type 0
Distinct l = Pairwise (λ (n k : ℕ). n ≢ k) l

unfoldable pub are_distinct : List ℕ → Bool
are_distinct [] = true
are_distinct (n ∷ l) = all (λ (k : ℕ). not (eqb n k)) l && are_distinct l
