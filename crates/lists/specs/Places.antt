-- Elements by their places: one taken out, the first that passes a test, and numbers in turn.
use Rattle.std.specs.Prelude.{ℕ, zero, suc, Bool, cond, List, [], ◌∷◌, ◌++◌, take, drop}

-- without the element at i
unfoldable pub remove_at : {A : Type 0} → ℕ → List A → List A
remove_at i l = take i l ++ drop (suc i) l

-- where the first element that passes stands; the length where none does
unfoldable pub first_at : {A : Type 0} → (A → Bool) → List A → ℕ
first_at f [] = 0
first_at f (x ∷ l) = cond (f x) 0 (suc (first_at f l))

-- n numbers from k on
unfoldable pub range : ℕ → ℕ → List ℕ
range k zero = []
range k (suc n) = k ∷ range (suc k) n
