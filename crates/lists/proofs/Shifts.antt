-- Shifting the first n elements of an array down by one place, one store at a time.
use mathlib.Core.Path.{◌≡◌, refl, ap, ◌∙◌}
use mathlib.Core.List.{List, [], ◌∷◌}
use Prim.Native.Nat.{ℕ, zero, suc, ◌+◌, ◌<◌}
use native.Mathlib.Nat.{le_of_suc-le-suc, not-suc-le-zero}
use native.Mathlib.Numerals.{add-one}
use native.Mathlib.Omega.{arith}
use lib.ListN.{length, get_or, take, set}
use lib.Seq.{take-take, take-set-lt, length-take-le, get_or-take}
use Rattle.lists.specs.Places.{remove_at}

module _ {A : Type 0} where
  down_list : (l : List A) (i : ℕ) (d : A) → suc i < length l → remove_at i l ≡ remove_at (suc i) (set l i (get_or l (suc i) d))
  unfolding remove_at
  down_list [] i d h = absurd (not-suc-le-zero h)
  down_list (x ∷ []) zero d h = absurd (not-suc-le-zero (le_of_suc-le-suc h))
  down_list (x ∷ y ∷ l) zero d h = refl
  down_list (x ∷ l) (suc i) d h = ap (λ (r : List A). x ∷ r) (down_list l i d (le_of_suc-le-suc h))

  -- a turn of the shift down: what stands after i is stored at i; m is the last place
  pub down : (m : ℕ) (a : List A) (i : ℕ) (d : A) → i < m → m < length a
      → remove_at i (take (m + 1) a) ≡ remove_at (i + 1) (take (m + 1) (set a i (get_or a (i + 1) d)))
  down m a i d h k =
      let e : length (take (m + 1) a) ≡ m + 1 = length-take-le (m + 1) a (omega arith) in
      let g : get_or (take (m + 1) a) (suc i) d ≡ get_or a (i + 1) d = get_or-take (m + 1) a (suc i) d (omega arith) ∙ rw add-one in
      let t : take (m + 1) (set a i (get_or a (i + 1) d)) ≡ set (take (m + 1) a) i (get_or a (i + 1) d) = take-set-lt (m + 1) a i _ (omega arith) in
      down_list (take (m + 1) a) i d (omega arith) ∙ rw (g, t, add-one i)

  down_list_end : (m : ℕ) (l : List A) → length l ≡ suc m → remove_at m l ≡ take m l
  unfolding remove_at
  down_list_end zero [] h = refl
  down_list_end (suc m) [] h = refl
  down_list_end zero (x ∷ []) h = refl
  down_list_end zero (x ∷ y ∷ l) h = absurd (omega arith)
  down_list_end (suc m) (x ∷ l) h = ap (λ (r : List A). x ∷ r) (down_list_end m l (omega arith))

  -- after the last turn the last place is left out
  pub down_end : (m : ℕ) (a : List A) → m < length a → remove_at m (take (m + 1) a) ≡ take m a
  down_end m a h =
      let e : length (take (m + 1) a) ≡ m + 1 = length-take-le (m + 1) a (omega arith) in
      down_list_end m (take (m + 1) a) (omega arith) ∙ take-take m (m + 1) a (omega arith)
