-- A list written one element after another, whatever an element is written as.
use Prim.Native.Nat.{ℕ, suc, ◌*◌, ◌<◌}
use mathlib.Core.Path.{◌≡◌, ap, ◌∙◌}
use mathlib.Core.List.{List, [], ◌∷◌, ◌++◌, append_assoc}
use native.Mathlib.Omega.{arith}
use native.Mathlib.Nat.{mul-zero, mul-suc}
use lib.ListN.{length, get_or, take, drop, length-append}
use lib.Seq.{split_at, take_at, drop_at, length-take-le}

-- f writes one element, g a list of them
module _ {A B : Type 0} (f : A → List B) (g : List A → List B) (none : g [] ≡ []) (more : (x : A) (l : List A) → g (x ∷ l) ≡ f x ++ g l) where
  pub joined_append : (a b : List A) → g (a ++ b) ≡ g a ++ g b
  joined_append [] b = rw none
  joined_append (x ∷ a) b = rw (more x (a ++ b), more x a, joined_append a b, append_assoc)

  -- element k with what is written before and after it
  pub joined_split : (l : List A) (k : ℕ) (d : A) → k < length l → g l ≡ g (take k l) ++ (f (get_or l k d) ++ g (drop (suc k) l))
  joined_split l k d h = ap g (split_at l k d h) ∙ joined_append (take k l) (get_or l k d ∷ drop (suc k) l) ∙ rw (more (get_or l k d) (drop (suc k) l))

  -- each element is written in n places
  module _ (n : ℕ) (each : (x : A) → length (f x) ≡ n) where
    pub joined_size : (l : List A) → length (g l) ≡ n * length l
    joined_size [] = rw (none, mul-zero n)
    joined_size (x ∷ l) = rw (more x l, mul-suc n (length l)) (omega (arith, length-append (f x) (g l), each x, joined_size l))

    pub joined_at : (l : List A) (rest : List B) (k : ℕ) (d : A) → k < length l → take n (drop (n * k) (g l ++ rest)) ≡ f (get_or l k d)
    joined_at l rest k d h =
        let before = g (take k l) in
        let x = get_or l k d in
        let after = g (drop (suc k) l) in
        let size : length before ≡ n * k = joined_size (take k l) ∙ ap (λ (m : ℕ). n * m) (length-take-le k l (omega arith)) in
        rw (
          joined_split l k d h,
          append_assoc before (f x ++ after) rest,
          drop_at before ((f x ++ after) ++ rest) (n * k) size,
          append_assoc (f x) after rest,
        )
        (take_at (f x) (after ++ rest) n (each x))
