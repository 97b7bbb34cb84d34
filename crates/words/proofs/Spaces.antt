-- Words behind spaces, in pieces.
use mathlib.Core.Path.{◌≡◌, refl}
use mathlib.Core.List.{List, [], ◌∷◌, ◌++◌, append_assoc, append-nil}
use Prim.Native.Nat.{ℕ}
use Rattle.words.specs.Words.{space, spaced, parted}

-- words behind words
pub spaced_append : (a b : List (List ℕ)) → spaced (a ++ b) ≡ spaced a ++ spaced b
unfolding spaced
spaced_append [] b = refl
spaced_append (w ∷ a) b = rw (spaced_append a b, append_assoc)

-- one word more
pub spaced_more : (a : List (List ℕ)) (w : List ℕ) → spaced a ++ (space ∷ w) ≡ spaced (a ++ (w ∷ []))
unfolding spaced
spaced_more a w = rw (spaced_append a (w ∷ []), append-nil)

-- words that begin a line, and words behind them
pub parted_append : (w : List ℕ) (a b : List (List ℕ)) → parted (w ∷ a) ++ spaced b ≡ parted (w ∷ a ++ b)
unfolding parted
parted_append w a b = rw (spaced_append a b) (append_assoc w (spaced a) (spaced b))
