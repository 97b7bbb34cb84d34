-- The sum of the words of a list (document 01, "The block", the check word).
use Rattle.std.proofs.Common.{◌≡◌, ℕ, zero, suc, ◌+◌, ◌*◌, ◌<◌, ◌≤◌, List, [], ◌∷◌, ◌++◌, length, drop, arith, drop_of_length-le}
use Rattle.octets.specs.Bytes.{word, sum_words}
use Rattle.lists.proofs.Elements.{drop_one}

-- the words from i on: the word at i, then those from i + 2 on
pub sum_step : (l : List ℕ) (i : ℕ) → i + 2 ≤ length l → sum_words (drop i l) ≡ word l i + sum_words (drop (i + 2) l)
unfolding sum_words
sum_step l i h =
    let low : i < length l = omega arith in
    let high : i + 1 < length l = omega arith in
    let next : (i + 1) + 1 ≡ i + 2 = omega arith in
    rw (drop_one l 0 i low, drop_one l 0 (i + 1) high, next)

-- nothing is left past the end
pub sum_end : (l : List ℕ) (i : ℕ) → length l ≤ i → sum_words (drop i l) ≡ 0
unfolding sum_words
sum_end l i h = rw (drop_of_length-le l h)

-- the words of a list of even length, then those of another
pub sum_append : (a b : List ℕ) (n : ℕ) → length a ≡ 2 * n → sum_words (a ++ b) ≡ sum_words a + sum_words b
unfolding sum_words
sum_append [] b n e = omega arith
sum_append (x ∷ []) b n e = let odd : ◌≡◌ {A = ℕ} 1 (2 * n) = e in absurd (omega arith)
sum_append (x ∷ y ∷ a) b zero e = absurd (omega (arith, e))
sum_append (x ∷ y ∷ a) b (suc n) e = omega (arith, sum_append a b n (omega (arith, e)))
