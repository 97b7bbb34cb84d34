-- Little-endian integers, sums of words and zero bytes (document 01, "The block").
use Rattle.std.specs.Prelude.{ℕ, ◌+◌, ◌*◌, ◌/◌, ◌%◌, ◌<◌, Bool, true, ◌&&◌, List, [], ◌∷◌, ◌++◌, length, take, drop, ◌==◌, slice_index, slice_range}

-- "Integers are little-endian": 16 and 32 bits at index i
abbrev pub word : List ℕ → ℕ → ℕ
word b i = slice_index b i + 256 * slice_index b (i + 1)

abbrev pub quad : List ℕ → ℕ → ℕ
quad b i = word b i + 65536 * word b (i + 2)

-- a number in 2 and in 4 bytes
abbrev pub le16 : ℕ → List ℕ
le16 x = x % 256 ∷ x / 256 % 256 ∷ []

abbrev pub le32 : ℕ → List ℕ
le32 x = le16 (x % 65536) ++ le16 (x / 65536)

-- the sum of the words of a list
unfoldable pub sum_words : List ℕ → ℕ
sum_words [] = 0
sum_words (x ∷ []) = x
sum_words (x ∷ y ∷ l) = x + 256 * y + sum_words l

-- the bytes from index a up to e
abbrev pub part : List ℕ → ℕ → ℕ → List ℕ
part b a e = slice_range b a e

unfoldable pub all_zero : List ℕ → Bool
all_zero [] = true
all_zero (x ∷ l) = x == 0 && all_zero l

-- l with the bytes vs from index i on
unfoldable pub overwrite : ℕ → List ℕ → List ℕ → List ℕ
overwrite i vs l = take i l ++ (vs ++ drop (i + length vs) l)

-- every element is a byte
abbrev pub AreBytes : List ℕ → Type 0
AreBytes b = (i : ℕ) → slice_index b i < 256
