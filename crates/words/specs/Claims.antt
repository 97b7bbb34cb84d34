-- What is proved of the texts' definitions (the proofs are in proofs/, under the same names in snake case).
use Rattle.std.specs.Prelude.{ℕ, suc, ◌/◌, ◌%◌, ◌^◌, ◌<◌, ◌≤◌, ◌≡◌, cond, [], ◌∷◌, ◌++◌, ltb, length}
use Rattle.words.specs.Words.{ascii, digit, decimal}

-- A number is written as its one digit or as its tenth part and then its last digit, however large it is.
abbrev pub DecimalStep : Type 0
DecimalStep = (n : ℕ) → decimal n ≡ cond (ltb n 10) (digit n ∷ []) (decimal (n / 10) ++ (digit (n % 10) ∷ []))

-- Below 10 to the power k + 1 it has at most k + 1 digits, and so at most ten in 32 bits.
abbrev pub FewDigits : Type 0
FewDigits = (k n : ℕ) → n < 10 ^ suc k → length (decimal n) ≤ suc k

pub record NumberExample : Type 0 where
  pub largest : decimal 999999 ≡ ascii "999999"
  pub zero : decimal 0 ≡ ascii "0"
