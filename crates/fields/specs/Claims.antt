-- What is proved of the fields (the proofs are in proofs/, under the same names in snake case): the tests say what document 01 says ("The block").
use Rattle.std.specs.Prelude.{ℕ, ◌≤◌, ◌≡◌, ◌↔◌, ◌⊎◌, true}
use Rattle.fields.specs.Fields.{place_of, is_good}

-- "1 to 999,999"
abbrev pub Ranged : ℕ → Type 0
Ranged n = (1 ≤ n) × (n ≤ 999999)

-- "A message place holds a kind (2 bytes: 1 introduction, 2 remove-left, 3 remove-right), two zero bytes and a number (4 bytes: 1 to
-- 999,999 for kind 1, 0 for kinds 2 and 3)."
abbrev pub IsMessage : ℕ → ℕ → ℕ → Type 0
IsMessage kind zeros number = (zeros ≡ 0) × (((kind ≡ 1) × Ranged number) ⊎ (((kind ≡ 2) ⊎ (kind ≡ 3)) × (number ≡ 0)))

abbrev pub PlaceTested : Type 0
PlaceTested = (kind zeros number : ℕ) → (is_good (place_of kind zeros number) ≡ true) ↔ IsMessage kind zeros number
