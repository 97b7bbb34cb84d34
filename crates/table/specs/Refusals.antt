-- Why a table is refused: the cause of each number in document 01's words over the bytes ("The numbers a crew may see", 1 to 7), tied to
-- `fault_of` by `FaultExactly` of Claims.antt. The numbers are the paper's own, not the names that the definitions cite.
use Rattle.std.specs.Prelude.{ℕ, ◌/◌, ◌%◌, ◌<◌, ◌≡◌, ◌≢◌, List, [], ◌∷◌, length}
use mathlib.Core.List.{Memᴰ as Member}
use Rattle.refusals.specs.Refusals.{Refusal, ◌if◌}
use Rattle.octets.specs.Bytes.{quad, sum_words}
use Rattle.block.specs.Claims.{InLayout, WrongSide, Names}
use Rattle.table.specs.Blocks.{block_at, blocks}

-- "any of its blocks"
abbrev pub SomeBlock : List ℕ → (List ℕ → Type 0) → Type 0
SomeBlock t P = (b : List ℕ) × Member b (blocks t) × P b

-- station q has a block
abbrev pub HasBlock : List ℕ → ℕ → Type 0
HasBlock t q = SomeBlock t (λ b. quad b 4 ≡ q)

-- "two blocks with one station number"
abbrev pub TwoBlocks : List ℕ → Type 0
TwoBlocks t = (i : ℕ) × (j : ℕ) × (i < j) × (j < length t / 512) × (quad (block_at t i) 4 ≡ quad (block_at t j) 4)

-- "A table with several faults gets the smallest number that applies to any of its blocks, so block order plays no part."
abbrev pub table_refusals : List ℕ → List Refusal
table_refusals t =
    -- "table length not a multiple of 512"
    1 if (length t % 512 ≢ 0)
    -- "more than 64 blocks"
    ∷ 2 if (64 < length t / 512)
    -- "a check fails": "The 256 words of 16 bits, added with wrap at 65,536, give 65,535."
    ∷ 3 if SomeBlock t (λ b. sum_words b % 65536 ≢ 65535)
    -- "a field outside the layout above"
    ∷ 4 if SomeBlock t (λ b. ¬ InLayout b)
    -- "a left, where there is one, not below its own station, or a right, where there is one, not above it"
    ∷ 5 if SomeBlock t WrongSide
    ∷ 6 if TwoBlocks t
    -- "a neighbour or introduction names a station without a block"
    ∷ 7 if SomeBlock t (λ b. (q : ℕ) × Names b q × ¬ HasBlock t q)
    ∷ []
