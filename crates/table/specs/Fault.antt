-- Whether a table is accepted (document 01, "The numbers a crew may see", 1 to 7).
use Rattle.std.specs.Prelude.{ℕ, ◌/◌, ◌%◌, Bool, cond, List, [], ◌∷◌, eqb, leb, length}
use Rattle.lists.specs.Lists.{all}
use Rattle.line.specs.Node.{numbers}
use Rattle.line.specs.Accepted.{has_sides, names_present}
use Rattle.lists.specs.Numbers.{are_distinct}
use Rattle.block.specs.Layout.{check_holds, fields_hold}
use Rattle.table.specs.Blocks.{blocks, nodes}

-- a number, and whether what it stands for is in order
pub record Test : Type 0 where
  pub number : ℕ
  pub holds : Bool

-- the number of the first test that does not hold, or 0
unfoldable pub first_failing : List Test → ℕ
first_failing [] = 0
first_failing (x ∷ l) = cond x.holds (first_failing l) x.number

-- "A table with several faults gets the smallest number that applies to any of its blocks, so block order plays no part."
unfoldable pub fault_of : List ℕ → ℕ
fault_of t =
    first_failing
    (record { number = 1; holds = eqb (length t % 512) 0 }
    ∷ record { number = 2; holds = leb (length t / 512) 64 }
    ∷ record { number = 3; holds = all check_holds (blocks t) }
    ∷ record { number = 4; holds = all fields_hold (blocks t) }
    ∷ record { number = 5; holds = all has_sides (nodes t) }
    ∷ record { number = 6; holds = are_distinct (numbers (nodes t)) }
    ∷ record { number = 7; holds = all (names_present (nodes t)) (nodes t) }
    ∷ [])
