-- The check in two parts: what each block says of itself, and what the blocks say of one another (document 01, "The numbers a crew may see").
use Rattle.std.specs.Prelude.{ℕ, cond, List, [], ◌∷◌, eqb, ltb}
use Rattle.lists.specs.Lists.{all}
use Rattle.line.specs.Node.{Line, numbers}
use Rattle.lists.specs.Numbers.{are_distinct}
use Rattle.line.specs.Accepted.{names_present}
use Rattle.block.specs.Layout.{fault_of}

-- the smaller of two faults, where 0 is none
unfoldable pub smaller : ℕ → ℕ → ℕ
smaller a b = cond (eqb a 0) b (cond (eqb b 0) a (cond (ltb a b) a b))

-- "the smallest number that applies to any of its blocks": 3, 4 or 5, or 0 for none
unfoldable pub smallest : List (List ℕ) → ℕ
smallest [] = 0
smallest (b ∷ l) = smaller (fault_of b) (smallest l)

-- "two blocks with one station number" (6), "a neighbour or introduction names a station without a block" (7), or 0
unfoldable pub stations_fault : Line → ℕ
stations_fault line = cond (are_distinct (numbers line)) (cond (all (names_present line) line) 0 7) 6
