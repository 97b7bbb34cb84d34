-- What is proved of the arrays (the proofs are in proofs/, under the same names in snake case).
use Rattle.std.specs.Prelude.{ℕ, ◌*◌, ◌/◌, ◌≤◌, ◌≡◌, List, length, take}
use mathlib.Core.List.{Memᴰ as Member}
use Rattle.line.specs.Message.{capacity}
use Rattle.line.specs.Node.{Node, Line, numbers}
use Rattle.index.specs.Index.{numbers_in}
use Rattle.table.specs.Blocks.{line_of, bytes_of}
use Rattle.table.specs.Index.{index_array}
use Rattle.arrays.specs.Arrays.{line_in}
use Rattle.arrays.specs.Reading.{arrays_of}

-- 1. The arrays that are read from a table of at most 64 blocks, whether or not it is accepted, hold its line.
abbrev pub LineOfTable : Type 0
LineOfTable = (t : List ℕ) → length t / 512 ≤ 64 → line_in (arrays_of t) ≡ line_of t

-- 2. The index has the station numbers of that line.
abbrev pub NumbersOfTable : Type 0
NumbersOfTable = (t : List ℕ) → length t / 512 ≤ 64 → numbers_in (take (length t / 512) (index_array t)) ≡ numbers (line_of t)

-- 3. What is written has 512 bytes for each station.
abbrev pub WrittenSize : Type 0
WrittenSize = (line : Line) → ((s : Node) → Member s line → length s.bag ≤ capacity) → length (bytes_of line) ≡ 512 * length line
