-- The blocks of a table, the stations that they hold, and the table of a line (document 01, "The block").
use Rattle.std.specs.Prelude.{ℕ, ◌*◌, ◌/◌, List, [], ◌∷◌, ◌++◌, map, length, take, drop}
use Rattle.lists.specs.Places.{range}
use Rattle.line.specs.Node.{Line, in_written_order}
use Rattle.block.specs.Layout.{node_of}
use Rattle.writing.specs.Encoding.{encode}

-- "A table is a run of 512-byte blocks, one per station."
unfoldable pub block_at : List ℕ → ℕ → List ℕ
block_at t k = take 512 (drop (512 * k) t)

unfoldable pub blocks : List ℕ → List (List ℕ)
blocks t = map (block_at t) (range 0 (length t / 512))

-- the stations of a table in stored order
unfoldable pub nodes : List ℕ → Line
nodes t = map node_of (blocks t)

-- "Reading takes blocks and messages in any order."
unfoldable pub line_of : List ℕ → Line
line_of t = in_written_order (nodes t)

-- "Writing is in one order only": the blocks of a line, one after another
unfoldable pub bytes_of : Line → List ℕ
bytes_of [] = []
bytes_of (s ∷ line) = encode s ++ bytes_of line
