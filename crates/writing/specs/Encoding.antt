-- How a node is written (document 01, "The block"): every byte of its block, the check word last.
use Rattle.std.specs.Prelude.{ℕ, ◌-◌, ◌*◌, ◌%◌, List, [], ◌∷◌, ◌++◌, length, replicate, Some, None}
use Rattle.line.specs.Types.{Neighbour}
use Rattle.line.specs.declared.Message.{Message}
use Rattle.line.specs.Marks.{flags}
use Rattle.line.specs.Message.{kind, carried}
use Rattle.line.specs.Node.{Node, site}
use Rattle.octets.specs.Bytes.{le16, le32, sum_words}

-- "0 for none"
abbrev pub neighbour_number : Neighbour → ℕ
neighbour_number None = 0
neighbour_number (Some n) = n

unfoldable pub place_bytes : Message → List ℕ
place_bytes m = le16 (kind m.content) ++ (le16 0 ++ le32 (carried m.content))

unfoldable pub places_bytes : List Message → List ℕ
places_bytes [] = []
places_bytes (m ∷ l) = place_bytes m ++ places_bytes l

-- bytes 0 to 19
unfoldable pub header : Node → List ℕ
header s =
    le16 1
    ++ (le16 (flags s.station.marks)
    ++ (le32 s.station.number
    ++ (le32 (neighbour_number s.station.left)
    ++ (le32 (neighbour_number s.station.right) ++ (le16 (length s.bag) ++ le16 (site s))))))

-- the check word makes the sum 65,535
unfoldable pub with_check : List ℕ → List ℕ
with_check b = b ++ le16 (65535 - sum_words b % 65536)

-- the block of a node whose bag holds at most 32 messages, in the order of the bag
unfoldable pub encode : Node → List ℕ
encode s = with_check (header s ++ (places_bytes s.bag ++ replicate (490 - 8 * length s.bag) 0))
