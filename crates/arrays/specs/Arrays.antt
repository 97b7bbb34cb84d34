-- The line in arrays (document 01, "The form each place needs"): 64 stations, 64 bags of 32 places, how many places of each bag count, and an
-- index that says in which slots of the arrays the stations of the line stand, one after another.
use Rattle.std.specs.Prelude.{ℕ, List, [], map, get_or, take}
use Rattle.lists.specs.Lists.{sort}
use Rattle.line.specs.declared.Message.{Message}
use Rattle.line.specs.declared.Station as declared
use Rattle.line.specs.Message.{precedes}
use Rattle.line.specs.Node.{Node, Line, nobody}
use Rattle.index.specs.Index.{slot_in}
use Rattle.arrays.specs.declared.Arrays.{Arrays}

-- a station beside its bag: the first c messages of a row, in written order
abbrev pub node_in : declared.Station → List Message → ℕ → Node
node_in s row c = record { station = s; bag = sort precedes (take c row) }

-- what stands in a slot
abbrev pub node_at : Arrays → ℕ → Node
node_at a k = node_in (get_or a.stations k nobody.station) (get_or a.bags k []) (get_or a.counts k 0)

-- the line of the first n entries
unfoldable pub line_in : Arrays → Line
line_in a = map (λ (e : ℕ). node_at a (slot_in e)) (take a.n a.index)
