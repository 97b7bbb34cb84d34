-- A station with its bag, the line of all stations, and their written order (document 01, "What the engine holds" and "The block").
use Rattle.std.specs.Prelude.{ℕ, ◌<◌, Bool, false, cond, List, [], map, ltb, None}
use Rattle.line.specs.Types.{Neighbour}
use mathlib.Core.List.{Memᴰ as Member}
use Rattle.lists.specs.Numbers.{Rising}
use Rattle.line.specs.declared.Message.{Message}
use Rattle.line.specs.declared.Station as declared
use Rattle.line.specs.declared.Side.{Side}
use Rattle.line.specs.declared.Side.TheVariants.{Left, Right}
use Rattle.lists.specs.Lists.{Ordered, sort}
use Rattle.line.specs.Message.{precedes}
use Rattle.line.specs.Marks.{plain, with_site}

pub record Node : Type 0 where
  pub station : declared.Station
  pub bag : List Message

-- no station: number 0, no neighbours, staying, no site code, an empty bag; what arrays hold where no station stands
abbrev pub nobody : Node
nobody = record { station = record { number = 0; left = None; right = None; marks = plain false }; bag = [] }

-- the stations of a table, in any order
abbrev pub Line : Type 0
Line = List Node

abbrev pub number : Node → ℕ
number s = s.station.number

abbrev pub leaving : Node → Bool
leaving s = s.station.marks.leaving

-- "a site code, 0 to 9,999, with 0 for none" (document 02, T-05)
abbrev pub site : Node → ℕ
site s = s.station.marks.site

-- the same station with another site code, without its bag and with it
abbrev pub station_at : ℕ → declared.Station → declared.Station
station_at c p = record { number = p.number; left = p.left; right = p.right; marks = with_site c p.marks }

unfoldable pub at_site : ℕ → Node → Node
at_site c s = record { station = station_at c s.station; bag = s.bag }

abbrev pub numbers : Line → List ℕ
numbers line = map number line

-- station n has a block
abbrev pub Present : Line → ℕ → Type 0
Present line n = Member n (numbers line)

-- Sides. The left of a station is below it, the right above it.
abbrev pub opposite : Side → Side
opposite Left = Right
opposite Right = Left

-- q lies on this side of p: as a statement, and as a test
abbrev pub Beyond : Side → ℕ → ℕ → Type 0
Beyond Left p q = q < p
Beyond Right p q = p < q

unfoldable pub beyond : Side → ℕ → ℕ → Bool
beyond Left p q = ltb q p
beyond Right p q = ltb p q

-- the side of p on which another station q lies
unfoldable pub side_of : ℕ → ℕ → Side
side_of p q = cond (ltb p q) Right Left

abbrev pub neighbour : Side → declared.Station → Neighbour
neighbour Left s = s.left
neighbour Right s = s.right

unfoldable pub with_neighbour : Side → Neighbour → declared.Station → declared.Station
with_neighbour Left n s = record { number = s.number; left = n; right = s.right; marks = s.marks }
with_neighbour Right n s = record { number = s.number; left = s.left; right = n; marks = s.marks }

-- "Writing is in one order only: blocks by rising station number, messages by kind and then by number."
unfoldable pub lower : Node → Node → Bool
lower s t = ltb (number s) (number t)

unfoldable pub with_bag_in_order : Node → Node
with_bag_in_order s = record { station = s.station; bag = sort precedes s.bag }

unfoldable pub in_written_order : Line → Line
in_written_order line = sort lower (map with_bag_in_order line)

pub record Written (line : Line) : Type 0 where
  pub rising : Rising (numbers line)
  pub bags : (s : Node) → Member s line → Ordered precedes s.bag
