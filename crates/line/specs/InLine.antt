-- In line, a term of document 01 ("What a step does at station p") that document 02, T-04, makes stricter, so that it lasts.
use Rattle.std.specs.Prelude.{ℕ, ◌≡◌, Bool, true, false, not, ◌&&◌, [], ◌∷◌, eqb, Some, None}
use Rattle.line.specs.Types.{Neighbour}
use mathlib.Core.List.{Memᴰ as Member}
use Rattle.lists.specs.Lists.{all, any}
use Rattle.line.specs.declared.Side.{Side}
use Rattle.line.specs.Message.{removal, is_removal}
use Rattle.line.specs.Node.{Node, Line, number, leaving, Present, Beyond, neighbour}

-- q is the next station present on side d of p: none lies between them
pub record Next (line : Line) (d : Side) (p q : ℕ) : Type 0 where
  pub present : Present line q
  pub beyond : Beyond d p q
  pub nearest : (r : ℕ) → Present line r → Beyond d p r → ¬ Beyond d r q

abbrev pub IsNext : Line → Side → ℕ → Neighbour → Type 0
IsNext line d p None = (r : ℕ) → Present line r → ¬ Beyond d p r
IsNext line d p (Some q) = Next line d p q

-- Document 01's condition, the term as it was: "In line: each station's left is the next smaller station present, none for the smallest, and
-- likewise its right. The empty table is in line."
abbrev pub NeighboursInLine : Line → Type 0
NeighboursInLine line = (s : Node) → Member s line → (d : Side) → IsNext line d (number s) (neighbour d s.station)

-- no removal waits in any bag, wherever in it
abbrev pub Quiet : Line → Type 0
Quiet line = (s : Node) → Member s line → (d : Side) → ¬ Member (removal d) s.bag

-- no station has the leaving mark
abbrev pub AllStay : Line → Type 0
AllStay line = (s : Node) → Member s line → leaving s ≡ false

-- "From now on a table is in line when":
pub record InLine (line : Line) : Type 0 where
  -- "the neighbours are as before"
  pub neighbours : NeighboursInLine line
  -- "no bag holds a remove-left or remove-right"; "Introductions may still wait"
  pub quiet : Quiet line
  -- "and no station is leaving"
  pub staying : AllStay line

-- The tests, tied to the statements by `NeighboursTested` and `InLineTested` of Claims.antt.
unfoldable pub is_same : Neighbour → Neighbour → Bool
is_same None None = true
is_same None (Some n) = false
is_same (Some m) None = false
is_same (Some m) (Some n) = eqb m n

unfoldable pub first : Line → Neighbour
first [] = None
first (s ∷ line) = Some (number s)

-- of a line in written order: the station before is the left, the station after is the right
unfoldable pub neighbours_after : Neighbour → Line → Bool
neighbours_after before [] = true
neighbours_after before (s ∷ line) =
    is_same s.station.left before && (is_same s.station.right (first line) && neighbours_after (Some (number s)) line)

unfoldable pub neighbours_in_line : Line → Bool
neighbours_in_line line = neighbours_after None line

-- of one station: its bag holds no removal; it stays
unfoldable pub is_quiet : Node → Bool
is_quiet s = not (any is_removal s.bag)

abbrev pub stays : Node → Bool
stays s = not (leaving s)

unfoldable pub in_line : Line → Bool
in_line line = neighbours_in_line line && (all is_quiet line && all stays line)
