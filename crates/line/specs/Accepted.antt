-- Accepted lines, a term of document 01 ("The numbers a crew may see"): what 2 and 4 to 7 ask of the stations read, in any stored order.
use Rattle.std.specs.Prelude.{ℕ, ◌≤◌, ◌≡◌, Bool, true, ◌&&◌, eqb, leb, length, Some, None}
use Rattle.line.specs.Types.{Neighbour}
use mathlib.Core.List.{Memᴰ as Member}
use Rattle.lists.specs.Numbers.{Distinct, are_distinct}
use Rattle.line.specs.declared.Content.{Content}
use Rattle.line.specs.declared.Content.TheVariants.{Introduction, RemoveLeft, RemoveRight}
use Rattle.line.specs.declared.Message.{Message}
use Rattle.line.specs.declared.Side.{Side}
use Rattle.line.specs.declared.Side.TheVariants.{Left, Right}
use Rattle.lists.specs.Lists.{all, any}
use Rattle.line.specs.Message.{capacity}
use Rattle.line.specs.Marks.{marks_hold}
use Rattle.line.specs.Node.{Node, Line, number, numbers, Present, Beyond, beyond, neighbour}
use Rattle.line.specs.Links.{Linked}

-- "a left, where there is one, not below its own station, or a right, where there is one, not above it" is refused
abbrev pub Sided : Node → Type 0
Sided s = (d : Side) (q : ℕ) → neighbour d s.station ≡ Some q → Beyond d (number s) q

pub record Accepted (line : Line) : Type 0 where
  -- 2: at most 64 blocks
  pub few : length line ≤ 64
  -- 4: "station number, 1 to 999,999", the words of its marks, and "count of messages, 0 to 32"
  pub ranged : (s : Node) → Member s line → (1 ≤ number s) × (number s ≤ 999999)
  pub marked : (s : Node) → Member s line → marks_hold s.station.marks ≡ true
  pub small : (s : Node) → Member s line → length s.bag ≤ capacity
  -- 5: left below, right above
  pub sided : (s : Node) → Member s line → Sided s
  -- 6: no two blocks with one station number
  pub distinct : Distinct (numbers line)
  -- 7: no neighbour or introduction names a station without a block
  pub known : (s : Node) → Member s line → (q : ℕ) → Linked s q → Present line q

-- The tests, one for each number, tied to the statements by `AcceptedTested` of Claims.antt.
unfoldable pub in_range : ℕ → Bool
in_range n = leb 1 n && leb n 999999

unfoldable pub has_small_bag : Node → Bool
has_small_bag s = leb (length s.bag) capacity

unfoldable pub lies_beyond : Side → ℕ → Neighbour → Bool
lies_beyond d p None = true
lies_beyond d p (Some q) = beyond d p q

unfoldable pub has_sides : Node → Bool
has_sides s = lies_beyond Left (number s) s.station.left && lies_beyond Right (number s) s.station.right

unfoldable pub is_present : Line → ℕ → Bool
is_present line n = any (λ (s : Node). eqb n (number s)) line

unfoldable pub knows_neighbour : Line → Neighbour → Bool
knows_neighbour line None = true
knows_neighbour line (Some q) = is_present line q

unfoldable pub knows_content : Line → Content → Bool
knows_content line (Introduction q) = is_present line q
knows_content line RemoveLeft = true
knows_content line RemoveRight = true

unfoldable pub names_present : Line → Node → Bool
names_present line s =
    (knows_neighbour line s.station.left && knows_neighbour line s.station.right)
    && all (λ (m : Message). knows_content line m.content) s.bag

unfoldable pub accepted : Line → Bool
accepted line =
    leb (length line) 64
    && (all (λ (s : Node). in_range (number s)) line
    && (all (λ (s : Node). marks_hold s.station.marks) line
    && (all has_small_bag line
    && (all has_sides line
    && (are_distinct (numbers line)
    && all (names_present line) line)))))
