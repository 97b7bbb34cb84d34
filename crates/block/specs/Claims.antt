-- What is proved of the tests of a block (the proofs are in proofs/, under the same names in snake case): each says what document 01 says of the
-- bytes ("The block" and "The numbers a crew may see", 4, 5 and 7).
use Rattle.std.specs.Prelude.{ℕ, ◌+◌, ◌*◌, ◌≤◌, ◌<◌, ◌≡◌, ◌↔◌, ◌⊎◌, ◌≢◌, true, false, List, get_or}
use Rattle.line.specs.declared.Side.{Side}
use Rattle.line.specs.declared.Side.TheVariants.{Left, Right}
use Rattle.line.specs.Node.{Beyond}
use Rattle.line.specs.Links.{Linked}
use Rattle.line.specs.Accepted.{has_sides}
use Rattle.octets.specs.Bytes.{word, quad}
use Rattle.fields.specs.Claims.{Ranged, IsMessage}
use Rattle.block.specs.Layout.{fields_hold, node_of}

-- the table of the layout: what stands in bytes 0 to 509
pub record InLayout (b : List ℕ) : Type 0 where
  pub layout : word b 0 ≡ 1
  pub leaving : (word b 2 ≡ 0) ⊎ (word b 2 ≡ 1)
  pub station : Ranged (quad b 4)
  pub left : (quad b 8 ≡ 0) ⊎ Ranged (quad b 8)
  pub right : (quad b 12 ≡ 0) ⊎ Ranged (quad b 12)
  pub count : word b 16 ≤ 32
  pub site : word b 18 ≤ 9999
  pub messages : (i : ℕ) → i < word b 16 → IsMessage (word b (20 + 8 * i)) (word b (22 + 8 * i)) (quad b (24 + 8 * i))
  pub zeros : (i : ℕ) → 20 + 8 * word b 16 ≤ i → i < 510 → get_or b i 0 ≡ 0

-- "a left, where there is one, not below its own station, or a right, where there is one, not above it"
abbrev pub Misplaced : Side → ℕ → ℕ → Type 0
Misplaced d p n = (n ≢ 0) × ¬ Beyond d p n

abbrev pub WrongSide : List ℕ → Type 0
WrongSide b = Misplaced Left (quad b 4) (quad b 8) ⊎ Misplaced Right (quad b 4) (quad b 12)

-- "a neighbour or introduction names a station": it is the left, the right, or the number of a message of kind 1
abbrev pub Names : List ℕ → ℕ → Type 0
Names b q =
    ((q ≢ 0) × ((quad b 8 ≡ q) ⊎ (quad b 12 ≡ q)))
    ⊎ ((i : ℕ) × (i < word b 16) × (word b (20 + 8 * i) ≡ 1) × (quad b (24 + 8 * i) ≡ q))

abbrev pub FieldsTested : Type 0
FieldsTested = (b : List ℕ) → (fields_hold b ≡ true) ↔ InLayout b

abbrev pub SidesTested : Type 0
SidesTested = (b : List ℕ) → (has_sides (node_of b) ≡ false) ↔ WrongSide b

-- of a block inside the layout
abbrev pub NamesLinked : Type 0
NamesLinked = (b : List ℕ) → fields_hold b ≡ true → (q : ℕ) → Linked (node_of b) q ↔ Names b q
