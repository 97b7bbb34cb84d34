-- The block of document 01 ("The block"): where its fields stand, the node that it holds, and its faults.
use Rattle.std.specs.Prelude.{ℕ, zero, suc, ◌+◌, ◌-◌, ◌*◌, ◌%◌, Bool, true, cond, ◌&&◌, List, [], ◌∷◌, ◌++◌, eqb, replicate}
use Rattle.line.specs.declared.Content.TheVariants.{RemoveLeft}
use Rattle.line.specs.declared.Message.{Message}
use Rattle.line.specs.declared.Station as declared
use Rattle.line.specs.Marks.{flags_hold, site_holds, marks_from}
use Rattle.line.specs.Node.{Node}
use Rattle.line.specs.Accepted.{in_range, has_sides}
use Rattle.fields.specs.Fields.{layout_holds, neighbour_holds, count_holds, place_of, is_good, message_of, neighbour_of, Place}
use Rattle.octets.specs.Bytes.{word, quad, sum_words, part, all_zero}

-- "The 256 words of 16 bits, added with wrap at 65,536, give 65,535."
unfoldable pub check_holds : List ℕ → Bool
check_holds b = eqb (sum_words b % 65536) 65535

-- message place i, of 8 bytes
unfoldable pub place_at : List ℕ → ℕ → Place
place_at b i = place_of (word b (20 + 8 * i)) (word b (22 + 8 * i)) (quad b (24 + 8 * i))

-- the first n places are good, and their messages in stored order
unfoldable pub places_hold : List ℕ → ℕ → Bool
places_hold b zero = true
places_hold b (suc n) = places_hold b n && is_good (place_at b n)

unfoldable pub messages : List ℕ → ℕ → List Message
messages b zero = []
messages b (suc n) = messages b n ++ (message_of (place_at b n) ∷ [])

-- the 32 places of a row: the counted messages in stored order, then remove-left
abbrev pub blank : Message
blank = record { content = RemoveLeft }

unfoldable pub row_of : List ℕ → List Message
row_of b = messages b (word b 16) ++ replicate (32 - word b 16) blank

-- The fields in two groups: bytes 0 to 19, and what the count of bytes 16-17 says of bytes 20 to 509.
unfoldable pub header_holds : List ℕ → Bool
header_holds b =
    layout_holds (word b 0)
    && flags_hold (word b 2)
    && in_range (quad b 4)
    && neighbour_holds (quad b 8)
    && neighbour_holds (quad b 12)
    && count_holds (word b 16)
    && site_holds (word b 18)

-- the counted places are good; "Places from the count on are all zero", and so are bytes 276-509
unfoldable pub rest_holds : List ℕ → Bool
rest_holds b = places_hold b (word b 16) && all_zero (part b (20 + 8 * word b 16) 276) && all_zero (part b 276 510)

-- all fields are inside the layout
unfoldable pub fields_hold : List ℕ → Bool
fields_hold b = header_holds b && rest_holds b

unfoldable pub station_of : List ℕ → declared.Station
station_of b = record { number = quad b 4; left = neighbour_of (quad b 8); right = neighbour_of (quad b 12); marks = marks_from (word b 2) (word b 18) }

-- the node that a block holds, its messages in stored order
unfoldable pub node_of : List ℕ → Node
node_of b = record { station = station_of b; bag = messages b (word b 16) }

-- the smallest of 3, 4 and 5 whose rule does not hold, or 0
abbrev pub first_fault : Bool → Bool → Bool → ℕ
first_fault check fields sides = cond check (cond fields (cond sides 0 5) 4) 3

-- the smallest of 3, 4 and 5 that the block has, or 0
unfoldable pub fault_of : List ℕ → ℕ
fault_of b = first_fault (check_holds b) (fields_hold b) (has_sides (node_of b))
