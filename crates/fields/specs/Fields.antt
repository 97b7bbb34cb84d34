-- The fields of a block (document 01, "The block"): each field's rule, in one place, of the number that its bytes say. Those of the words
-- that say a station's marks stand with the marks.
use Rattle.std.specs.Prelude.{ℕ, Bool, true, false, cond, eqb, leb, Option, Some, None}
use Rattle.line.specs.Types.{Neighbour}
use Rattle.line.specs.declared.Content.TheVariants.{Introduction, RemoveLeft, RemoveRight}
use Rattle.line.specs.declared.Message.{Message}
use Rattle.line.specs.Message.{capacity}
use Rattle.line.specs.Accepted.{in_range}

-- bytes 0-1: "layout number, 1"
abbrev pub layout_holds : ℕ → Bool
layout_holds n = eqb n 1

-- "left neighbour, 0 for none, else 1 to 999,999", and right likewise
abbrev pub neighbour_holds : ℕ → Bool
neighbour_holds n = leb n 999999

-- "count of messages, 0 to 32"
abbrev pub count_holds : ℕ → Bool
count_holds n = leb n capacity

-- "0 for none"
unfoldable pub neighbour_of : ℕ → Neighbour
neighbour_of n = cond (eqb n 0) None (Some n)

-- the message of a place, or none where the place is bad
abbrev pub Place : Type 0
Place = Option Message

-- "A message place holds a kind (2 bytes: 1 introduction, 2 remove-left, 3 remove-right), two zero bytes and a number (4 bytes: 1 to
-- 999,999 for kind 1, 0 for kinds 2 and 3)."
unfoldable pub place_of : ℕ → ℕ → ℕ → Place
place_of k gap n =
    cond (eqb gap 0)
    (cond (eqb k 1) (cond (in_range n) (Some (record { content = Introduction n })) None)
    (cond (eqb n 0) (cond (eqb k 2) (Some (record { content = RemoveLeft })) (cond (eqb k 3) (Some (record { content = RemoveRight })) None)) None))
    None

abbrev pub is_good : Place → Bool
is_good (Some m) = true
is_good None = false

-- the message of a place; a bad place, which no accepted block has, stands for remove-left
abbrev pub message_of : Place → Message
message_of (Some m) = m
message_of None = record { content = RemoveLeft }
