-- The step list (document 01, "The step list").
use Rattle.std.specs.Prelude.{ℕ, ◌+◌, ◌*◌, ◌/◌, cond, ◌&&◌, List, [], ◌∷◌, ◌++◌, map, eqb, length, Some, None, Ok, Err}
use Rattle.line.specs.Types.{Reading}
use Rattle.line.specs.declared.Action.{Action}
use Rattle.line.specs.declared.Action.TheVariants.{Timeout, Deliver, Exit}
use Rattle.line.specs.declared.Refusal.TheVariants.{Malformed}
use Rattle.line.specs.Accepted.{in_range}
use Rattle.line.specs.declared.Step as declared
use Rattle.line.specs.Message.{kind, carried}
use Rattle.octets.specs.Bytes.{word, quad, le16, le32}
use Rattle.fields.specs.Fields.{place_of, Place}
use Rattle.lists.specs.Places.{range}

-- the refusal of a step that cannot be read
abbrev pub malformed : Reading
malformed = Err Malformed

abbrev pub step_for : ℕ → Action → Reading
step_for station a = Ok (record { station = station; action = a })

-- "For actions 1 and 3 kind and number are 0."
unfoldable pub plain : ℕ → ℕ → ℕ → Action → Reading
plain kind station number a = cond (eqb kind 0 && eqb number 0) (step_for station a) malformed

-- "For action 2 they follow the rule of a message place."
abbrev pub delivery : ℕ → Place → Reading
delivery station (Some m) = step_for station (Deliver m)
delivery station None = malformed

-- "A step is malformed if its action or kind is none of these, its station is not 1 to 999,999, or its kind and number break these rules."
unfoldable pub step_of : ℕ → ℕ → ℕ → ℕ → Reading
step_of action kind station number =
    cond (in_range station)
    (cond (eqb action 1) (plain kind station number Timeout)
    (cond (eqb action 2) (delivery station (place_of kind 0 number))
    (cond (eqb action 3) (plain kind station number Exit) malformed)))
    malformed

-- "A step is 12 bytes: action (2 bytes: 1 timeout, 2 deliver, 3 exit), message kind (2), station (4), message number (4)."
unfoldable pub step_at : List ℕ → ℕ → Reading
step_at l k = step_of (word l (12 * k)) (word l (12 * k + 2)) (quad l (12 * k + 4)) (quad l (12 * k + 8))

-- the steps of a list, in order
unfoldable pub steps_of : List ℕ → List Reading
steps_of l = map (step_at l) (range 0 (length l / 12))

-- The same record written: "1 timeout, 2 deliver, 3 exit", beside a delivery's kind and number and a 0 in their places for the others.
abbrev pub action_number : Action → ℕ
action_number Timeout = 1
action_number (Deliver m) = 2
action_number Exit = 3

abbrev pub kind_beside : Action → ℕ
kind_beside Timeout = 0
kind_beside (Deliver m) = kind m.content
kind_beside Exit = 0

abbrev pub number_beside : Action → ℕ
number_beside Timeout = 0
number_beside (Deliver m) = carried m.content
number_beside Exit = 0

unfoldable pub step_bytes : declared.Step → List ℕ
step_bytes x = le16 (action_number x.action) ++ (le16 (kind_beside x.action) ++ (le32 x.station ++ le32 (number_beside x.action)))

-- one step after another
unfoldable pub list_bytes : List declared.Step → List ℕ
list_bytes [] = []
list_bytes (x ∷ l) = step_bytes x ++ list_bytes l
