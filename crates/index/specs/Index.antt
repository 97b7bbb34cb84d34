-- An index of up to 64 stations by their numbers. Its entry for a station is 64 times the station number plus the slot, 0 to 63, where the
-- station stands; so entries in rising order are stations by rising number, and one look-up gives the slot.
use Rattle.std.specs.Prelude.{ℕ, ◌+◌, ◌*◌, ◌/◌, ◌%◌, List, map}

abbrev pub entry : ℕ → ℕ → ℕ
entry number slot = 64 * number + slot

abbrev pub number_in : ℕ → ℕ
number_in e = e / 64

abbrev pub slot_in : ℕ → ℕ
slot_in e = e % 64

-- the station numbers of an index, in its order
abbrev pub numbers_in : List ℕ → List ℕ
numbers_in index = map number_in index
