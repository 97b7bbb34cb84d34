-- The numbers a crew may see (document 01, "The numbers a crew may see"; document 02, T-03), each once with its name; `Fault::number` and
-- `Refusal::number` say the same for the code. 0 says that none applies.
use Rattle.std.specs.Prelude.{ℕ}

-- of a table: its length, the number of its blocks, a check, a field, a side, two blocks of one station, a station named without a block
abbrev pub part_block : ℕ
part_block = 1

abbrev pub many_blocks : ℕ
many_blocks = 2

abbrev pub bad_check : ℕ
bad_check = 3

abbrev pub bad_field : ℕ
bad_field = 4

abbrev pub bad_side : ℕ
bad_side = 5

abbrev pub two_blocks : ℕ
two_blocks = 6

abbrev pub no_block : ℕ
no_block = 7

-- of a step list, and of a lent room or list
abbrev pub bad_list : ℕ
bad_list = 8

abbrev pub short_room : ℕ
short_room = 9

-- of a step: malformed, its station absent, its message not in the bag, an exit of a staying station and of one that is held, a bag full
abbrev pub malformed_step : ℕ
malformed_step = 10

abbrev pub absent_station : ℕ
absent_station = 11

abbrev pub missing_message : ℕ
missing_message = 12

abbrev pub staying_exit : ℕ
staying_exit = 13

abbrev pub held_exit : ℕ
held_exit = 14

abbrev pub full_bag : ℕ
full_bag = 15

-- of a file of the program
abbrev pub bad_file : ℕ
bad_file = 16

-- of how many questions are asked at once
abbrev pub too_much : ℕ
too_much = 17
