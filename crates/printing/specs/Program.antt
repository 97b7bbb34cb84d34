-- The program that runs a list (document 01, "The printed listing"): all that it prints of its two files, 16 included.
use Rattle.std.specs.Prelude.{ℕ, Bool, cond, ◌&&◌, List, leb, length, replicate}
use Rattle.finishing.specs.Ended.{Outcome}
use Rattle.engine.specs.Ran.{refused_with, outcome}
use Rattle.printing.specs.Printed.{printed}

-- a file as the program meets it: whether it can be read, and its bytes
pub record File : Type 0 where
  pub is_read : Bool
  pub bytes : List ℕ

-- "a file can't be read, or is over [the limit]" is refused
abbrev pub file_holds : ℕ → File → Bool
file_holds limit file = file.is_read && leb (length file.bytes) limit

-- "over 32,768 (table) or 49,152 (steps) bytes"
abbrev pub table_limit : ℕ
table_limit = 32768

abbrev pub steps_limit : ℕ
steps_limit = 49152

abbrev pub files_hold : File → File → Bool
files_hold table steps = file_holds table_limit table && file_holds steps_limit steps

-- the program's own room: zeros, as many as the longest table that is let in has bytes
abbrev pub program_room : List ℕ
program_room = replicate table_limit 0

-- "the program looks for 16 before all else": it gives "0 and 0" and "nothing written but one line"; else the run decides
unfoldable pub program_outcome : File → File → Outcome
program_outcome table steps = cond (files_hold table steps) (outcome table.bytes steps.bytes program_room) (refused_with 16 program_room)

-- every byte that the program prints
abbrev pub program_text : File → File → List ℕ
program_text table steps = printed (program_outcome table steps)
