-- What is proved of the program's definitions (the proofs are in proofs/, under the same names in snake case). The contract of `list_files`
-- says that the code prints `program_text`; these claims are about that very definition.
use Rattle.std.specs.Prelude.{ℕ, suc, ◌<◌, ◌≤◌, ◌≡◌, false, ◌↔◌, ◌⊎◌, ◌≢◌, List, length, take}
use Rattle.line.specs.Answer.{answer_number}
use Rattle.words.specs.Words.{ascii}
use Rattle.engine.specs.Ran.{outcome}
use Rattle.printing.specs.Printed.{printed}
use Rattle.printing.specs.Program.{File, table_limit, steps_limit, program_outcome, program_text}

-- "a file can't be read, or is over [its limit]"
abbrev pub Unfit : ℕ → File → Type 0
Unfit limit file = (file.is_read ≡ false) ⊎ (limit < length file.bytes)

-- 1. 16 is told for an unfit file and for nothing else.
abbrev pub SixteenMeans : Type 0
SixteenMeans = (table steps : File) → (answer_number (program_outcome table steps).answer ≡ 16) ↔ (Unfit table_limit table ⊎ Unfit steps_limit steps)

-- 2. "nothing written but one line": its bytes.
abbrev pub SixteenPrints : Type 0
SixteenPrints = (table steps : File) → answer_number (program_outcome table steps).answer ≡ 16 → program_text table steps ≡ ascii "answer 16 done 0 stations 0\n"

-- 3. The program never tells 9: its room is as long as any table that is let in.
abbrev pub NeverNine : Type 0
NeverNine = (table steps : File) → answer_number (program_outcome table steps).answer ≢ 9

-- 4. Its room plays no part: at every other number it prints the listing of the run in whatever room the table read is not too long for.
abbrev pub AnyRoomServes : Type 0
AnyRoomServes =
    (table steps : File) (room : List ℕ) → answer_number (program_outcome table steps).answer ≢ 16 → length table.bytes ≤ length room
    → program_text table steps ≡ printed (outcome table.bytes steps.bytes room)

-- the first n bytes of a file
abbrev pub first_of : ℕ → File → File
first_of n file = record { is_read = file.is_read; bytes = take n file.bytes }

-- 5. Of a file one byte more than its limit is enough to read: what is printed is that of the whole files.
abbrev pub OneMoreIsEnough : Type 0
OneMoreIsEnough = (table steps : File) → program_text (first_of (suc table_limit) table) (first_of (suc steps_limit) steps) ≡ program_text table steps
