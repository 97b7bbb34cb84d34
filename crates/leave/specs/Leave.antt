-- The question whether a station may leave (document 01, "What the engine holds" and "The numbers a crew may see"; document 02, T-02).
use Rattle.std.specs.Prelude.{ℕ, List, Result, Ok, Err}
use Rattle.line.specs.Answer.{Answer, refused, done, refusal_number, leave_number, leave_holder}
use Rattle.line.specs.Types.{Leave}
use Rattle.line.specs.Node.{Line, Node}
use Rattle.line.specs.Leave.{leave_of}
use Rattle.line.specs.Step.{find}
use Rattle.table.specs.Blocks.{line_of}
use Rattle.questions.specs.Told.{asked}
use Rattle.leave.specs.declared.records.LeaveRecord.{LeaveRecord}

-- whether the station may leave, and what holds it, or the number of a refusal
abbrev pub LeaveTold : Type 0
LeaveTold = Result Leave ℕ

-- the number, the reason and the holder of each case: "At 0 a question returns yes or no as well", with what holds the station; beside a
-- refusal there is neither
abbrev pub told_number : LeaveTold → ℕ
told_number (Err n) = n
told_number (Ok l) = 0

abbrev pub told_reason : LeaveTold → ℕ
told_reason (Err n) = 0
told_reason (Ok l) = leave_number l

abbrev pub told_holder : LeaveTold → ℕ
told_holder (Err n) = 0
told_holder (Ok l) = leave_holder l

-- the three as one record
unfoldable pub leave_as : LeaveTold → LeaveRecord
leave_as t = record { answer = told_number t; reason = told_reason t; holder = told_holder t }

-- "The leave question now returns yes, or `own bag not empty`, or the smallest station"; "the leave question then looks for the station (11)"
abbrev pub leave_at : Line → Answer Node → LeaveTold
leave_at line (refused r) = Err (refusal_number r)
leave_at line (done s) = Ok (leave_of line s)

unfoldable pub may_leave : List ℕ → ℕ → LeaveTold
may_leave table n = asked table Err (leave_at (line_of table) (find n (line_of table)))
