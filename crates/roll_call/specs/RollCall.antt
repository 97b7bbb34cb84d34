-- The roll call (document 02, T-03).
use Rattle.std.specs.Prelude.{ℕ, ◌≡◌, cond, List, map, eqb, leb, length, Result, IfOk}
use Rattle.line.specs.declared.Fault.{Fault}
use Rattle.line.specs.Answer.{checked_number}
use Rattle.table.specs.Fault.{fault_of}
use Rattle.leave.specs.declared.records.LeaveRecord.{LeaveRecord}
use Rattle.leave.specs.Leave.{leave_as, may_leave}
use Rattle.filling.specs.declared.Filled.{Filled}
use Rattle.filling.specs.Filled.{Filling, filled_with, unless_fault}
use Rattle.rolls.specs.declared.Roll.{Roll}
use Rattle.rolls.specs.Roll.{Kept, told_in}

-- "17 for more than 64 questions"
abbrev pub too_many : ℕ → ℕ
too_many n = cond (leb n 64) 0 17

-- one question: the single question's answer as a record
abbrev pub record_of : List ℕ → ℕ → LeaveRecord
record_of table station = leave_as (may_leave table station)

-- "fills a lent list of answer records, one record per question, and equals asking one by one, in that order, repeats included"; "It refuses
-- with 1 to 7, then 17 for more than 64 questions, then 9 for a list shorter than the questions."
unfoldable pub roll_call : List ℕ → List ℕ → List LeaveRecord → Filling LeaveRecord
roll_call table stations records =
    unless_fault (fault_of table)
    (unless_fault (too_many (length stations)) (filled_with (length stations) (map (record_of table) stations) records) records)
    records

-- what follows 1 to 7, whatever gives the record of a station
unfoldable pub called : (ℕ → LeaveRecord) → List ℕ → List LeaveRecord → Filling LeaveRecord
called record_for stations records =
    unless_fault (too_many (length stations)) (filled_with (length stations) (map record_for stations) records) records

-- A roll of an accepted table: what it says of every station is the single question's answer.
pub record Tells (table : List ℕ) (r : Roll) : Type 0 where
  pub kept : Kept r
  pub told : (station : ℕ) → told_in r station ≡ may_leave table station

-- what is read of a table: the number of one that is refused, or its roll
pub record Rolls (table : List ℕ) (r : Result Roll Fault) : Type 0 where
  pub fault_is : checked_number r ≡ fault_of table
  pub tells : IfOk r (λ roll. Tells table roll)

-- the number and the amount, of the table's number and of how many questions and records there are
unfoldable pub gate_of : ℕ → ℕ → ℕ → Filled
gate_of fault stations records =
    cond (eqb fault 0)
    (cond (eqb (too_many stations) 0) (cond (leb stations records) (record { answer = 0; filled = stations }) (record { answer = 9; filled = 0 })) (record { answer = 17; filled = 0 }))
    (record { answer = fault; filled = 0 })
