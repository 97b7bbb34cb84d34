-- What a roll says of a station (document 02, T-03).
use Rattle.std.specs.Prelude.{ℕ, ◌≤◌, cond, List, eqb, ltb, length, get_or, take, Ok, Err}
use Rattle.line.specs.Types.{Leave}
use Rattle.lists.specs.Places.{first_at}
use Rattle.lists.specs.Numbers.{Rising}
use Rattle.line.specs.declared.Reason.TheVariants.{OwnBag, HeldBy}
use Rattle.index.specs.Index.{slot_in, numbers_in}
use Rattle.leave.specs.declared.records.LeaveRecord.{LeaveRecord}
use Rattle.leave.specs.Leave.{leave_as, LeaveTold}
use Rattle.rolls.specs.declared.Roll.{Roll}

-- of a station with so many messages, mentioned so often by others, of whom this one is the smallest: "The bag is looked at first"
abbrev pub leave_counted : ℕ → ℕ → ℕ → Leave
leave_counted messages mentioned smallest = cond (eqb messages 0) (cond (eqb mentioned 0) (Ok tt) (Err (HeldBy smallest))) (Err OwnBag)

-- the station numbers of a roll, by rising number
abbrev pub numbers_of : Roll → List ℕ
numbers_of r = numbers_in (take r.count r.index)

-- what every roll keeps
pub record Kept (r : Roll) : Type 0 where
  pub few : r.count ≤ 64
  pub within : r.count ≤ length r.index
  pub rising : Rising (numbers_of r)

-- the station at place i
unfoldable pub leave_in : Roll → ℕ → Leave
leave_in r i = leave_counted (get_or r.messages (slot_in (get_or r.index i 0)) 0) (get_or r.mentions i 0) (get_or r.smallest i 0)

-- "An unknown number gets 11 in its own record only."
unfoldable pub told_at : Roll → ℕ → LeaveTold
told_at r i = cond (ltb i r.count) (Ok (leave_in r i)) (Err 11)

-- station n
abbrev pub told_in : Roll → ℕ → LeaveTold
told_in r n = told_at r (first_at (eqb n) (numbers_of r))

-- the same as a record
abbrev pub record_in : Roll → ℕ → LeaveRecord
record_in r n = leave_as (told_in r n)
