-- Answers, and the numbers a crew may see for a step (document 01, "The numbers a crew may see"), with the reason that 14 carries
-- (document 02, T-02).
use Rattle.std.specs.Prelude.{ℕ, Bool, true, false, Option, Some, None, Result, Ok, Err}
use Rattle.line.specs.Numbers.{part_block, many_blocks, bad_check, bad_field, bad_side, two_blocks, no_block, bad_list, short_room, bad_file, too_much}
use Rattle.line.specs.Types.{Answered, Carried, Ending, Leave}
use Rattle.line.specs.declared.Reason.{Reason}
use Rattle.line.specs.declared.Reason.TheVariants.{OwnBag, HeldBy}
use Rattle.line.specs.declared.Fault.{Fault}
use Rattle.line.specs.declared.Fault.TheVariants.{PartBlock, ManyBlocks, BadCheck, BadField, BadSide, TwoBlocks, NoBlock, BadList, ShortRoom, BadFile, TooMuch}
use Rattle.line.specs.declared.Refused.{Refused}
use Rattle.line.specs.declared.Refused.TheVariants.{Before, Step}
use Rattle.line.specs.declared.Refusal.{Refusal}
use Rattle.line.specs.declared.Refusal.TheVariants.{Malformed, Absent, NotInBag, Staying, Held, Full}

-- malformed step; station not present; message not in that bag; exit by a staying station; exit, leaving, NIDEC false; a bag that must receive holds 32
abbrev pub refusal_number : Refusal → ℕ
refusal_number Malformed = 10
refusal_number Absent = 11
refusal_number NotInBag = 12
refusal_number Staying = 13
refusal_number (Held why) = 14
refusal_number Full = 15

-- what is refused before any step: each number by its name
abbrev pub fault_number : Fault → ℕ
fault_number PartBlock = part_block
fault_number ManyBlocks = many_blocks
fault_number BadCheck = bad_check
fault_number BadField = bad_field
fault_number BadSide = bad_side
fault_number TwoBlocks = two_blocks
fault_number NoBlock = no_block
fault_number BadList = bad_list
fault_number ShortRoom = short_room
fault_number BadFile = bad_file
fault_number TooMuch = too_much

-- the number of a fault, and 0 where there is none
abbrev pub number_of : Option Fault → ℕ
number_of None = 0
number_of (Some fault) = fault_number fault

-- the number of what is refused, and 0 where nothing is
abbrev pub checked_number : {A : Type 0} → Result A Fault → ℕ
checked_number (Ok a) = 0
checked_number (Err fault) = fault_number fault

abbrev pub refused_number : Refused → ℕ
refused_number (Before fault) = fault_number fault
refused_number (Step refusal) = refusal_number refusal

-- what was asked for, or the number of what is refused
abbrev pub numbered : {A E : Type 0} → (E → ℕ) → Result A E → Result A ℕ
numbered number (Ok a) = Ok a
numbered number (Err e) = Err (number e)

-- what a run answers, with 1 to 9 by their number
abbrev pub told : Result (Unit {0}) Refused → Answered
told (Ok _) = Ok (Ok tt)
told (Err (Before fault)) = Err (fault_number fault)
told (Err (Step refusal)) = Ok (Err refusal)

-- "Success is 0"
abbrev pub ending_number : Ending → ℕ
ending_number (Ok _) = 0
ending_number (Err r) = refusal_number r

-- 1 to 9 by their number, or how the run ended
abbrev pub answer_number : Answered → ℕ
answer_number (Err n) = n
answer_number (Ok e) = ending_number e

-- A reason as values of the C interface: 0 none, 1 may leave, 2 "own bag not empty", 3 held by a station; and the number of that station, 0
-- where none is named.
abbrev pub reason_number : Reason → ℕ
reason_number OwnBag = 2
reason_number (HeldBy q) = 3

abbrev pub reason_holder : Reason → ℕ
reason_holder OwnBag = 0
reason_holder (HeldBy q) = q

abbrev pub carried_number : Carried → ℕ
carried_number None = 0
carried_number (Some why) = reason_number why

abbrev pub carried_holder : Carried → ℕ
carried_holder None = 0
carried_holder (Some why) = reason_holder why

abbrev pub leave_number : Leave → ℕ
leave_number (Ok _) = 1
leave_number (Err why) = reason_number why

abbrev pub leave_holder : Leave → ℕ
leave_holder (Ok _) = 0
leave_holder (Err why) = reason_holder why

-- "The run's refusal 14 carries the same reason as part of its answer"; no other number carries one
abbrev pub refusal_reason : Refusal → Carried
refusal_reason Malformed = None
refusal_reason Absent = None
refusal_reason NotInBag = None
refusal_reason Staying = None
refusal_reason (Held why) = Some why
refusal_reason Full = None

abbrev pub ending_reason : Ending → Carried
ending_reason (Ok _) = None
ending_reason (Err r) = refusal_reason r

abbrev pub answer_reason : Answered → Carried
answer_reason (Err n) = None
answer_reason (Ok e) = ending_reason e

-- a refusal, or what was asked for
pub data Answer (A : Type 0) : Type 0 where
  refused : Refusal → Answer A
  done : A → Answer A

-- it is what was asked for
unfoldable pub is_done : {A : Type 0} → Answer A → Bool
is_done (refused r) = false
is_done (done a) = true

-- the first refusal ends the work
infixl 20 ◌>>=◌
unfoldable pub ◌>>=◌ : {A B : Type 0} → Answer A → (A → Answer B) → Answer B
◌>>=◌ (refused r) f = refused r
◌>>=◌ (done a) f = f a

-- the answer a where the test holds, and the refusal r where it does not
unfoldable pub require : {A : Type 0} → Bool → Refusal → Answer A → Answer A
require true r a = a
require false r a = refused r

-- the answer a where the station may leave, and the refusal with the reason where it may not
unfoldable pub unless_held : {A : Type 0} → Leave → Answer A → Answer A
unless_held (Ok _) a = a
unless_held (Err why) a = refused (Held why)
