-- A lent room that is filled with bytes, or a lent list with records (document 01, "The numbers a crew may see": "the amount filled is
-- returned, room past it is not touched, and a refusal returns zero counts and leaves the whole room untouched"; document 02, T-01: "the
-- amount filled counts entries for a list, stations for a table and bytes for CSV").
use Rattle.std.specs.Prelude.{ℕ, cond, List, ◌++◌, eqb, leb, length, drop}
use Rattle.line.specs.declared.Fault.{Fault}
use Rattle.line.specs.Answer.{fault_number}
use Rattle.filling.specs.declared.Filled.{Filled}

-- the number, the amount filled, and every byte or record of the room afterwards
pub record Filling (A : Type 0) : Type 0 where
  pub answer : ℕ
  pub filled : ℕ
  pub room : List A

-- a refusal: no amount, the whole room as it was
abbrev pub refused_with : {A : Type 0} → ℕ → List A → Filling A
refused_with fault room = record { answer = fault; filled = 0; room = room }

-- what an amount n is made of begins the room; 9 exactly where the room is shorter
unfoldable pub filled_with : {A : Type 0} → ℕ → List A → List A → Filling A
filled_with n parts room = cond (leb (length parts) (length room)) (record { answer = 0; filled = n; room = parts ++ drop (length parts) room }) (refused_with 9 room)

-- what comes before that: a fault refuses
abbrev pub unless_fault : {A : Type 0} → ℕ → Filling A → List A → Filling A
unless_fault fault f room = cond (eqb fault 0) f (refused_with fault room)

-- the code's answer where it refuses: "a refusal returns zero counts"
abbrev pub refused : Fault → Filled
refused fault = record { answer = fault_number fault; filled = 0 }

-- what the code's answer says, with the room that it leaves
abbrev pub filled_as : {A : Type 0} → Filled → List A → Filling A
filled_as r room = record { answer = r.answer; filled = r.filled; room = room }
