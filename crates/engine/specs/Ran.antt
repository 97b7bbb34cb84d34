-- A run over any bytes (document 01, "The numbers a crew may see" and "The whole run").
use Rattle.std.specs.Prelude.{ℕ, ◌*◌, ◌/◌, ◌%◌, Bool, cond, ◌&&◌, List, eqb, leb, length, take, Result, Err, IfOk, ◌≡◌}
use Rattle.line.specs.declared.Fault.{Fault}
use Rattle.line.specs.Answer.{checked_number}
use Rattle.table.specs.Fault.{fault_of}
use Rattle.table.specs.Index.{index_array}
use Rattle.finishing.specs.Ended.{Outcome, run_of, ended_with}

-- "step list not a multiple of 12 bytes, or over 4,096 steps" is refused
unfoldable pub list_holds : List ℕ → Bool
list_holds steps = eqb (length steps % 12) 0 && leb (length steps / 12) 4096

-- "room shorter than the table read" is refused
unfoldable pub room_holds : List ℕ → List ℕ → Bool
room_holds table room = leb (length table) (length room)

-- what is refused before the first step, in the order of the numbers: 1 to 7 of the table, 8 of the list, 9 of the room; or 0
unfoldable pub fault_before : List ℕ → List ℕ → List ℕ → ℕ
fault_before table steps room = cond (eqb (fault_of table) 0) (cond (list_holds steps) (cond (room_holds table room) 0 9) 8) (fault_of table)

-- r is what the checks before the first step find: the number of what is refused, or the index of an accepted table
pub record Begins (table steps room : List ℕ) (r : Result (List ℕ) Fault) : Type 0 where
  pub fault_is : checked_number r ≡ fault_before table steps room
  pub index_is : IfOk r (λ index. index ≡ index_array table)

-- 1 to 9: 0 steps, 0 stations, the whole room as it was
abbrev pub refused_with : ℕ → List ℕ → Outcome
refused_with fault room = record { answer = Err fault; done = 0; stations = 0; room = room }

unfoldable pub outcome : List ℕ → List ℕ → List ℕ → Outcome
outcome table steps room =
    cond (eqb (fault_before table steps room) 0) (ended_with (run_of table steps) room) (refused_with (fault_before table steps room) room)

-- "it begins the room, with 512 bytes for each station left": the table written; where none is written, nothing
abbrev pub table_in : Outcome → List ℕ
table_in o = take (512 * o.stations) o.room
