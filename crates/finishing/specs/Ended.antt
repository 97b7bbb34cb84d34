-- How a run over an accepted table ends (document 01, "The whole run" and "The numbers a crew may see", 0 and 10 to 15).
use Rattle.std.specs.Prelude.{ℕ, ◌*◌, List, ◌++◌, length, drop, Ok}
use Rattle.line.specs.Types.{Answered}
use Rattle.line.specs.Answer.{told}
use Rattle.line.specs.Run as machine
use Rattle.table.specs.Blocks.{line_of, bytes_of}
use Rattle.steps.specs.Steps.{steps_of}
use Rattle.finishing.specs.declared.Ran.{Ran}

-- the answer, whose number is `answer_number` and whose reason is `answer_reason`; "steps done, stations now"; and every byte of the room
-- afterwards
pub record Outcome : Type 0 where
  pub answer : Answered
  pub done : ℕ
  pub stations : ℕ
  pub room : List ℕ

-- "A run starts from the table read; each step acts on what the steps before it left, and a refused one ends the run."
abbrev pub run_of : List ℕ → List ℕ → machine.Run
run_of table steps = machine.run (line_of table) (steps_of steps)

-- 10 to 15, and 0: the table after the steps done begins the room; bytes past its last block are as they were
abbrev pub ended_with : machine.Run → List ℕ → Outcome
ended_with r room = record {
  answer = Ok r.ending;
  done = r.steps;
  stations = length r.line;
  room = bytes_of r.line ++ drop (512 * length r.line) room;
}

-- what the code's answer says, with the room that it leaves
abbrev pub said : Ran → List ℕ → Outcome
said r room = record { answer = told r.answer; done = r.done; stations = r.stations; room = room }
