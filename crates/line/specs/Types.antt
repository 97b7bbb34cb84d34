-- The words of documents 01 and 02 for what the code has as an option or a result.
use Rattle.std.specs.Prelude.{ℕ, Option, Result}
use Rattle.line.specs.declared.Reason.{Reason}
use Rattle.line.specs.declared.Refusal.{Refusal}
use Rattle.line.specs.declared.Step.{Step}

-- "A neighbour is either none or a station number."
abbrev pub Neighbour : Type 0
Neighbour = Option ℕ

-- whether a station may leave, or what still holds it (document 02, T-02)
abbrev pub Leave : Type 0
Leave = Result (Unit {0}) Reason

-- the reason that an answer carries, where it carries one
abbrev pub Carried : Type 0
Carried = Option Reason

-- "Reading one step gives either the step or its refusal."
abbrev pub Reading : Type 0
Reading = Result Step Refusal

-- how a run ends: all steps done, or stopped at the first refused one
abbrev pub Ending : Type 0
Ending = Result (Unit {0}) Refusal

-- what a run answers: the number of what is refused before the first step, or how it ended
abbrev pub Answered : Type 0
Answered = Result Ending ℕ
