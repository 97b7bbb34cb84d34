-- The two lasting facts (document 02, T-07; the proofs are in proofs/, under the same names in snake case), of the run over any bytes. `outcome`,
-- `is_in_line` and `may_leave` are the definitions in the contracts of the run and of the two questions, `steps_of` is the step list as the run
-- reads it, and `table_in` the table that the run writes.
use Rattle.std.specs.Prelude.{ℕ, ◌≤◌, ◌≡◌, ◌≢◌, ◌⊎◌, true, List, length, Ok}
use Rattle.line.specs.Types.{Reading}
use mathlib.Core.List.{Memᴰ as Member}
use Rattle.line.specs.declared.Action.TheVariants.{Exit}
use Rattle.line.specs.declared.Step as declared
use Rattle.line.specs.Answer.{answer_number}
use Rattle.line.specs.Node.{Node, number, leaving}
use Rattle.line.specs.Situations.{exit_of}
use Rattle.table.specs.Blocks.{nodes}
use Rattle.steps.specs.Steps.{steps_of, step_bytes}
use Rattle.engine.specs.Ran.{outcome, table_in}
use Rattle.questions.specs.Told.{is_in_line}
use Rattle.leave.specs.Leave.{may_leave}

-- the number that a run answers
abbrev pub answer_of : List ℕ → List ℕ → List ℕ → ℕ
answer_of t steps room = answer_number (outcome t steps room).answer

-- the table that it writes
abbrev pub table_after : List ℕ → List ℕ → List ℕ → List ℕ
table_after t steps room = table_in (outcome t steps room)

-- no step record of the list is an exit; none is at station n
abbrev pub HoldsNoExit : List ℕ → Type 0
HoldsNoExit steps = (x : declared.Step) → Member (Ok x) (steps_of steps) → x.action ≢ Exit

abbrev pub NoStepAt : ℕ → List ℕ → Type 0
NoStepAt n steps = (x : declared.Step) → Member (Ok x) (steps_of steps) → x.station ≢ n

-- A record that is malformed is no step, but of a run answered 0 there is none: every record of the list is a step.
abbrev pub RecordsAreSteps : Type 0
RecordsAreSteps = (t steps room : List ℕ) → answer_of t steps room ≡ 0 → (r : Reading) → Member r (steps_of steps) → (x : declared.Step) × (r ≡ Ok x)

-- 1. "A table that is in line by T-04 is in line after every run answered 0, and no such run holds an exit."
abbrev pub LineLasts : Type 0
LineLasts =
    (t steps room : List ℕ) → is_in_line t ≡ Ok true → answer_of t steps room ≡ 0
    → (is_in_line (table_after t steps room) ≡ Ok true) × HoldsNoExit steps

-- 2. "Once NIDEC holds for a station, it still holds after any run answered 0 with no step at that station." The leave question answers yes
-- exactly when NIDEC holds for a station with a block, leaving mark or not (`MayLeaveMeans` of leave/specs/Claims.antt).
abbrev pub LeaveLasts : Type 0
LeaveLasts =
    (t steps room : List ℕ) (n : ℕ) → may_leave t n ≡ Ok (Ok tt) → answer_of t steps room ≡ 0 → NoStepAt n steps
    → may_leave (table_after t steps room) n ≡ Ok (Ok tt)

-- 3. "So a desk may ask now and let the truck go later": where the station is leaving, its exit over the table written is answered 0, or 15
-- where a neighbour's bag is full; nothing else refuses it.
abbrev pub ExitLater : Type 0
ExitLater =
    (t steps room room' : List ℕ) (s : Node) → Member s (nodes t) → leaving s ≡ true
    → may_leave t (number s) ≡ Ok (Ok tt) → answer_of t steps room ≡ 0 → NoStepAt (number s) steps → length (table_after t steps room) ≤ length room'
    → (answer_of (table_after t steps room) (step_bytes (exit_of (number s))) room' ≡ 0)
    ⊎ (answer_of (table_after t steps room) (step_bytes (exit_of (number s))) room' ≡ 15)
