-- What is proved of the reason that a run carries (document 02, T-02; the proofs are in proofs/, under the same names in snake case). `outcome`
-- and `may_leave` are the definitions in the contracts of the run and of the leave question.
use Rattle.std.specs.Prelude.{ℕ, ◌≡◌, ◌≢◌, List, None, Ok, Err}
use Rattle.line.specs.declared.Action.TheVariants.{Exit}
use Rattle.line.specs.declared.Step as declared
use Rattle.line.specs.declared.Reason.{Reason}
use Rattle.line.specs.declared.Refusal.TheVariants.{Held}
use Rattle.line.specs.Answer.{answer_number, answer_reason}
use Rattle.steps.specs.Steps.{step_at}
use Rattle.finishing.specs.Ended.{Outcome}
use Rattle.engine.specs.Ran.{outcome, table_in}
use Rattle.leave.specs.Leave.{may_leave}

-- The run stopped at an exit, and its answer carries what the leave question says of that station in the table written.
pub record CarriesReason (steps : List ℕ) (o : Outcome) : Type 0 where
  pub step : declared.Step
  pub stopped : step_at steps o.done ≡ Ok step
  pub exits : step.action ≡ Exit
  pub why : Reason
  pub carried : o.answer ≡ Ok (Err (Held why))
  pub told : may_leave (table_in o) step.station ≡ Ok (Err why)

-- 1. "The run's refusal 14 carries the same reason as part of its answer": the same as the leave question about the table written.
abbrev pub ReasonCarried : Type 0
ReasonCarried = (t steps room : List ℕ) → answer_number (outcome t steps room).answer ≡ 14 → CarriesReason steps (outcome t steps room)

-- 2. No other number carries one.
abbrev pub NoOtherReason : Type 0
NoOtherReason = (t steps room : List ℕ) → answer_number (outcome t steps room).answer ≢ 14 → answer_reason (outcome t steps room).answer ≡ None
