-- What is proved of a step's record (the proofs are in proofs/, under the same names in snake case).
use Rattle.std.specs.Prelude.{ℕ, ◌≡◌, Bool, true, ◌&&◌, List, length, Ok}
use Rattle.line.specs.declared.Content.{Content}
use Rattle.line.specs.declared.Content.TheVariants.{Introduction, RemoveLeft, RemoveRight}
use Rattle.line.specs.declared.Action.{Action}
use Rattle.line.specs.declared.Action.TheVariants.{Timeout, Deliver, Exit}
use Rattle.line.specs.declared.Step as declared
use Rattle.line.specs.Accepted.{in_range}
use Rattle.octets.specs.Bytes.{AreBytes}
use Rattle.steps.specs.Steps.{step_at, step_bytes}

-- every number that the step carries is "1 to 999,999"
abbrev pub content_holds : Content → Bool
content_holds (Introduction n) = in_range n
content_holds RemoveLeft = true
content_holds RemoveRight = true

abbrev pub action_holds : Action → Bool
action_holds Timeout = true
action_holds (Deliver m) = content_holds m.content
action_holds Exit = true

abbrev pub well_formed : declared.Step → Bool
well_formed x = in_range x.station && action_holds x.action

-- Written and read are inverse: a well-formed step that is written is read as that step,
abbrev pub StepReadsBack : Type 0
StepReadsBack = (x : declared.Step) → well_formed x ≡ true → step_at (step_bytes x) 0 ≡ Ok x

-- and 12 bytes that are read as a step are well-formed, and what that step is written as.
abbrev pub StepWrittenBack : Type 0
StepWrittenBack = (l : List ℕ) (x : declared.Step) → AreBytes l → length l ≡ 12 → step_at l 0 ≡ Ok x → (well_formed x ≡ true) × (step_bytes x ≡ l)
