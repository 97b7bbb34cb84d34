-- The run of one record answers 0 exactly when the record is a step that the machine does.
use Prim.Native.Nat.{ℕ, ◌/◌, ◌≤◌}
use Rattle.std.specs.Prelude.{Ok, Err}
use Rattle.line.specs.Types.{Reading}
use mathlib.Core.Path.{◌≡◌, refl, sym, ap, ◌∙◌}
use mathlib.Core.Logic.{◌↔◌}
use mathlib.Core.Bool.{true}
use mathlib.Core.List.{List, [], ◌∷◌, map}
use native.Mathlib.Omega.{arith}
use lib.ListN.{length}
use Rattle.lists.specs.Places.{range}
use Rattle.lists.proofs.Lists.{clash}
use Rattle.line.specs.declared.Step as declared
use Rattle.line.specs.Answer.{Answer, refused, done, is_done, ending_number, answer_number}
use Rattle.line.specs.Node.{Line}
use Rattle.line.specs.Run.{try, Run, run}
use Rattle.line.proofs.Answers.{no_refusal}
use Rattle.line.proofs.Runs.{next, run_next}
use Rattle.table.specs.Blocks.{line_of}
use Rattle.table.specs.Fault.{fault_of}
use Rattle.steps.specs.Steps.{step_at, steps_of}
use Rattle.finishing.specs.Ended.{Outcome}
use Rattle.engine.specs.Ran.{list_holds, outcome}
use Rattle.engine.proofs.WholeLists.{begins, accepted_outcome}
use Rattle.next_steps.specs.Allowed.{is_allowed}

module _ (line : Line) where
  -- the number of a run of one reading, by what the machine answers
  abbrev pub number_of : Reading → ℕ
  number_of x = ending_number (run line (x ∷ [])).ending

  pub number_is : (x : Reading) → number_of x ≡ ending_number (next line [] (try line x)).ending
  number_is x = ap (λ (r : Run). ending_number r.ending) (run_next line x [])

  done_number : (a : Answer Line) → (ending_number (next line [] a).ending ≡ 0) ↔ (is_done a ≡ true)
  unfolding run is_done
  done_number (refused r) = (λ h. absurd (no_refusal r h), λ h. clash h refl)
  done_number (done after) = (λ h. refl, λ h. refl)

  -- what was read is a step that is done
  abbrev pub ReadDone : Reading → Type 0
  ReadDone x = (y : declared.Step) × (x ≡ Ok y) × (is_allowed line y ≡ true)

  done_read : (x : Reading) → (is_done (try line x) ≡ true) ↔ ReadDone x
  unfolding try is_done
  done_read (Ok y) = (λ h. (y, refl, h), λ w. let z : y ≡ w.0 = cc in rw z w.2)
  done_read (Err r) = (λ h. clash h refl, λ w. absurd (let z : ◌≡◌ {A = ℕ} 0 1 = cc in omega arith))

  number_done : (x : Reading) → (number_of x ≡ 0) ↔ ReadDone x
  number_done x =
      let n = done_number (try line x) in
      let r = done_read x in
      (λ h. r.0 (n.0 (sym (number_is x) ∙ h)), λ w. number_is x ∙ n.1 (r.1 w))

module _ (t x room : List ℕ) (clean : fault_of t ≡ 0) (one : length x ≡ 12) (fits : length t ≤ length room) where
  holds : list_holds x ≡ true
  unfolding list_holds
  holds = rw one

  one_reading : steps_of x ≡ step_at x 0 ∷ []
  unfolding steps_of range
  one_reading = ap (λ (n : ℕ). map (step_at x) (range 0 (n / 12))) one

  pub answer_is : answer_number (outcome t x room).answer ≡ number_of (line_of t) (step_at x 0)
  answer_is = ap (λ (o : Outcome). answer_number o.answer) (accepted_outcome t x room (begins t x room clean holds fits)) ∙ ap (λ (l : List Reading). ending_number (run (line_of t) l).ending) one_reading

  pub one_accepted : (answer_number (outcome t x room).answer ≡ 0) ↔ ReadDone (line_of t) (step_at x 0)
  one_accepted =
      let w = number_done (line_of t) (step_at x 0) in
      (λ h. w.0 (sym answer_is ∙ h), λ h. answer_is ∙ w.1 h)
