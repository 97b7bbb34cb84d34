-- The number 14 is only of a run that stopped at a held exit, and carries what holds the station in the line left, of which the table is
-- written (document 02, T-02).
use Prim.Native.Nat.{ℕ}
use Rattle.std.specs.Prelude.{None, Ok, Err}
use Rattle.line.specs.Types.{Ending}
use mathlib.Core.Path.{◌≡◌, refl, ap, ◌∙◌}
use mathlib.Core.Logic.{◌≢◌}
use mathlib.Core.List.{List}
use native.Mathlib.Omega.{arith}
use Rattle.line.specs.declared.Reason.{Reason}
use Rattle.line.specs.declared.Refusal.TheVariants.{Malformed, Absent, NotInBag, Staying, Held, Full}
use Rattle.line.specs.Answer.{ending_number, ending_reason, answer_number, answer_reason}
use Rattle.line.specs.Run.{EndsAt}
use Rattle.line.proofs.Runs.{run_pinned}
use Rattle.line.proofs.Causes.{refused_exactly}
use Rattle.table.specs.Blocks.{line_of}
use Rattle.table.specs.Fault.{fault_of}
use Rattle.steps.specs.Steps.{steps_of}
use Rattle.finishing.specs.Ended.{Outcome, run_of, ended_with}
use Rattle.engine.proofs.WholeLists.{table_fault, after_sound, table_in_ended}
use Rattle.engine.proofs.Before.{before_most}
use Rattle.engine.proofs.Written.{either}
use Rattle.leave.specs.Leave.{may_leave}
use Rattle.reasons.specs.Claims.{CarriesReason, ReasonCarried, NoOtherReason}
use Rattle.reasons.proofs.Asked.{told_of}
use Rattle.reasons.proofs.StoppedAt.{stopped_at}

-- Of a run over an accepted table:
module _ (t steps room : List ℕ) (clean : fault_of t ≡ 0) where
  -- it stopped at a held exit
  held_carries : (why : Reason) → (run_of t steps).ending ≡ Err (Held why)
      → EndsAt (steps_of steps) (run_of t steps).steps (run_of t steps).line (Err (Held why))
      → CarriesReason steps (ended_with (run_of t steps) room)
  held_carries why e w =
      let line = (run_of t steps).line in
      let sound = after_sound t steps clean in
      let at = stopped_at steps (run_of t steps).steps line why w in
      let cause = (refused_exactly line at.held (Held why) sound.0).0 at.refuses in
      record {
        step = at.held;
        stopped = at.read;
        exits = cause.holds.0;
        why = why;
        carried = ap Ok e;
        told =
            ap (λ (u : List ℕ). may_leave u at.held.station) (table_in_ended t steps room clean)
            ∙ rw (← cause.named) (told_of line cause.block (Err why) sound.0 sound.1 cause.member cause.holds.2);
      }

  -- no other ending has the number 14
  ended_carries : ending_number (run_of t steps).ending ≡ 14 → CarriesReason steps (ended_with (run_of t steps) room)
  ended_carries = go (run_of t steps).ending refl ((run_pinned (line_of t) (steps_of steps) (run_of t steps)).0 refl).ends
    where
      go : (e : Ending) → (run_of t steps).ending ≡ e → EndsAt (steps_of steps) (run_of t steps).steps (run_of t steps).line e
          → ending_number e ≡ 14 → CarriesReason steps (ended_with (run_of t steps) room)
      go (Ok _) e w n = absurd (omega arith)
      go (Err Malformed) e w n = absurd (omega arith)
      go (Err Absent) e w n = absurd (omega arith)
      go (Err NotInBag) e w n = absurd (omega arith)
      go (Err Staying) e w n = absurd (omega arith)
      go (Err (Held why)) e w n = held_carries why e w
      go (Err Full) e w n = absurd (omega arith)

-- what is refused before the first step is at most 9
pub reason_carried : ReasonCarried
reason_carried t steps room =
    either (λ (o : Outcome). answer_number o.answer ≡ 14 → CarriesReason steps o) t steps room (λ e. ended_carries t steps room (table_fault t steps room e))
    (λ n. absurd (omega (arith, before_most t steps room)))

-- only a held exit has a reason
no_reason : (e : Ending) → ending_number e ≢ 14 → ending_reason e ≡ None
no_reason (Ok _) h = refl
no_reason (Err Malformed) h = refl
no_reason (Err Absent) h = refl
no_reason (Err NotInBag) h = refl
no_reason (Err Staying) h = refl
no_reason (Err (Held why)) h = absurd (h refl)
no_reason (Err Full) h = refl

pub no_other_reason : NoOtherReason
no_other_reason t steps room =
    either (λ (o : Outcome). answer_number o.answer ≢ 14 → answer_reason o.answer ≡ None) t steps room
    (λ e. no_reason (run_of t steps).ending) (λ h. refl)
