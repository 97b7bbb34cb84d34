-- Each premise is needed: the worked runs that lack one are the witnesses.
use Prim.Native.Nat.{ℕ}
use Rattle.std.specs.Prelude.{Ok, Err}
use mathlib.Core.Path.{◌≡◌, refl, sym, ap, ◌∙◌}
use mathlib.Core.Logic.{◌≢◌}
use mathlib.Core.Bool.{true, false}
use mathlib.Core.List.Memᴰ
use mathlib.Core.List.{List, [], ◌∷◌}
use mathlib.Core.List.Memᴰ.{head as here}
use mathlib.Core.List.Memᴰ.{tail as there}
use native.Mathlib.Omega.{arith}
use Rattle.lists.specs.Lists.{all, sort}
use Rattle.lists.specs.Numbers.{are_distinct}
use Rattle.lists.specs.Places.{range}
use Rattle.line.specs.declared.Step as declared
use Rattle.line.specs.declared.Reason.TheVariants.{HeldBy}
use Rattle.line.specs.Node.{Line, in_written_order}
use Rattle.line.specs.InLine.{NeighboursInLine, Quiet, AllStay}
use Rattle.line.specs.Step.{find}
use Rattle.line.specs.Accepted.{accepted}
use Rattle.table.specs.Blocks.{nodes, bytes_of}
use Rattle.steps.specs.Steps.{steps_of, list_bytes}
use Rattle.engine.specs.Ran.{list_holds, fault_before, outcome}
use Rattle.questions.specs.Told.{yes_no, is_in_line}
use Rattle.leave.specs.Leave.{may_leave}
use Rattle.lasting.specs.Examples.{is_lined}
use Rattle.appendix.specs.Claims.{answer_of, table_after, HoldsNoExit}
use Rattle.appendix.specs.Examples.{Runs, LineRun, ShowsLineRun, removal_waits, station_leaves, neighbours_apart, exit_refused, line_runs, LeaveRun, ShowsLeaveRun, lasting_leave, own_timeout, held_before, leave_runs}
use Rattle.appendix.specs.Needed.{LineLastsFrom, NoExitFrom, LinePremisesNeeded, LeavePremisesNeeded}
use Rattle.appendix.proofs.Stored.{stored, told_leave}
use Rattle.appendix.proofs.Worked.{line_runs_show, leave_runs_show}

-- A run over a room as long as its table.
module _ {before after : Line} {steps : List declared.Step} {answer : ℕ} (r : Runs before steps answer after) where
  ran : answer_of (bytes_of before) (list_bytes steps) (bytes_of before) ≡ answer
  ran = r.answers (bytes_of before) (omega arith)

  wrote : table_after (bytes_of before) (list_bytes steps) (bytes_of before) ≡ bytes_of after
  wrote = r.writes (bytes_of before) (omega arith)

-- For the first fact: a run answered 0, P holding of the stations read.
module _ (x : LineRun) (s : ShowsLineRun x) (zero : x.answer ≡ 0) (P : Line → Type 0) (holds : P x.before.line) where
  -- so P holds of the blocks of the table
  from : P (nodes (bytes_of x.before.line))
  from = rw (stored x.before.line s.before.accepts).1 holds

  -- the stations written are not in line
  falls : is_lined x.after ≡ false → ¬ LineLastsFrom P
  falls e f =
      let t = bytes_of x.before.line in
      let z : yes_no false ≡ (Ok true) = sym (ap yes_no e) ∙ sym s.told_after ∙ sym (ap is_in_line (wrote s.runs)) ∙ f t (list_bytes x.steps) t s.runs.accepted from (ran s.runs ∙ zero) in
      let w : ◌≡◌ {A = ℕ} 0 1 = cc in
      omega arith

  -- the list holds an exit
  exits : ¬ HoldsNoExit (list_bytes x.steps) → ¬ NoExitFrom P
  exits e f =
      let t = bytes_of x.before.line in
      e (f t (list_bytes x.steps) t s.runs.accepted from (ran s.runs ∙ zero))

pub line_premises_needed : LinePremisesNeeded
unfolding line_runs
line_premises_needed =
    let removal = line_runs_show removal_waits (there (here refl)) in
    let leaving = line_runs_show station_leaves (there (there (here refl))) in
    let apart = line_runs_show neighbours_apart (there (there (there (here refl)))) in
    let stopped = line_runs_show exit_refused (there (there (there (there (here refl))))) in
    let t = bytes_of removal_waits.before.line in
    let u = bytes_of exit_refused.before.line in
    record {
      document-01 = λ f.
          removal.after.neighbours
          (rw (wrote removal.runs, (stored removal_waits.after.line removal.after.accepts).1)
          at (f t (list_bytes removal_waits.steps) t removal.runs.accepted (from removal_waits removal refl NeighboursInLine removal.before.neighbours) (ran removal.runs)));
      quiet = falls removal_waits removal refl (λ (l : Line). NeighboursInLine l × AllStay l) (removal.before.neighbours, removal.before.staying) refl;
      staying = falls station_leaves leaving refl (λ (l : Line). NeighboursInLine l × Quiet l) (leaving.before.neighbours, leaving.before.quiet) refl;
      no_exit = exits station_leaves leaving refl (λ (l : Line). NeighboursInLine l × Quiet l) (leaving.before.neighbours, leaving.before.quiet) leaving.no_exit;
      neighbours = falls neighbours_apart apart refl (λ (l : Line). Quiet l × AllStay l) (apart.before.quiet, apart.before.staying) refl;
      answered = λ f. stopped.no_exit (f u (list_bytes exit_refused.steps) u stopped.told_before);
    }

-- For the second fact: station 5 is held by 3 afterwards, so it may not leave.
held_after : (x : LeaveRun) (s : ShowsLeaveRun x) → x.told_after ≡ Ok (Err (HeldBy 3))
    → may_leave (table_after (bytes_of x.before) (list_bytes x.steps) (bytes_of x.before)) 5 ≢ Ok (Ok tt)
held_after x s e h =
    let z : Ok (Err (HeldBy 3)) ≡ Ok (Ok tt) = sym e ∙ sym s.told_after ∙ sym (ap (λ (t : List ℕ). may_leave t 5) (wrote s.runs)) ∙ h in
    let w : ◌≡◌ {A = ℕ} 0 1 = cc in
    omega arith

pub leave_premises_needed : LeavePremisesNeeded
unfolding leave_runs all steps_of range fault_before list_holds outcome bytes_of accepted are_distinct in_written_order sort find
leave_premises_needed =
    let held = leave_runs_show held_before (there (there (there (there (here refl))))) in
    let own = leave_runs_show own_timeout (there (there (here refl))) in
    let may = leave_runs_show (lasting_leave true) (here refl) in
    let t = bytes_of (lasting_leave true).before in
    let u = bytes_of own_timeout.before in
    let v = bytes_of held_before.before in
    record {
      may = λ f.
          held_after held_before held refl
          (f v (list_bytes held_before.steps) v 5 (Err (HeldBy 3)) held.told_before (ran held.runs) held.elsewhere);
      elsewhere = λ f. held_after own_timeout own refl (f u (list_bytes own_timeout.steps) u 5 own.told_before (ran own.runs));
      -- a list of one byte is refused with 8
      answered = λ f.
          let z : may_leave [] 5 ≡ Ok (Ok tt) = rw may.runs.accepted at (f t (0 ∷ []) [] 5 may.told_before (λ x m. absurd (Memᴰ.not-nil m))) in
          let w : Err 11 ≡ Ok (Ok tt) = sym (told_leave [] (record { accepts = refl; ordered = refl }) 5 (Err 11) refl) ∙ z in
          absurd (let y : ◌≡◌ {A = ℕ} 0 1 = cc in omega arith);
    }
