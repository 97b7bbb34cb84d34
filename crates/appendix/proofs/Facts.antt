-- Why the two facts hold. A run answered 0 has begun and come to its end; what is told of the table read is so of the line that the run starts
-- from; the run keeps it (lasting/proofs/Runs.antt); and it is told again of the table written.
use Prim.Native.Nat.{ℕ}
use Rattle.std.specs.Prelude.{Ok, Err}
use Rattle.line.specs.Types.{Reading}
use mathlib.Core.Path.{◌≡◌, refl}
use mathlib.Core.Bool.{Bool, true, false, cond}
use mathlib.Core.List.{List}
use native.Mathlib.Omega.{arith}
use lib.Dec.{eqb}
use borrow.Author.Tests.{eqb-true, eqb-false}
use Rattle.line.specs.declared.Step as declared
use Rattle.line.specs.Answer.{Answer, refused, done, answer_number}
use Rattle.line.specs.Node.{Node, Line}
use Rattle.line.specs.InLine.{InLine, in_line}
use Rattle.line.specs.Leave.{leave_of}
use Rattle.line.specs.Step.{find}
use Rattle.line.specs.Run.{try}
use Rattle.line.proofs.Answers.{ending_zero, refused_done}
use Rattle.line.proofs.Changes.{found}
use Rattle.line.proofs.InLineTest.{in_line_tested}
use Rattle.line.proofs.LeaveTest.{leave_tested}
use Rattle.line.proofs.Runs.{run_does}
use Rattle.lasting.proofs.StepsElsewhere.{NidecAt}
use Rattle.lasting.proofs.Runs.{run_in_line, run_without_exit, run_elsewhere}
use Rattle.table.specs.Blocks.{line_of}
use Rattle.table.specs.Fault.{fault_of}
use Rattle.table.proofs.Accepting.{table_accepted}
use Rattle.steps.specs.Steps.{steps_of}
use Rattle.finishing.specs.Ended.{run_of, ended_with}
use Rattle.engine.specs.Ran.{fault_before, refused_with, outcome}
use Rattle.engine.proofs.WholeLists.{written_is_accepted, written_reads_back}
use Rattle.questions.specs.Told.{yes_no, is_in_line}
use Rattle.questions.proofs.Meanings.{in_line_means}
use Rattle.leave.specs.Leave.{leave_at, may_leave}
use Rattle.leave.proofs.Meanings.{may_leave_means}
use Rattle.appendix.specs.Claims.{answer_of, table_after, RecordsAreSteps, LineLasts, NoStepAt, LeaveLasts}

-- A run answered 0:
pub record RanWhole (t steps room : List ℕ) : Type 0 where
  pub began : fault_before t steps room ≡ 0
  pub ended : (run_of t steps).ending ≡ Ok tt

pub answered_zero : (t steps room : List ℕ) → answer_of t steps room ≡ 0 → RanWhole t steps room
unfolding outcome
answered_zero t steps room = go (eqb (fault_before t steps room) 0) refl
  where
    go : (b : Bool) → eqb (fault_before t steps room) 0 ≡ b
        → answer_number (cond b (ended_with (run_of t steps) room) (refused_with (fault_before t steps room) room)).answer ≡ 0 → RanWhole t steps room
    go true e h = record { began = eqb-true (fault_before t steps room) 0 e; ended = ending_zero (run_of t steps).ending h }
    go false e h = absurd (eqb-false (fault_before t steps room) 0 e h)

-- Its records were all done, and only a step is done.
done_is_step : (line : Line) (r : Reading) {after : Line} → try line r ≡ done after → (x : declared.Step) × (r ≡ Ok x)
unfolding try
done_is_step line (Ok x) e = (x, refl)
done_is_step line (Err q) e = refused_done e

pub records_are_steps : RecordsAreSteps
records_are_steps t steps room zero r m =
    let d = run_does (λ (l : Line). Unit {0}) (steps_of steps) (λ a b x k p e. tt) (line_of t) tt (answered_zero t steps room zero).ended r m in
    done_is_step d.before r d.does

-- A table of which the line question says yes is accepted, and its line is in line.
in_line_of : (t : List ℕ) → is_in_line t ≡ Ok true → (fault_of t ≡ 0) × InLine (line_of t)
unfolding is_in_line
in_line_of t = go (eqb (fault_of t) 0) refl (in_line (line_of t)) refl
  where
    go : (b : Bool) → eqb (fault_of t) 0 ≡ b → (i : Bool) → in_line (line_of t) ≡ i → cond b (yes_no i) (Err (fault_of t)) ≡ Ok true → (fault_of t ≡ 0) × InLine (line_of t)
    go true e true i h = let z = eqb-true (fault_of t) 0 e in (z, (in_line_tested (line_of t) (table_accepted t z).2.rising).0 i)
    go true e false i h = absurd (let z : ◌≡◌ {A = ℕ} 0 1 = cc in omega arith)
    go false e b i h = absurd (let z : ◌≡◌ {A = ℕ} 0 1 = cc in omega arith)

-- A table of which the leave question says yes is accepted, and NIDEC holds for the station in its line.
pub nidec_of : (t : List ℕ) (n : ℕ) → may_leave t n ≡ Ok (Ok tt) → (fault_of t ≡ 0) × NidecAt n (line_of t)
unfolding may_leave
nidec_of t n = go (eqb (fault_of t) 0) refl (find n (line_of t)) refl
  where
    go : (b : Bool) → eqb (fault_of t) 0 ≡ b → (a : Answer Node) → find n (line_of t) ≡ a → cond b (leave_at (line_of t) a) (Err (fault_of t)) ≡ Ok (Ok tt) → (fault_of t ≡ 0) × NidecAt n (line_of t)
    go true e (refused r) f h = absurd (let z : ◌≡◌ {A = ℕ} 0 1 = cc in omega arith)
    go true e (done s) f h =
        let may : leave_of (line_of t) s ≡ (Ok tt) = cc in
        let w = found n (line_of t) f in
        (eqb-true (fault_of t) 0 e, record { block = s; member = w.0; named = w.1; holds = (leave_tested (line_of t) s (Ok tt)).0 may })
    go false e a f h = absurd (let z : ◌≡◌ {A = ℕ} 0 1 = cc in omega arith)

pub line_lasts : LineLasts
line_lasts t steps room lined zero =
    let r = answered_zero t steps room zero in
    let l = in_line_of t lined in
    let ok = (table_accepted t l.0).1 in
    let back = (written_reads_back t steps room r.began).0 in (
      (in_line_means (table_after t steps room) (written_is_accepted t steps room r.began)).1 (rw back (run_in_line (line_of t) (steps_of steps) ok l.1)),
      run_without_exit (line_of t) (steps_of steps) ok l.1 r.ended,
    )

-- NIDEC for the station in the line that the run leaves
pub nidec_after : (t steps : List ℕ) (n : ℕ) → may_leave t n ≡ Ok (Ok tt) → NoStepAt n steps → NidecAt n (run_of t steps).line
nidec_after t steps n may elsewhere =
    let b = nidec_of t n may in
    run_elsewhere (line_of t) (steps_of steps) n (table_accepted t b.0).1 b.1 elsewhere

pub leave_lasts : LeaveLasts
leave_lasts t steps room n may zero elsewhere =
    let r = answered_zero t steps room zero in
    let b = nidec_after t steps n may elsewhere in
    let back = (written_reads_back t steps room r.began).0 in
    rw (← b.named) ((may_leave_means (table_after t steps room) b.block (Ok tt) (written_is_accepted t steps room r.began) (rw back b.member)).1 (rw back b.holds))
