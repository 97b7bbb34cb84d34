-- The exit that comes later: the station still has its leaving mark, and NIDEC holds for it, so its exit is done or finds a bag full.
use Prim.Native.Nat.{ℕ}
use Rattle.std.specs.Prelude.{Ok}
use mathlib.Core.Path.{◌≡◌, refl, sym, ap, ◌∙◌}
use mathlib.Core.Logic.{◌⊎◌, inl, inr}
use mathlib.Core.Bool.{Bool, true, false}
use mathlib.Core.List.{List, []}
use mathlib.Core.List.{Memᴰ as Member}
use Rattle.lists.specs.Lists.{all}
use Rattle.line.specs.declared.Marks.{Marks}
use Rattle.line.specs.declared.Refusal.TheVariants.{Full}
use Rattle.line.specs.Answer.{done, ◌>>=◌, require, unless_held, ending_number}
use Rattle.line.specs.Node.{Node, Line, number, leaving, in_written_order}
use Rattle.line.specs.Accepted.{Accepted}
use Rattle.line.specs.Leave.{leave_of}
use Rattle.line.specs.Act.{introduce_both, act}
use Rattle.line.specs.Step.{without, replace, send_all, has_room, commit, step}
use Rattle.line.specs.Run.{try, run}
use Rattle.line.specs.Situations.{exit_of}
use Rattle.line.proofs.AcceptedTest.{in_range_lem}
use Rattle.line.proofs.Changes.{member_found}
use Rattle.line.proofs.LeaveTest.{leave_tested}
use Rattle.line.proofs.Runs.{next, marks_kept}
use Rattle.line.proofs.WrittenOrder.{written_order_stays}
use Rattle.lasting.proofs.StepsElsewhere.{NidecAt}
use Rattle.table.specs.Blocks.{nodes, line_of}
use Rattle.table.specs.Fault.{fault_of}
use Rattle.table.proofs.Accepting.{table_accepted}
use Rattle.steps.specs.Steps.{steps_of, step_bytes}
use Rattle.steps.proofs.Records.{step_size}
use Rattle.steps.proofs.ReadBack.{step_reads_back}
use Rattle.finishing.specs.Ended.{run_of}
use Rattle.engine.proofs.WholeLists.{after_sound, written_is_accepted, written_reads_back}
use Rattle.questions.proofs.Meanings.{reading_alike}
use Rattle.next_steps.proofs.OneStep.{number_of, number_is, answer_is}
use Rattle.appendix.specs.Claims.{table_after, ExitLater}
use Rattle.appendix.proofs.Facts.{answered_zero, nidec_of, nidec_after}

-- 0 or 15
abbrev Exited : ℕ → Type 0
Exited n = (n ≡ 0) ⊎ (n ≡ 15)

-- Of an accepted line and a leaving station for which NIDEC holds: the exit alone.
module _ (line : Line) (n : ℕ) (ok : Accepted line) (b : NidecAt n line) (goes : leaving b.block ≡ true) where
  after : Line
  after = send_all (introduce_both b.block.station.left b.block.station.right) (without (number b.block) line)

  room : Bool
  room = all (has_room line) (introduce_both b.block.station.left b.block.station.right)

  exit_is : step line (exit_of n) ≡ require room Full (done after)
  unfolding step ◌>>=◌ act require unless_held commit replace after room
  exit_is =
      let s = b.block in
      let finds = member_found n line ok.distinct b.member b.named in
      let may : leave_of line s ≡ (Ok tt) = (leave_tested line s (Ok tt)).1 b.holds in
      rw (finds, may, goes) refl

  exited : (t : Bool) → Exited (ending_number (next line [] (require t Full (done after))).ending)
  unfolding require run
  exited true = inl refl
  exited false = inr refl

  exit_number : Exited (number_of line (Ok (exit_of n)))
  unfolding try
  exit_number = rw (number_is line (Ok (exit_of n)), exit_is) (exited room)

-- the station still has the mark that it had
still_leaving : (t steps : List ℕ) (s : Node) → Member s (nodes t) → leaving s ≡ true → fault_of t ≡ 0 → (u : Node) → Member u (run_of t steps).line → number u ≡ number s → leaving u ≡ true
still_leaving t steps s m goes clean u k e =
    let w = marks_kept (line_of t) (steps_of steps) (table_accepted t clean).1 u k in
    let a = (reading_alike t clean).nodes s w.0 m w.1 (sym e ∙ sym w.2) in
    ap (λ (z : Marks). z.leaving) (sym w.3 ∙ sym a.marks) ∙ goes

pub exit_later : ExitLater
unfolding line_of
exit_later t steps room room' s m goes may zero elsewhere fits =
    let r = answered_zero t steps room zero in
    let b = nidec_after t steps (number s) may elsewhere in
    let clean = (nidec_of t (number s) may).0 in
    let back = written_reads_back t steps room r.began in
    let line = (run_of t steps).line in
    let ok = (after_sound t steps clean).0 in
    let left = still_leaving t steps s m goes clean b.block b.member b.named in
    let same : line_of (table_after t steps room) ≡ line = ap in_written_order back.0 ∙ written_order_stays line back.1 in
    let ranged = (in_range_lem (number s)).1 (rw b.named at (ok.ranged b.block b.member)) in
    let x = step_bytes (exit_of (number s)) in
    rw (answer_is (table_after t steps room) x room' (written_is_accepted t steps room r.began) (step_size (exit_of (number s))) fits, same, step_reads_back (exit_of (number s)) (rw ranged))
    (exit_number line (number s) ok b left)
