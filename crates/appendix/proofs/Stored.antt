-- The run and the two questions over the table of a line: they are the machine and the tests over the stations in written order. So a worked
-- run over bytes is computed over stations.
use Prim.Native.Nat.{ℕ, ◌≤◌}
use Rattle.std.specs.Prelude.{Ok, Err}
use mathlib.Core.Path.{◌≡◌, ap, ◌∙◌}
use mathlib.Core.Logic.{◌↔◌}
use mathlib.Core.Bool.{Bool, true, false}
use mathlib.Core.List.{List, map}
use mathlib.Core.List.{Memᴰ as Member}
use lib.ListN.{length}
use Rattle.lists.specs.Lists.{all}
use Rattle.lists.proofs.Lists.{clash, all_true, all_false, map-mem, mem-map}
use Rattle.line.specs.declared.Step as declared
use Rattle.line.specs.Answer.{ending_number, answer_number}
use Rattle.line.specs.Node.{Line, in_written_order}
use Rattle.line.specs.Accepted.{accepted}
use Rattle.line.specs.InLine.{in_line}
use Rattle.line.specs.Step.{find}
use Rattle.line.specs.Run as machine
use Rattle.line.proofs.AcceptedTest.{accepted_tested}
use Rattle.table.specs.Blocks.{nodes, line_of, bytes_of}
use Rattle.table.specs.Fault.{fault_of}
use Rattle.table.proofs.Circle.{stored_accepted}
use Rattle.steps.specs.Steps.{steps_of, list_bytes}
use Rattle.finishing.specs.Ended.{Outcome, run_of}
use Rattle.engine.specs.Ran.{list_holds, fault_before, table_in}
use Rattle.engine.proofs.WholeLists.{begins, accepted_outcome, table_in_ended}
use Rattle.questions.specs.Told.{yes_no, is_in_line}
use Rattle.questions.proofs.Meanings.{answered}
use Rattle.leave.specs.Leave.{leave_at, may_leave, LeaveTold}
use Rattle.lasting.specs.Examples.{Says}
use Rattle.appendix.specs.Examples.{Runs}

-- What is computed of a line: it is accepted, and is in written order.
pub record Stored (line : Line) : Type 0 where
  pub accepts : accepted line ≡ true
  pub ordered : in_written_order line ≡ line

-- Its table has no fault, and these stations.
pub stored : (line : Line) → accepted line ≡ true → (fault_of (bytes_of line) ≡ 0) × (nodes (bytes_of line) ≡ line)
stored line e = stored_accepted line ((accepted_tested line).0 e)

module _ (line : Line) (c : Stored line) where
  clean : fault_of (bytes_of line) ≡ 0
  clean = (stored line c.accepts).0

  line_stored : line_of (bytes_of line) ≡ line
  unfolding line_of
  line_stored = ap in_written_order (stored line c.accepts).1 ∙ c.ordered

  pub told_line : (b : Bool) → in_line line ≡ b → is_in_line (bytes_of line) ≡ yes_no b
  unfolding is_in_line
  told_line b e = answered (bytes_of line) Err (yes_no (in_line (line_of (bytes_of line)))) clean ∙ ap yes_no (ap in_line line_stored ∙ e)

  pub told_leave : (n : ℕ) (x : LeaveTold) → leave_at line (find n line) ≡ x → may_leave (bytes_of line) n ≡ x
  unfolding may_leave
  told_leave n x e =
      answered (bytes_of line) Err (leave_at (line_of (bytes_of line)) (find n (line_of (bytes_of line)))) clean
      ∙ ap (λ (z : Line). leave_at z (find n z)) line_stored ∙ e

-- What is computed of a list and of its run over a line.
pub record Computed (before : Line) (steps : List declared.Step) (answer : ℕ) (after : Line) : Type 0 where
  pub listed : list_holds (list_bytes steps) ≡ true
  pub reads : steps_of (list_bytes steps) ≡ map Ok steps
  pub answers : ending_number (machine.run before (map Ok steps)).ending ≡ answer
  pub leaves : (machine.run before (map Ok steps)).line ≡ after

pub runs_stored : (before : Line) (steps : List declared.Step) (answer : ℕ) (after : Line) → Stored before → Computed before steps answer after → Runs before steps answer after
runs_stored before steps answer after s c =
    let t = bytes_of before in
    let l = list_bytes steps in
    record {
      accepted = clean before s;
      reads = c.reads;
      answers = λ room fits. ap (λ (o : Outcome). answer_number o.answer) (accepted_outcome t l room (begun room fits)) ∙ ap (λ (r : machine.Run). ending_number r.ending) same ∙ c.answers;
      writes = λ room fits. ap table_in (accepted_outcome t l room (begun room fits)) ∙ table_in_ended t l room (clean before s) ∙ ap bytes_of (ap (λ (r : machine.Run). r.line) same ∙ c.leaves);
    }
  where
    same : run_of (bytes_of before) (list_bytes steps) ≡ machine.run before (map Ok steps)
    same = ap (λ (z : Line). machine.run z (steps_of (list_bytes steps))) (line_stored before s) ∙ ap (machine.run before) c.reads

    begun : (room : List ℕ) → length (bytes_of before) ≤ length room → fault_before (bytes_of before) (list_bytes steps) room ≡ 0
    begun room fits = begins (bytes_of before) (list_bytes steps) room (clean before s) c.listed fits

-- What a test says of every step of such a list.
pub steps_tested : (P : declared.Step → Type 0) (test : declared.Step → Bool) → ((x : declared.Step) → (test x ≡ true) ↔ P x)
    → (l : List declared.Step) → steps_of (list_bytes l) ≡ map Ok l → (b : Bool) → all test l ≡ b
    → Says b ((x : declared.Step) → Member (Ok x) (steps_of (list_bytes l)) → P x)
steps_tested P test t l reads true e = λ x m.
    let w = map-mem Ok l (rw reads at m) in
    let z : x ≡ w.0 = cc in
    rw z ((t w.0).0 (all_true test e w.1))
steps_tested P test t l reads false e = λ f.
    let w = all_false test l e in
    clash ((t w.0).1 (f w.0 (rw reads (mem-map Ok w.1)))) w.2
