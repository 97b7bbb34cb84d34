-- The worked runs are computed.
use Prim.Native.Nat.{ℕ}
use mathlib.Core.Path.{◌≡◌, refl}
use mathlib.Core.Logic.{◌↔◌, ◌≢◌}
use mathlib.Core.Bool.{Bool, true, false, not}
use native.Mathlib.Omega.{arith}
use lib.Dec.{eqb}
use borrow.Author.Tests.{eqb-false, ne_eqb, not-true}
use Rattle.lists.specs.Lists.{all, any, insert, remove_first, sort}
use Rattle.lists.specs.Numbers.{rises, are_distinct}
use Rattle.lists.specs.Places.{range}
use Rattle.lists.proofs.Lists.{clash}
use Rattle.line.specs.declared.Action.{Action}
use Rattle.line.specs.declared.Action.TheVariants.{Timeout, Deliver, Exit}
use Rattle.line.specs.declared.Step as declared
use Rattle.line.specs.Answer.{◌>>=◌, require, unless_held}
use Rattle.line.specs.Message.{removal, same, is_removal, precedes}
use Rattle.line.specs.Marks.{marks_hold}
use Rattle.line.specs.Node.{beyond, side_of, with_neighbour, lower, with_bag_in_order, in_written_order}
use Rattle.line.specs.Nidec.{is_neighbour, names, is_empty}
use Rattle.line.specs.Leave.{holder_of, leave_of}
use Rattle.line.specs.InLine.{is_same, first, neighbours_after, neighbours_in_line, is_quiet}
use Rattle.line.specs.Act.{send_to, notice, timeout, meet, introduced, drop_neighbour, removed, received, introduce_both, act}
use Rattle.line.specs.Step.{find, change, without, replace, with_message, send_all, has_room, commit, step}
use Rattle.line.specs.Run.{try, run}
use Rattle.line.specs.Accepted.{in_range, has_small_bag, lies_beyond, has_sides, is_present, knows_neighbour, knows_content, names_present, accepted}
use Rattle.line.proofs.Worked.{each}
use Rattle.lasting.specs.Examples.{is_lined}
use Rattle.lasting.proofs.Worked as lasting
use Rattle.steps.specs.Steps.{plain, step_of, step_at, steps_of, step_bytes, list_bytes}
use Rattle.fields.specs.Fields.{place_of}
use Rattle.engine.specs.Ran.{list_holds}
use Rattle.leave.specs.Leave.{leave_at}
use Rattle.appendix.specs.Examples.{LineRun, ShowsLineRun, line_runs, LineRunsShow, LeaveRun, ShowsLeaveRun, leave_runs, LeaveRunsShow}
use Rattle.appendix.proofs.Stored.{Stored, told_line, told_leave, Computed, runs_stored, steps_tested}

-- The two tests of a step: it is no exit; it is not at station n.
abbrev is_no_exit : Action → Bool
is_no_exit Timeout = true
is_no_exit (Deliver m) = true
is_no_exit Exit = false

no_exit_tested : (x : declared.Step) → (is_no_exit x.action ≡ true) ↔ (x.action ≢ Exit)
no_exit_tested x = go x.action
  where
    go : (a : Action) → (is_no_exit a ≡ true) ↔ (a ≢ Exit)
    go Timeout = (λ e z. let w : ◌≡◌ {A = ℕ} 0 1 = cc in omega arith, λ h. refl)
    go (Deliver m) = (λ e z. let w : ◌≡◌ {A = ℕ} 0 1 = cc in omega arith, λ h. refl)
    go Exit = (λ e. clash e refl, λ h. absurd (h refl))

is_elsewhere : ℕ → declared.Step → Bool
is_elsewhere n x = not (eqb x.station n)

elsewhere_tested : (n : ℕ) (x : declared.Step) → (is_elsewhere n x ≡ true) ↔ (x.station ≢ n)
unfolding is_elsewhere
elsewhere_tested n x = (λ e. eqb-false x.station n (not-true (eqb x.station n) e), λ h. rw (ne_eqb x.station n h))

-- What is computed of a run for the first fact.
record ComputedLineRun (x : LineRun) : Type 0 where
  before : lasting.Computed x.before
  before_ordered : in_written_order x.before.line ≡ x.before.line
  after : lasting.Computed x.after
  after_ordered : in_written_order x.after.line ≡ x.after.line
  no_exit : all (λ (y : declared.Step). is_no_exit y.action) x.steps ≡ x.no_exit
  runs : Computed x.before.line x.steps x.answer x.after.line

shows_line_run : (x : LineRun) → ComputedLineRun x → ShowsLineRun x
shows_line_run x c =
    let before : Stored x.before.line = record { accepts = c.before.accepts; ordered = c.before_ordered } in
    let after : Stored x.after.line = record { accepts = c.after.accepts; ordered = c.after_ordered } in
    record {
      runs = runs_stored x.before.line x.steps x.answer x.after.line before c.runs;
      before = lasting.shows x.before c.before;
      after = lasting.shows x.after c.after;
      no_exit = steps_tested (λ (y : declared.Step). y.action ≢ Exit) (λ (y : declared.Step). is_no_exit y.action) no_exit_tested x.steps c.runs.reads x.no_exit c.no_exit;
      told_before = told_line x.before.line before (is_lined x.before) (lasting.is_lined_lem x.before c.before);
      told_after = told_line x.after.line after (is_lined x.after) (lasting.is_lined_lem x.after c.after);
    }

pub line_runs_show : LineRunsShow
unfolding accepted marks_hold in_range has_small_bag lies_beyond has_sides are_distinct is_present knows_neighbour knows_content names_present all any insert remove_first sort range require ◌>>=◌ removal same is_removal precedes beyond side_of with_neighbour lower with_bag_in_order in_written_order is_neighbour names is_empty holder_of leave_of unless_held send_to notice timeout meet introduced drop_neighbour removed received introduce_both act find change without replace with_message send_all has_room commit step try run rises is_same first neighbours_after neighbours_in_line is_quiet plain step_of step_at steps_of step_bytes list_bytes place_of list_holds line_runs
line_runs_show x m = shows_line_run x (each ComputedLineRun (
  record { before = record { accepts = refl; rise = refl; neighbours = refl; quiet = refl; staying = refl }; before_ordered = refl; after = record { accepts = refl; rise = refl; neighbours = refl; quiet = refl; staying = refl }; after_ordered = refl; no_exit = refl; runs = record { listed = refl; reads = refl; answers = refl; leaves = refl } },
  (
    record { before = record { accepts = refl; rise = refl; neighbours = refl; quiet = refl; staying = refl }; before_ordered = refl; after = record { accepts = refl; rise = refl; neighbours = refl; quiet = refl; staying = refl }; after_ordered = refl; no_exit = refl; runs = record { listed = refl; reads = refl; answers = refl; leaves = refl } },
    (
      record { before = record { accepts = refl; rise = refl; neighbours = refl; quiet = refl; staying = refl }; before_ordered = refl; after = record { accepts = refl; rise = refl; neighbours = refl; quiet = refl; staying = refl }; after_ordered = refl; no_exit = refl; runs = record { listed = refl; reads = refl; answers = refl; leaves = refl } },
      (
        record { before = record { accepts = refl; rise = refl; neighbours = refl; quiet = refl; staying = refl }; before_ordered = refl; after = record { accepts = refl; rise = refl; neighbours = refl; quiet = refl; staying = refl }; after_ordered = refl; no_exit = refl; runs = record { listed = refl; reads = refl; answers = refl; leaves = refl } },
        (record { before = record { accepts = refl; rise = refl; neighbours = refl; quiet = refl; staying = refl }; before_ordered = refl; after = record { accepts = refl; rise = refl; neighbours = refl; quiet = refl; staying = refl }; after_ordered = refl; no_exit = refl; runs = record { listed = refl; reads = refl; answers = refl; leaves = refl } }, tt),
      ),
    ),
  ),
) x m)

-- What is computed of a run for the second fact.
record ComputedLeaveRun (x : LeaveRun) : Type 0 where
  before : Stored x.before
  after : Stored x.after
  elsewhere : all (is_elsewhere 5) x.steps ≡ x.elsewhere
  runs : Computed x.before x.steps x.answer x.after
  told_before : leave_at x.before (find 5 x.before) ≡ x.told_before
  told_after : leave_at x.after (find 5 x.after) ≡ x.told_after

shows_leave_run : (x : LeaveRun) → ComputedLeaveRun x → ShowsLeaveRun x
shows_leave_run x c = record {
  runs = runs_stored x.before x.steps x.answer x.after c.before c.runs;
  elsewhere = steps_tested (λ (y : declared.Step). y.station ≢ 5) (is_elsewhere 5) (elsewhere_tested 5) x.steps c.runs.reads x.elsewhere c.elsewhere;
  told_before = told_leave x.before c.before 5 x.told_before c.told_before;
  told_after = told_leave x.after c.after 5 x.told_after c.told_after;
}

pub leave_runs_show : LeaveRunsShow
unfolding accepted marks_hold in_range has_small_bag lies_beyond has_sides are_distinct is_present knows_neighbour knows_content names_present all any insert remove_first sort range require ◌>>=◌ removal same precedes beyond side_of with_neighbour lower with_bag_in_order in_written_order is_neighbour names is_empty holder_of leave_of unless_held send_to notice timeout meet introduced drop_neighbour removed received introduce_both act find change without replace with_message send_all has_room commit step try run plain step_of step_at steps_of step_bytes list_bytes place_of list_holds is_elsewhere leave_runs
leave_runs_show x m = shows_leave_run x (each ComputedLeaveRun (
  record { before = record { accepts = refl; ordered = refl }; after = record { accepts = refl; ordered = refl }; elsewhere = refl; runs = record { listed = refl; reads = refl; answers = refl; leaves = refl }; told_before = refl; told_after = refl },
  (
    record { before = record { accepts = refl; ordered = refl }; after = record { accepts = refl; ordered = refl }; elsewhere = refl; runs = record { listed = refl; reads = refl; answers = refl; leaves = refl }; told_before = refl; told_after = refl },
    (
      record { before = record { accepts = refl; ordered = refl }; after = record { accepts = refl; ordered = refl }; elsewhere = refl; runs = record { listed = refl; reads = refl; answers = refl; leaves = refl }; told_before = refl; told_after = refl },
      (
        record { before = record { accepts = refl; ordered = refl }; after = record { accepts = refl; ordered = refl }; elsewhere = refl; runs = record { listed = refl; reads = refl; answers = refl; leaves = refl }; told_before = refl; told_after = refl },
        (
          record { before = record { accepts = refl; ordered = refl }; after = record { accepts = refl; ordered = refl }; elsewhere = refl; runs = record { listed = refl; reads = refl; answers = refl; leaves = refl }; told_before = refl; told_after = refl },
          (record { before = record { accepts = refl; ordered = refl }; after = record { accepts = refl; ordered = refl }; elsewhere = refl; runs = record { listed = refl; reads = refl; answers = refl; leaves = refl }; told_before = refl; told_after = refl }, tt),
        ),
      ),
    ),
  ),
) x m)
