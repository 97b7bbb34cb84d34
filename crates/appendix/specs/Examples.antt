-- Worked runs for the two lasting facts (document 02, T-07), over the bytes of tables and step lists: for each fact one with all its premises, of
-- several steps, and for each premise one that lacks it and in which the fact does not hold. The proof computes them (proofs/Worked.antt).
use Rattle.std.specs.Prelude.{ℕ, ◌≤◌, ◌≡◌, Bool, true, false, List, [], ◌∷◌, map, length, Some, None, Ok, Err}
use mathlib.Core.List.{Memᴰ as Member}
use Rattle.line.specs.declared.Side.TheVariants.{Left, Right}
use Rattle.line.specs.declared.Reason.TheVariants.{HeldBy}
use Rattle.line.specs.declared.Step as declared
use Rattle.line.specs.Message.{introduction, removal}
use Rattle.line.specs.Node.{Line}
use Rattle.line.specs.Situations.{node, staying, leaving, single, timeout_at, deliver_to, exit_of}
use Rattle.line.specs.Examples.{many}
use Rattle.table.specs.Blocks.{bytes_of}
use Rattle.table.specs.Fault.{fault_of}
use Rattle.steps.specs.Steps.{steps_of, list_bytes}
use Rattle.questions.specs.Told.{yes_no, is_in_line}
use Rattle.leave.specs.Leave.{may_leave, LeaveTold}
use Rattle.lasting.specs.Examples.{Says, InLineExample, is_lined, ShowsInLine, introductions_wait}
use Rattle.appendix.specs.Claims.{answer_of, table_after, HoldsNoExit, NoStepAt}

-- A run: the stations of the table as they are stored, the steps of the list, the number answered, and the stations of the table written.
pub record Runs (before : Line) (steps : List declared.Step) (answer : ℕ) (after : Line) : Type 0 where
  pub accepted : fault_of (bytes_of before) ≡ 0
  pub reads : steps_of (list_bytes steps) ≡ map Ok steps
  pub answers : (room : List ℕ) → length (bytes_of before) ≤ length room → answer_of (bytes_of before) (list_bytes steps) room ≡ answer
  pub writes : (room : List ℕ) → length (bytes_of before) ≤ length room → table_after (bytes_of before) (list_bytes steps) room ≡ bytes_of after

-- 1. For the first fact: which conditions of In line hold of the table read and of the table written, and whether the list holds no exit.
pub record LineRun : Type 0 where
  pub before : InLineExample
  pub steps : List declared.Step
  pub no_exit : Bool
  pub answer : ℕ
  pub after : InLineExample

pub record ShowsLineRun (x : LineRun) : Type 0 where
  pub runs : Runs x.before.line x.steps x.answer x.after.line
  pub before : ShowsInLine x.before
  pub after : ShowsInLine x.after
  pub no_exit : Says x.no_exit (HoldsNoExit (list_bytes x.steps))
  pub told_before : is_in_line (bytes_of x.before.line) ≡ yes_no (is_lined x.before)
  pub told_after : is_in_line (bytes_of x.after.line) ≡ yes_no (is_lined x.after)

-- in line, introductions waiting: two timeouts, two introductions passed on, two that go no further
abbrev pub lasting_line : LineRun
lasting_line = record {
  before = introductions_wait;
  steps =
      timeout_at 5 ∷ deliver_to 3 (introduction 9) ∷ deliver_to 5 (introduction 9) ∷ deliver_to 9 (introduction 3) ∷ deliver_to 5 (introduction 5) ∷ timeout_at 3 ∷ [];
  no_exit = true;
  answer = 0;
  after = record {
    line =
        staying 3 None (Some 5) (introduction 5 ∷ introduction 5 ∷ []) ∷
        staying 5 (Some 3) (Some 9) (introduction 3 ∷ introduction 3 ∷ []) ∷
        staying 9 (Some 5) None (introduction 3 ∷ introduction 5 ∷ []) ∷ [];
    neighbours = true;
    quiet = true;
    staying = true;
  };
}

-- in line by document 01 alone, a remove-left waiting: it is delivered, and the line falls apart
abbrev pub removal_waits : LineRun
removal_waits = record {
  before = record {
    line = staying 3 None (Some 5) [] ∷ staying 5 (Some 3) (Some 9) (removal Left ∷ []) ∷ staying 9 (Some 5) None [] ∷ [];
    neighbours = true;
    quiet = false;
    staying = true;
  };
  steps = deliver_to 5 (removal Left) ∷ deliver_to 3 (introduction 5) ∷ [];
  no_exit = true;
  answer = 0;
  after = record {
    line = staying 3 None (Some 5) [] ∷ staying 5 None (Some 9) [] ∷ staying 9 (Some 5) None [] ∷ [];
    neighbours = false;
    quiet = true;
    staying = true;
  };
}

-- in line by document 01 alone, a station leaving: a whole departure, with its exit
abbrev pub station_leaves : LineRun
station_leaves = record {
  before = record {
    line = staying 3 None (Some 5) [] ∷ leaving 5 (Some 3) (Some 9) [] ∷ staying 9 (Some 5) None [] ∷ [];
    neighbours = true;
    quiet = true;
    staying = false;
  };
  steps =
      timeout_at 5 ∷ deliver_to 3 (removal Right) ∷ deliver_to 9 (removal Left) ∷ deliver_to 5 (introduction 3) ∷ deliver_to 5 (introduction 9) ∷ exit_of 5 ∷ [];
  no_exit = false;
  answer = 0;
  after = record {
    line = single 3 (introduction 9 ∷ []) ∷ single 9 (introduction 3 ∷ []) ∷ [];
    neighbours = false;
    quiet = true;
    staying = true;
  };
}

-- the neighbours are not in line: two stations that know nobody
abbrev pub neighbours_apart : LineRun
neighbours_apart = record {
  before = record { line = single 3 [] ∷ single 5 [] ∷ []; neighbours = false; quiet = true; staying = true };
  steps = timeout_at 3 ∷ timeout_at 5 ∷ [];
  no_exit = true;
  answer = 0;
  after = record { line = single 3 [] ∷ single 5 [] ∷ []; neighbours = false; quiet = true; staying = true };
}

-- in line, and the run stops with 13: its list holds an exit
abbrev pub exit_refused : LineRun
exit_refused = record {
  before = record { line = staying 3 None (Some 5) [] ∷ staying 5 (Some 3) None [] ∷ []; neighbours = true; quiet = true; staying = true };
  steps = timeout_at 3 ∷ exit_of 5 ∷ [];
  no_exit = false;
  answer = 13;
  after = record {
    line = staying 3 None (Some 5) [] ∷ staying 5 (Some 3) None (introduction 3 ∷ []) ∷ [];
    neighbours = true;
    quiet = true;
    staying = true;
  };
}

unfoldable pub line_runs : List LineRun
line_runs = lasting_line ∷ removal_waits ∷ station_leaves ∷ neighbours_apart ∷ exit_refused ∷ []

abbrev pub LineRunsShow : Type 0
LineRunsShow = (x : LineRun) → Member x line_runs → ShowsLineRun x

-- 2. For the second fact: what the leave question tells of station 5 in the table read and in the table written, and whether no step of the
-- list is at it.
pub record LeaveRun : Type 0 where
  pub before : Line
  pub steps : List declared.Step
  pub elsewhere : Bool
  pub answer : ℕ
  pub after : Line
  pub told_before : LeaveTold
  pub told_after : LeaveTold

pub record ShowsLeaveRun (x : LeaveRun) : Type 0 where
  pub runs : Runs x.before x.steps x.answer x.after
  pub elsewhere : Says x.elsewhere (NoStepAt 5 (list_bytes x.steps))
  pub told_before : may_leave (bytes_of x.before) 5 ≡ x.told_before
  pub told_after : may_leave (bytes_of x.after) 5 ≡ x.told_after

-- leaving or staying: its neighbours time out and are delivered introductions, and another station exits
abbrev pub lasting_leave : Bool → LeaveRun
lasting_leave mark = record {
  before =
      staying 3 None (Some 9) [] ∷ node 5 (Some 3) (Some 9) mark [] ∷ staying 9 (Some 3) None (introduction 3 ∷ []) ∷
      leaving 12 (Some 9) None [] ∷ [];
  steps = timeout_at 3 ∷ deliver_to 9 (introduction 3) ∷ timeout_at 9 ∷ exit_of 12 ∷ deliver_to 3 (introduction 9) ∷ [];
  elsewhere = true;
  answer = 0;
  after = staying 3 None (Some 9) [] ∷ node 5 (Some 3) (Some 9) mark [] ∷ staying 9 (Some 3) None (introduction 3 ∷ []) ∷ [];
  told_before = Ok (Ok tt);
  told_after = Ok (Ok tt);
}

-- a step at the station itself: staying, its timeout names it to its neighbours; leaving, its exit takes its block away
abbrev pub own_timeout : LeaveRun
own_timeout = record {
  before = staying 3 None (Some 9) [] ∷ staying 5 (Some 3) (Some 9) [] ∷ staying 9 (Some 3) None [] ∷ [];
  steps = timeout_at 9 ∷ timeout_at 5 ∷ [];
  elsewhere = false;
  answer = 0;
  after =
      staying 3 None (Some 9) (introduction 5 ∷ introduction 9 ∷ []) ∷ staying 5 (Some 3) (Some 9) [] ∷
      staying 9 (Some 3) None (introduction 5 ∷ []) ∷ [];
  told_before = Ok (Ok tt);
  told_after = Ok (Err (HeldBy 3));
}

abbrev pub own_exit : LeaveRun
own_exit = record {
  before = staying 3 None (Some 9) [] ∷ leaving 5 (Some 3) (Some 9) [] ∷ staying 9 (Some 3) None [] ∷ [];
  steps = timeout_at 9 ∷ exit_of 5 ∷ [];
  elsewhere = false;
  answer = 0;
  after = staying 3 None (Some 9) (introduction 9 ∷ introduction 9 ∷ []) ∷ staying 9 (Some 3) None (introduction 3 ∷ []) ∷ [];
  told_before = Ok (Ok tt);
  told_after = Err 11;
}

-- NIDEC does not hold at first: 3 has the station as its right, and still has
abbrev pub held_before : LeaveRun
held_before = record {
  before = staying 3 None (Some 5) [] ∷ leaving 5 (Some 3) (Some 9) [] ∷ staying 9 (Some 3) None (introduction 3 ∷ []) ∷ [];
  steps = timeout_at 9 ∷ deliver_to 9 (introduction 3) ∷ timeout_at 9 ∷ [];
  elsewhere = true;
  answer = 0;
  after =
      staying 3 None (Some 5) (introduction 9 ∷ introduction 9 ∷ []) ∷ leaving 5 (Some 3) (Some 9) [] ∷ staying 9 (Some 3) None [] ∷ [];
  told_before = Ok (Err (HeldBy 3));
  told_after = Ok (Err (HeldBy 3));
}

-- the exit that comes later finds the bag of 9 full: 15, and the station may still leave
abbrev pub later_full : LeaveRun
later_full = record {
  before = staying 3 None (Some 9) [] ∷ leaving 5 (Some 3) (Some 9) [] ∷ staying 9 (Some 3) None (many 32 (introduction 3)) ∷ [];
  steps = timeout_at 9 ∷ exit_of 5 ∷ [];
  elsewhere = false;
  answer = 15;
  after =
      staying 3 None (Some 9) (introduction 9 ∷ []) ∷ leaving 5 (Some 3) (Some 9) [] ∷ staying 9 (Some 3) None (many 32 (introduction 3)) ∷ [];
  told_before = Ok (Ok tt);
  told_after = Ok (Ok tt);
}

unfoldable pub leave_runs : List LeaveRun
leave_runs = lasting_leave true ∷ lasting_leave false ∷ own_timeout ∷ own_exit ∷ held_before ∷ later_full ∷ []

abbrev pub LeaveRunsShow : Type 0
LeaveRunsShow = (x : LeaveRun) → Member x leave_runs → ShowsLeaveRun x
