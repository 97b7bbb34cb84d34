-- Each premise of the two lasting facts is needed: without it the fact does not hold (document 02, T-07; the witnesses stand in Examples.antt).
use Rattle.std.specs.Prelude.{ℕ, ◌≡◌, List, true, Ok}
use Rattle.line.specs.Types.{Leave}
use Rattle.line.specs.Node.{Line}
use Rattle.line.specs.InLine.{NeighboursInLine, Quiet, AllStay}
use Rattle.table.specs.Blocks.{nodes}
use Rattle.table.specs.Fault.{fault_of}
use Rattle.questions.specs.Told.{is_in_line}
use Rattle.leave.specs.Leave.{may_leave}
use Rattle.appendix.specs.Claims.{answer_of, table_after, HoldsNoExit, NoStepAt}

-- the first fact's two parts with P in place of In line, of an accepted table
abbrev pub LineLastsFrom : (Line → Type 0) → Type 0
LineLastsFrom P = (t steps room : List ℕ) → fault_of t ≡ 0 → P (nodes t) → answer_of t steps room ≡ 0 → is_in_line (table_after t steps room) ≡ Ok true

abbrev pub NoExitFrom : (Line → Type 0) → Type 0
NoExitFrom P = (t steps room : List ℕ) → fault_of t ≡ 0 → P (nodes t) → answer_of t steps room ≡ 0 → HoldsNoExit steps

pub record LinePremisesNeeded : Type 0 where
  -- in line by document 01 alone is not enough, not even for document 01's own condition to last
  pub document-01 :
      ¬ ((t steps room : List ℕ) → fault_of t ≡ 0 → NeighboursInLine (nodes t) → answer_of t steps room ≡ 0 → NeighboursInLine (nodes (table_after t steps room)))
  -- that no removal waits
  pub quiet : ¬ LineLastsFrom (λ line. NeighboursInLine line × AllStay line)
  -- that no station is leaving: for the line to last, and for the list to hold no exit
  pub staying : ¬ LineLastsFrom (λ line. NeighboursInLine line × Quiet line)
  pub no_exit : ¬ NoExitFrom (λ line. NeighboursInLine line × Quiet line)
  -- that the neighbours are as document 01 says
  pub neighbours : ¬ LineLastsFrom (λ line. Quiet line × AllStay line)
  -- that the run is answered 0: the list of one that stopped may hold an exit
  pub answered : ¬ ((t steps room : List ℕ) → is_in_line t ≡ Ok true → HoldsNoExit steps)

pub record LeavePremisesNeeded : Type 0 where
  -- that NIDEC holds for the station, not only that it has a block of which the question tells something
  pub may :
      ¬ ((t steps room : List ℕ) (n : ℕ) (l : Leave) → may_leave t n ≡ Ok l → answer_of t steps room ≡ 0 → NoStepAt n steps
      → may_leave (table_after t steps room) n ≡ Ok (Ok tt))
  -- that no step is at the station
  pub elsewhere : ¬ ((t steps room : List ℕ) (n : ℕ) → may_leave t n ≡ Ok (Ok tt) → answer_of t steps room ≡ 0 → may_leave (table_after t steps room) n ≡ Ok (Ok tt))
  -- that the run is answered 0: one that is refused before its first step writes no table
  pub answered : ¬ ((t steps room : List ℕ) (n : ℕ) → may_leave t n ≡ Ok (Ok tt) → NoStepAt n steps → may_leave (table_after t steps room) n ≡ Ok (Ok tt))
