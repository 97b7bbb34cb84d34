use Rattle.std.proofs.Common.{◌≡◌, ◌≤◌, length}
use Rattle.rolls.specs.Roll.{record_in}
use Rattle.walks.proofs.Stage.{stage}
use Rattle.rolls.proofs.fill.Given as goal

-- After i turns the first i records are those of the first i questions, and the others are as they were.
abbrev pub invariant-loop-i : goal.invariant-loop-i
invariant-loop-i l =
    record { within : l.i ≤ length l.stations; filled : l.records ≡ stage (record_in l.roll) l.stations l.initial.records l.i }
