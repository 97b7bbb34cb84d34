use Rattle.questions.proofs.Standing.{StandTo}
use Rattle.questions.proofs.all_stand.Given as goal

abbrev pub invariant-loop-i : goal.invariant-loop-i
invariant-loop-i l = StandTo l.table l.before l.i
