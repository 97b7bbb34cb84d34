use Rattle.questions.proofs.Staying.{SettledTo}
use Rattle.questions.proofs.settled.all_settled.Given as goal

abbrev pub invariant-loop-entry : goal.invariant-loop-entry
invariant-loop-entry l = SettledTo l.table l.entry-index
