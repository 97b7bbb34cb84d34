use Rattle.effects.proofs.Underway.{Underway}
use Rattle.running.proofs.run_accepted.Given as goal

abbrev pub invariant-loop-k : goal.invariant-loop-k
invariant-loop-k l = Underway l.table l.steps l.initial.room l.room l.total l.arrays l.k
