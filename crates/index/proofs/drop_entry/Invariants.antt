use Rattle.lists.proofs.Dropping.{Shifted}
use Rattle.index.proofs.drop_entry.Given as goal

abbrev pub invariant-loop-j : goal.invariant-loop-j
invariant-loop-j l = Shifted l.initial.index l.n l.i l.j l.index
