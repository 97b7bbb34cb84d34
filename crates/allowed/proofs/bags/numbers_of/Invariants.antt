use Rattle.allowed.proofs.Holding.{NumbersTo}
use Rattle.allowed.proofs.bags.numbers_of.Given as goal

-- The numbers of the first j places are read.
abbrev pub invariant-loop-j : goal.invariant-loop-j
invariant-loop-j l = NumbersTo l.b l.n l.j l.numbers
