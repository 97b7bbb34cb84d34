use Rattle.allowed.proofs.Holding.{ChosenTo}
use Rattle.allowed.proofs.bags.choose.Given as goal

-- Of the first j stations those among the numbers are kept.
abbrev pub invariant-loop-entry : goal.invariant-loop-entry
invariant-loop-entry l = ChosenTo l.index l.numbers l.entry-index l.count l.kept
