use Rattle.allowed.proofs.Holding.{AmongTo}
use Rattle.allowed.proofs.bags.is_among.Given as goal

-- The first j numbers are asked.
abbrev pub invariant-loop-number : goal.invariant-loop-number
invariant-loop-number l = AmongTo l.numbers l.q l.number-index l.found
