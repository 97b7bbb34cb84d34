use Rattle.allowed.proofs.Holding.{KindsTo}
use Rattle.allowed.proofs.bags.has_kind.Given as goal

-- The kinds of the first j places are asked.
abbrev pub invariant-loop-j : goal.invariant-loop-j
invariant-loop-j l = KindsTo l.b l.kind l.n l.j l.found
