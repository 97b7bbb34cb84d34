use Rattle.index.proofs.Halving.{Halved}
use Rattle.index.proofs.lookup.Given as goal

abbrev pub invariant-loop-size : goal.invariant-loop-size
invariant-loop-size l = Halved l.index l.q l.low l.lowest l.size

abbrev pub decreases-loop-size : goal.decreases-loop-size
decreases-loop-size l = l.size
