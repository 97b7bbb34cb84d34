use Rattle.allowed.proofs.Putting.{PutTo}
use Rattle.allowed.proofs.stations.put_station.Given as goal

-- The records of the first k actions are written.
abbrev pub invariant-loop-k : goal.invariant-loop-k
invariant-loop-k l = PutTo l.initial.out l.at l.table l.index l.counts l.i l.station l.left l.right l.leave l.n l.introduced l.end l.k l.out
