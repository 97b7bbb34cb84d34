use Rattle.block.proofs.PlaceLaws.{RowTo}
use Rattle.block.proofs.bag_of.Given as goal

-- The array has the messages of the first i places; a turn stores the next.
abbrev pub invariant-loop-i : goal.invariant-loop-i
invariant-loop-i l = RowTo l.b l.n l.i l.messages
