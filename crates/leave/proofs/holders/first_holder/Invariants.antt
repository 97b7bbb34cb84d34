use Rattle.table.specs.Blocks.{line_of}
use Rattle.moves.proofs.Holding.{NoneTo}
use Rattle.leave.proofs.holders.first_holder.Given as goal

abbrev pub invariant-loop-j : goal.invariant-loop-j
invariant-loop-j l = NoneTo l.p (line_of l.table) l.j
