use Rattle.text.proofs.Blocks.{LinesTo}
use Rattle.text.proofs.put_lines.Given as goal

-- The lines of the first k blocks are written.
abbrev pub invariant-loop-k : goal.invariant-loop-k
invariant-loop-k l = LinesTo l.initial.out l.at l.table l.k l.end l.out
