use native.Mathlib.Omega.{arith}
use Rattle.table.proofs.Lines.{clean_count}
use Rattle.text.proofs.Blocks.{lines_none, lines_next, lines_all}
use Rattle.text.proofs.put_lines.Goals as goal

pub loop-k-init : goal.loop-k-init
loop-k-init c = search lines_none

pub put_line-end-requires : goal.put_line-end-requires
put_line-end-requires c = (search clean_count, omega arith)

pub loop-k-preserved : goal.loop-k-preserved
loop-k-preserved c = search lines_next

pub returns : goal.returns
returns c = (search lines_all, omega arith)
