use borrow.Author.Rules.{rules}
use native.Mathlib.Omega.{arith}
use Rattle.block.proofs.PlaceLaws.{row_none, row_next, row_all}
use Rattle.block.proofs.bag_of.Goals as goal

pub loop-i-init : goal.loop-i-init
loop-i-init c = row_none (omega arith)

pub loop-i-preserved : goal.loop-i-preserved
loop-i-preserved c = search row_next

pub returns : goal.returns
returns c = (search row_all, search rules)
