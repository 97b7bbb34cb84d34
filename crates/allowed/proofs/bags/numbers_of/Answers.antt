use Rattle.allowed.proofs.Holding.{numbers_none, numbers_next, numbers_all}
use Rattle.allowed.proofs.bags.numbers_of.Goals as goal

pub loop-j-init : goal.loop-j-init
loop-j-init c = search numbers_none

pub loop-j-preserved : goal.loop-j-preserved
loop-j-preserved c = search numbers_next

pub returns : goal.returns
returns c = search numbers_all
