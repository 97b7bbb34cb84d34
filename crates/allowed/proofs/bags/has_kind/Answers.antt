use Rattle.allowed.proofs.Holding.{kinds_none, kinds_next, kinds_all}
use Rattle.allowed.proofs.bags.has_kind.Goals as goal

pub loop-j-init : goal.loop-j-init
loop-j-init c = search kinds_none

pub loop-j-preserved : goal.loop-j-preserved
loop-j-preserved c = search kinds_next

pub returns : goal.returns
returns c = search kinds_all
