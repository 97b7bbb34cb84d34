use Rattle.allowed.proofs.Holding.{among_none, among_next}
use Rattle.allowed.proofs.bags.is_among.Goals as goal

pub loop-number-init : goal.loop-number-init
loop-number-init c = search among_none

pub loop-number-preserved : goal.loop-number-preserved
loop-number-preserved c = search among_next
