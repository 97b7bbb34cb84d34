use Rattle.block.proofs.Ways.{fault_read}
use Rattle.block.proofs.fault_of.Goals as goal

pub returns : goal.returns
returns c = search fault_read
