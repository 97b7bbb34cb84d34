use Rattle.block.proofs.Ways.{check_read}
use Rattle.block.proofs.check_holds.Goals as goal

pub returns : goal.returns
returns c = search check_read
