use Rattle.steps.proofs.Ways.{step_read}
use Rattle.steps.proofs.read_step.Goals as goal

pub returns : goal.returns
returns c = search step_read
