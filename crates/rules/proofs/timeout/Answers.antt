use Rattle.rules.proofs.Ways.{timed_out}
use Rattle.rules.proofs.timeout.Goals as goal

pub returns : goal.returns
returns c = search timed_out
