use Rattle.rules.proofs.Ways.{timeout_decides, delivery_decides, exit_decides}
use Rattle.rules.proofs.decide.Goals as goal

pub returns-in-Timeout : goal.returns-in-Timeout
returns-in-Timeout c = search timeout_decides

pub returns-in-Deliver : goal.returns-in-Deliver
returns-in-Deliver c = search delivery_decides

pub returns-in-Exit : goal.returns-in-Exit
returns-in-Exit c = search exit_decides
