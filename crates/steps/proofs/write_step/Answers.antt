use Rattle.steps.proofs.Writing.{timeout_written, delivery_written, exit_written}
use Rattle.steps.proofs.write_step.Goals as goal

pub returns-in-Timeout : goal.returns-in-Timeout
returns-in-Timeout c = search timeout_written

pub returns-in-Deliver : goal.returns-in-Deliver
returns-in-Deliver c = search delivery_written

pub returns-in-Exit : goal.returns-in-Exit
returns-in-Exit c = search exit_written
