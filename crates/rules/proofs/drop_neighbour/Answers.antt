use Rattle.rules.proofs.Ways.{dropped_none, dropped}
use Rattle.rules.proofs.drop_neighbour.Goals as goal

pub returns-in-None : goal.returns-in-None
returns-in-None c = search dropped_none

pub returns-in-Some : goal.returns-in-Some
returns-in-Some c = search dropped
