use Rattle.rules.proofs.Ways.{below_none, below_station}
use Rattle.rules.proofs.is_below.Goals as goal

pub returns-in-None : goal.returns-in-None
returns-in-None c = search below_none

pub returns-in-Some : goal.returns-in-Some
returns-in-Some c = search below_station
