use Rattle.block.proofs.Ways.{beyond_none, beyond_station}
use Rattle.block.proofs.stations.lies_beyond.Goals as goal

pub returns-in-None : goal.returns-in-None
returns-in-None c = search beyond_none

pub returns-in-Some : goal.returns-in-Some
returns-in-Some c = search beyond_station
