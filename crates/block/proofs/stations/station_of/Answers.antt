use Rattle.block.proofs.Ways.{station_read}
use Rattle.block.proofs.stations.station_of.Goals as goal

pub returns : goal.returns
returns c = search station_read
