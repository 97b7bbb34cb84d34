use Rattle.fields.proofs.Ways.{neighbour_none, neighbour_station}
use Rattle.fields.proofs.neighbour_of.Goals as goal

pub returns-then-n-eq0 : goal.returns-then-n-eq0
returns-then-n-eq0 c = search neighbour_none

pub returns-else-n-eq0 : goal.returns-else-n-eq0
returns-else-n-eq0 c = search neighbour_station
