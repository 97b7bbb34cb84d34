-- Both numbers are those of the answer.
use Rattle.station_line.specs.Interface.{told_as}
use Rattle.station_line.proofs.told_as.Goals as goal

pub returns : goal.returns
unfolding told_as
returns c = rw (c.told_number.ensures, c.told_yes.ensures)
