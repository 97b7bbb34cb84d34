use native.Mathlib.Omega.{arith}
use Rattle.words.proofs.Texts.{wrote_nobody, wrote_station}
use Rattle.words.proofs.put_neighbour.Goals as goal

-- `-`, or the number.
pub returns-in-None : goal.returns-in-None
returns-in-None c = (search wrote_nobody, omega arith)

pub returns-in-Some : goal.returns-in-Some
returns-in-Some c = (search wrote_station, omega arith)
