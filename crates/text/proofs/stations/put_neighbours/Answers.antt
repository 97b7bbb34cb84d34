use native.Mathlib.Omega.{arith}
use Rattle.text.proofs.Lines.{wrote_neighbours}
use Rattle.text.proofs.stations.put_neighbours.Goals as goal

-- Each behind a space.
pub returns : goal.returns
returns c = (search wrote_neighbours, omega arith)
