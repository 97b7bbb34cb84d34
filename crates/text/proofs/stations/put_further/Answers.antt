use native.Mathlib.Omega.{arith}
use Rattle.text.proofs.Lines.{wrote_further}
use Rattle.text.proofs.stations.put_further.Goals as goal

-- A space, and the message right behind it.
pub returns : goal.returns
returns c = (search wrote_further, omega arith)
