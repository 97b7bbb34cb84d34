use native.Mathlib.Omega.{arith}
use Rattle.text.proofs.Lines.{wrote_words}
use Rattle.text.proofs.stations.put_station.Goals as goal

-- The number, and three words behind spaces.
pub returns : goal.returns
returns c = (search wrote_words, omega arith)
