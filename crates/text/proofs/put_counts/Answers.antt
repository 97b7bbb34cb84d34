use native.Mathlib.Omega.{arith}
use Rattle.text.proofs.Lines.{wrote_counts}
use Rattle.text.proofs.put_counts.Goals as goal

-- Three words with their numbers, side by side.
pub returns : goal.returns
returns c = (search wrote_counts, omega arith)
