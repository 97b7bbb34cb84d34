use native.Mathlib.Omega.{arith}
use Rattle.text.proofs.Lines.{wrote_head}
use Rattle.text.proofs.put_head.Goals as goal

-- The numbers, the reason and the line feed, side by side.
pub returns : goal.returns
returns c = (search wrote_head, omega arith)
