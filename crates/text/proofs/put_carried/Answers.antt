use native.Mathlib.Omega.{arith}
use Rattle.text.proofs.Lines.{wrote_nothing}
use Rattle.text.proofs.put_carried.Goals as goal

-- Nothing, or the reason.
pub returns-in-None : goal.returns-in-None
returns-in-None c = (search wrote_nothing, omega arith)
