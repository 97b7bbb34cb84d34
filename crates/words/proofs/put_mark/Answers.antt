use native.Mathlib.Omega.{arith}
use Rattle.words.proofs.Texts.{wrote_leaving, wrote_staying}
use Rattle.words.proofs.put_mark.Goals as goal

-- One word or the other.
pub returns-then-marks : goal.returns-then-marks
returns-then-marks c = (search wrote_leaving, omega arith)

pub returns : goal.returns
returns c = (search wrote_staying, omega arith)
