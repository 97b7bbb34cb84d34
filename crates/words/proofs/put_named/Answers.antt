use native.Mathlib.Omega.{arith}
use Rattle.words.proofs.Written.{wrote_next}
use Rattle.words.proofs.put_named.Goals as goal

-- The word, and the number right behind it.
pub returns : goal.returns
returns c = (search wrote_next, omega arith)
