use native.Mathlib.Omega.{arith}
use Rattle.text.proofs.Lines.{wrote_bag, wrote_holder}
use Rattle.text.proofs.put_reason.Goals as goal

-- The word of the own bag, or the words of a holder.
pub returns-in-OwnBag : goal.returns-in-OwnBag
returns-in-OwnBag c = (search wrote_bag, omega arith)

pub returns-in-HeldBy : goal.returns-in-HeldBy
returns-in-HeldBy c = (search wrote_holder, omega arith)
