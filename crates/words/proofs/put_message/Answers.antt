use native.Mathlib.Omega.{arith}
use Rattle.words.proofs.Texts.{wrote_introduction, wrote_left, wrote_right}
use Rattle.words.proofs.put_message.Goals as goal

-- The letter of the kind, and the number of an introduction right behind it.
pub returns-in-Introduction : goal.returns-in-Introduction
returns-in-Introduction c = (search wrote_introduction, omega arith)

pub returns-in-RemoveLeft : goal.returns-in-RemoveLeft
returns-in-RemoveLeft c = (search wrote_left, omega arith)

pub returns-in-RemoveRight : goal.returns-in-RemoveRight
returns-in-RemoveRight c = (search wrote_right, omega arith)
