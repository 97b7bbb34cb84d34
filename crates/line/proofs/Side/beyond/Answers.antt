use Rattle.line.proofs.Sides.{beyond_left, beyond_right}
use Rattle.line.proofs.Side.beyond.Goals as goal

pub returns-in-Left : goal.returns-in-Left
returns-in-Left c = search beyond_left

pub returns-in-Right : goal.returns-in-Right
returns-in-Right c = search beyond_right
