use Rattle.rules.proofs.Ways.{removal_left, removal_right}
use Rattle.rules.proofs.removal.Goals as goal

pub returns-in-Left : goal.returns-in-Left
returns-in-Left c = search removal_left

pub returns-in-Right : goal.returns-in-Right
returns-in-Right c = search removal_right
