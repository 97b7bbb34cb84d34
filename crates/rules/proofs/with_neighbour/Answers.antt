use Rattle.rules.proofs.Ways.{with_left, with_right}
use Rattle.rules.proofs.with_neighbour.Goals as goal

pub returns-in-Left : goal.returns-in-Left
returns-in-Left c = search with_left

pub returns-in-Right : goal.returns-in-Right
returns-in-Right c = search with_right
