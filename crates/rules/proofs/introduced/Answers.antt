use Rattle.rules.proofs.Ways.{introduced_itself, introduced_right, introduced_left}
use Rattle.rules.proofs.introduced.Goals as goal

pub returns-then-id-p : goal.returns-then-id-p
returns-then-id-p c = search introduced_itself

pub returns-then-p-id : goal.returns-then-p-id
returns-then-p-id c = search introduced_right

pub returns : goal.returns
returns c = search introduced_left
