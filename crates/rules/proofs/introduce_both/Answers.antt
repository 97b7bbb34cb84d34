use Rattle.rules.proofs.Ways.{no_left, no_right, both_introduced}
use Rattle.rules.proofs.introduce_both.Goals as goal

pub returns-in-None : goal.returns-in-None
returns-in-None c = search no_left

pub returns-in-None-right : goal.returns-in-None-right
returns-in-None-right c = search no_right

pub returns-in-Some-right : goal.returns-in-Some-right
returns-in-Some-right c = search both_introduced
