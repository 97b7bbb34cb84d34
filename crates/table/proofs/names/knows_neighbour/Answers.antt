use mathlib.Core.Path.{◌∙◌}
use Rattle.line.specs.Accepted.{knows_neighbour}
use Rattle.table.proofs.names.knows_neighbour.Goals as goal

-- No neighbour needs no block; a station is looked up.
pub returns-in-None : goal.returns-in-None
unfolding knows_neighbour
returns-in-None c = λ line h. rw c.in-None.is

pub returns-in-Some : goal.returns-in-Some
unfolding knows_neighbour
returns-in-Some c = λ line h. rw c.in-Some.is (c.is_listed.ensures ∙ h _)
