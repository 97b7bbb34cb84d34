use Rattle.rules.proofs.Ways.{on_below, on_equal, on_above}
use Rattle.rules.proofs.introduced_on.Goals as goal

pub returns-then-is_below : goal.returns-then-is_below
returns-then-is_below c = search on_below

pub returns-then-is_equal : goal.returns-then-is_equal
returns-then-is_equal c = search on_equal

pub returns : goal.returns
returns c = search on_above
