use Rattle.index.proofs.Halving.{near_found}
use Rattle.index.proofs.lookup_near.Goals as goal

pub returns-then-index-near : goal.returns-then-index-near
returns-then-index-near c = search near_found
