use Rattle.rules.proofs.Ways.{delivers, not_in_bag}
use Rattle.rules.proofs.deliver.Goals as goal

pub returns-then-not-found : goal.returns-then-not-found
returns-then-not-found c = search not_in_bag

pub returns : goal.returns
returns c = search delivers
