use Rattle.rules.proofs.Ways.{removed_obeyed, removed_ignored}
use Rattle.rules.proofs.removed.Goals as goal

pub returns-then-obeys : goal.returns-then-obeys
returns-then-obeys c = search removed_obeyed

pub returns : goal.returns
returns c = search removed_ignored
