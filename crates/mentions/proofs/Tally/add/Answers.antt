use Rattle.mentions.proofs.Adding.{one_added, none_added}
use Rattle.mentions.proofs.Tally.add.Goals as goal

-- the index has station q, or it has not
pub returns-then-i-self-clause-added : goal.returns-then-i-self-clause-added
returns-then-i-self-clause-added c = search one_added

pub returns-else-i-self-clause-added : goal.returns-else-i-self-clause-added
returns-else-i-self-clause-added c = search none_added
