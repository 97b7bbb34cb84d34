use Rattle.index.proofs.Entries.{is_listed}
use Rattle.index.proofs.is_listed.Goals as goal

pub returns : goal.returns
returns c = search is_listed
