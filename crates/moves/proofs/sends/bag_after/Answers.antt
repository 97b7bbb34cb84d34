use Rattle.moves.proofs.Sending.{after_taken}
use Rattle.moves.proofs.sends.bag_after.Goals as goal

pub returns-in-Deliver : goal.returns-in-Deliver
returns-in-Deliver c = after_taken _ _ _ c.in-Deliver.is c.take-taken.ensures c.then_some.ensures
