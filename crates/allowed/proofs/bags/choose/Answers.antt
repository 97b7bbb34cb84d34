use Rattle.allowed.proofs.Holding.{chosen_small, chosen_next, chosen_all, chosen_size, chosen_few}
use Rattle.allowed.proofs.bags.choose.Goals as goal

pub number_in-q-requires : goal.number_in-q-requires
number_in-q-requires c = search chosen_small

pub loop-entry-preserved : goal.loop-entry-preserved
loop-entry-preserved c = search chosen_next

pub returns : goal.returns
returns c = (chosen_all c.loop-entry.invariant c.loop-entry-test.false, chosen_size c.loop-entry.invariant, chosen_few c.loop-entry.invariant)
