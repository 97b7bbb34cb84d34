use Rattle.mentions.specs.Tally.{is_other, is_beside}
use Rattle.mentions.proofs.Naming.{beside_nobody, beside_station}
use Rattle.mentions.proofs.Adding.{nobody_added, same_added}
use Rattle.mentions.proofs.Tally.add_neighbour.Goals as goal

pub returns-in-Some-clause-added : goal.returns-in-Some-clause-added
returns-in-Some-clause-added c =
    let p = c.args.p in
    let q = c.in-Some.q in
    same_added p (is_other p q) (is_beside p c.args.neighbour) (beside_station p c.args.neighbour q c.in-Some.is) c.add.ensures.added

pub returns-in_default-clause-added : goal.returns-in_default-clause-added
returns-in_default-clause-added c = nobody_added c.args.p (is_beside c.args.p c.args.neighbour) (beside_nobody c.args.p c.args.neighbour c.in_default.is)
