use Rattle.mentions.specs.Tally.{is_other, is_introduced}
use Rattle.mentions.proofs.Naming.{nobody_introduced, station_introduced}
use Rattle.mentions.proofs.Adding.{nobody_added, same_added}
use Rattle.mentions.proofs.Tally.add_message.Goals as goal

pub returns-in-Introduction-clause-added : goal.returns-in-Introduction-clause-added
returns-in-Introduction-clause-added c =
    let p = c.args.p in
    let q = c.in-Introduction.q in
    same_added p (is_other p q) (is_introduced p c.args.message) (station_introduced p c.args.message q c.in-Introduction.is) c.add.ensures.added

pub returns-in_default-clause-added : goal.returns-in_default-clause-added
returns-in_default-clause-added c = nobody_added c.args.p (is_introduced c.args.p c.args.message) (nobody_introduced c.args.p c.args.message c.in_default.not-Introduction)
