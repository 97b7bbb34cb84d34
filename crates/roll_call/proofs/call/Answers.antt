use Rattle.std.proofs.Common.{length}
use Rattle.std.proofs.lemmas.List.{length-take-le}
use Rattle.roll_call.proofs.Amount.{amount_within, gate_called}
use Rattle.roll_call.proofs.call.Goals as goal

-- the gate lets no more questions through than there are
pub answered-asked-requires : goal.answered-asked-requires
answered-asked-requires c = rw c.gate-filled.ensures (amount_within _ _ _).0

-- nor more than there are records
pub fill-requires : goal.fill-requires
fill-requires c =
    let amount = amount_within 0 (length c.args.stations.now) (length c.args.records.now) in
    let few = length-take-le _ c.args.stations.now amount.0 in
    (c.requires, rw (c.answered-asked.ensures, c.gate-filled.ensures, few) amount.1)

-- what is filled of those is what is called
pub returns : goal.returns
returns c = gate_called c.args.roll c.args.stations.now c.args.records.now c.gate-filled.ensures (rw c.answered-asked.ensures at c.fill.ensures)
