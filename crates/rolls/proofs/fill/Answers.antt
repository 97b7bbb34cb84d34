use Rattle.std.proofs.Common.{arith, ◌≡◌, length}
use Rattle.rolls.specs.Roll.{record_in}
use Rattle.walks.proofs.Stage.{stage_start, stage_all, stage_next}
use Rattle.rolls.proofs.fill.Goals as goal

pub loop-i-init : goal.loop-i-init
loop-i-init c = record { within = omega arith; filled = stage_start (record_in c.args.roll) c.args.stations.now c.args.records.now }

-- a turn stores the record of the next question
pub loop-i-preserved : goal.loop-i-preserved
loop-i-preserved c = record {
  within = omega arith;
  filled =
      rw c.loop-i.invariant.filled
      (stage_next (record_in c.args.roll) c.args.stations.now c.args.records.now c.loop-i.i 0 c.record.result (cc) c.loop-i-test.true (omega arith));
}

-- after the last turn every question has its record
pub returns : goal.returns
returns c =
    let last : c.loop-i.i ≡ length c.args.stations.now = omega arith in
    rw (c.loop-i.invariant.filled, last) (stage_all (record_in c.args.roll) c.args.stations.now c.args.records.now)
