use Rattle.table.proofs.Lines.{slot_within}
use Rattle.questions.proofs.Standing.{stand_none, stand_next, stand_not, stand_all}
use Rattle.questions.proofs.all_stand.Goals as goal

pub loop-i-init : goal.loop-i-init
loop-i-init c = search stand_none

pub block_at-requires : goal.block_at-requires
block_at-requires c = search slot_within

pub loop-i-preserved : goal.loop-i-preserved
loop-i-preserved c = search stand_next

pub returns-then-not-stands : goal.returns-then-not-stands
returns-then-not-stands c = search stand_not

pub returns : goal.returns
returns c = search stand_all
