use Rattle.table.proofs.Lines.{slot_within, slot_count}
use Rattle.leave.proofs.Holding.{block_passed, block_holds, no_block_holds}
use Rattle.leave.proofs.holders.first_holder.Goals as goal

pub block_at-requires : goal.block_at-requires
block_at-requires c = search slot_within

pub is_holder-requires : goal.is_holder-requires
is_holder-requires c = search slot_count

pub returns-then-is_holder : goal.returns-then-is_holder
returns-then-is_holder c = search block_holds

pub loop-j-preserved : goal.loop-j-preserved
loop-j-preserved c = search block_passed

pub returns : goal.returns
returns c = search no_block_holds
