use Rattle.table.proofs.Lines.{slot_within, slot_count}
use Rattle.questions.proofs.Staying.{settled_none, settled_next, settled_not, settled_all}
use Rattle.questions.proofs.settled.all_settled.Goals as goal

pub loop-entry-init : goal.loop-entry-init
loop-entry-init c = search settled_none

pub block_at-requires : goal.block_at-requires
block_at-requires c = search slot_within

pub is_settled-requires : goal.is_settled-requires
is_settled-requires c = search slot_count

pub loop-entry-preserved : goal.loop-entry-preserved
loop-entry-preserved c = search settled_next

pub returns-then-not-is_settled : goal.returns-then-not-is_settled
returns-then-not-is_settled c = search settled_not

pub returns : goal.returns
returns c = search settled_all
