use Rattle.table.proofs.Lines.{slot_within}
use Rattle.leave.proofs.Leaving.{holder_fits, leave_unread, leave_told}
use Rattle.leave.proofs.leave_at.Goals as goal

pub block_at-requires : goal.block_at-requires
block_at-requires c = search slot_within

pub returns-then-count-ne0 : goal.returns-then-count-ne0
returns-then-count-ne0 c = search leave_unread

pub number_at-requires : goal.number_at-requires
number_at-requires c = search slot_within

pub leave_from-requires : goal.leave_from-requires
leave_from-requires c = search holder_fits

pub returns : goal.returns
returns c = search leave_told
