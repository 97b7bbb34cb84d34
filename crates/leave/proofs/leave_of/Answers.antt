use Rattle.table.proofs.Lines.{numbers_rise}
use Rattle.leave.proofs.Leaving.{leave_absent, leave_there}
use Rattle.leave.proofs.leave_of.Goals as goal

pub lookup-i-requires : goal.lookup-i-requires
lookup-i-requires c = search numbers_rise

pub returns-then-index-i : goal.returns-then-index-i
returns-then-index-i c = search leave_absent

pub returns : goal.returns
returns c = search leave_there
