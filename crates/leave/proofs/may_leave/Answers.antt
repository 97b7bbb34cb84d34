use borrow.Author.Rules.{rules}
use Rattle.table.proofs.Lines.{inspected_long, inspected_size}
use Rattle.leave.proofs.Asking.{leave_refused, leave_accepted, leave_unknown}
use Rattle.leave.proofs.may_leave.Goals as goal

pub returns-in_err-index : goal.returns-in_err-index
returns-in_err-index c = leave_refused _ c.in_err-index.ensures (search rules)

pub slice_bounds-index-end : goal.slice_bounds-index-end
slice_bounds-index-end c = inspected_long c.in_ok-index.ensures

pub slice_bounds-leave_of-end : goal.slice_bounds-leave_of-end
slice_bounds-leave_of-end c = inspected_size c.in_ok-index.ensures

pub returns-in_err-leave_of : goal.returns-in_err-leave_of
returns-in_err-leave_of c = leave_unknown _ c.in_ok-index.ensures c.in_err-leave_of.ensures (search rules)

pub returns : goal.returns
returns c = leave_accepted _ c.in_ok-index.ensures c.in_ok-leave_of.ensures
