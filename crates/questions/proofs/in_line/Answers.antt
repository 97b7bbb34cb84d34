use borrow.Author.Rules.{rules}
use Rattle.table.proofs.Lines.{inspected_long, inspected_size}
use Rattle.questions.proofs.Asking.{line_refused, line_accepted}
use Rattle.questions.proofs.in_line.Goals as goal

pub returns-in_err-index : goal.returns-in_err-index
returns-in_err-index c = line_refused c.in_err-index.ensures (search rules)

pub slice_bounds-index-end : goal.slice_bounds-index-end
slice_bounds-index-end c = inspected_long c.in_ok-index.ensures

pub slice_bounds-lasts-end : goal.slice_bounds-lasts-end
slice_bounds-lasts-end c = inspected_size c.in_ok-index.ensures

pub returns : goal.returns
returns c = line_accepted c.in_ok-index.ensures c.lasts.ensures
