use Rattle.table.proofs.Lines.{inspected_size, inspected_long}
use Rattle.allowed.proofs.Listing.{allowed_refused, allowed_filled}
use Rattle.allowed.proofs.allowed.Goals as goal

pub returns-in-Err : goal.returns-in-Err
returns-in-Err c = allowed_refused c.in-Err.ensures _ c.refused.ensures

pub slice_bounds-index-end : goal.slice_bounds-index-end
slice_bounds-index-end c = inspected_long c.in-Ok.ensures

pub slice_bounds-put_list-end-2 : goal.slice_bounds-put_list-end-2
slice_bounds-put_list-end-2 c = inspected_size c.in-Ok.ensures

pub returns : goal.returns
returns c = allowed_filled c.in-Ok.ensures c.put_list-end.ensures _ c.fill.ensures
