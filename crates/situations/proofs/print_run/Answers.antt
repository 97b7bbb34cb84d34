use mathlib.Core.Path.{sym}
use lib.Seq.{length-take-le}
use Rattle.engine.proofs.Written.{said_within, said_accepted}
use Rattle.situations.proofs.print_run.Goals as goal

-- What the run says of its answer: the table that it leaves lies within the room and has no fault, so it may be printed.
pub slice_bounds-write_listing-end : goal.slice_bounds-write_listing-end
slice_bounds-write_listing-end g c = search said_within

pub slice_bounds-write_listing-end-2 : goal.slice_bounds-write_listing-end-2
slice_bounds-write_listing-end-2 g c = sym (length-take-le _ _ (search said_within))

pub write_listing-end-requires-clause-table_value : goal.write_listing-end-requires-clause-table_value
write_listing-end-requires-clause-table_value g c = λ h. search said_accepted

pub returns : goal.returns
returns g c = search said_within
