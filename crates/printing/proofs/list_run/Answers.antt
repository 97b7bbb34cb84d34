use Rattle.engine.proofs.Written.{said_within, said_accepted}
use Rattle.printing.proofs.Printing.{lists, written_length}
use Rattle.printing.proofs.list_run.Goals as goal

-- The table written lies within the room and has no fault, so it can be listed.
pub slice_bounds-room-end : goal.slice_bounds-room-end
slice_bounds-room-end c = search said_within

pub slice_bounds-write_listing-end : goal.slice_bounds-write_listing-end
slice_bounds-write_listing-end c = search written_length

pub write_listing-requires-clause-table_value : goal.write_listing-requires-clause-table_value
write_listing-requires-clause-table_value c = λ e. search said_accepted

pub returns-clause-prints : goal.returns-clause-prints
returns-clause-prints c = search lists
