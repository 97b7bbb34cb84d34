use mathlib.Core.Path.{refl}
use Rattle.lists.proofs.Lists.{clash}
use Rattle.text.specs.Listing.{prints_stations}
use Rattle.printing.proofs.Printing.{lists_run, lists_sixteen}
use Rattle.printing.proofs.list_files.Goals as goal

-- The run decides where both files hold, and 16 where one does not. 16 prints no station, so the table beside it plays no part.
pub returns-then-files_hold-clause-prints : goal.returns-then-files_hold-clause-prints
returns-then-files_hold-clause-prints c = search lists_run

pub write_listing-requires-clause-table_value : goal.write_listing-requires-clause-table_value
unfolding prints_stations
write_listing-requires-clause-table_value c = λ e. clash (rw c.number.ensures at e) refl

pub returns-clause-prints : goal.returns-clause-prints
returns-clause-prints c = search lists_sixteen
