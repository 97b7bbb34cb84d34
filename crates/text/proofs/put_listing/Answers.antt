use Rattle.text.proofs.Lines.{listing_long, listing_short}
use Rattle.text.proofs.Blocks.{prints_clean, prints_room}
use Rattle.text.proofs.put_listing.Goals as goal

-- The first line, and the lines of the stations where the answer prints them.
pub put_lines-requires : goal.put_lines-requires
put_lines-requires c = (search prints_clean, search prints_room)

pub returns-then-prints_stations : goal.returns-then-prints_stations
returns-then-prints_stations c = search listing_long

pub returns : goal.returns
returns c = search listing_short
