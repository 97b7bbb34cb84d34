use Rattle.allowed.proofs.Listing.{listed_none, listed_standing, listed_room, listed_next, listed_all}
use Rattle.allowed.proofs.put_list.Goals as goal

pub loop-i-init : goal.loop-i-init
loop-i-init c = search listed_none

pub put_station-end-requires : goal.put_station-end-requires
put_station-end-requires c = (search listed_standing, search listed_room)

pub loop-i-preserved : goal.loop-i-preserved
loop-i-preserved c = search listed_next

pub returns : goal.returns
returns c = search listed_all
