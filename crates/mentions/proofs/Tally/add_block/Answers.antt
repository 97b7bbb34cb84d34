use Rattle.mentions.proofs.Adding.{left_room, right_room, bag_room, block_added}
use Rattle.mentions.proofs.Keeping.{keeps_itself, keeps_more, ready_after}
use Rattle.mentions.proofs.Tally.add_block.Goals as goal

pub add_neighbour-requires : goal.add_neighbour-requires
add_neighbour-requires c = ready_after c.requires.ready (keeps_itself _ c.requires.ready.alike) (left_room c.requires.ready.below)

pub add_neighbour-requires-2 : goal.add_neighbour-requires-2
add_neighbour-requires-2 c =
    ready_after c.requires.ready c.add_neighbour.ensures.kept (right_room c.requires.ready.below c.add_neighbour.ensures.added)

pub add_messages-requires-clause-ready : goal.add_messages-requires-clause-ready
add_messages-requires-clause-ready c =
    ready_after c.requires.ready (keeps_more c.add_neighbour.ensures.kept c.add_neighbour-2.ensures.kept)
    (bag_room c.requires.ready.below c.add_neighbour.ensures.added c.add_neighbour-2.ensures.added)

-- each is of the index as it was
pub returns : goal.returns
returns c =
    let left = c.add_neighbour.ensures in
    let right = c.add_neighbour-2.ensures in
    let both = keeps_more left.kept right.kept in
    record {
      added = block_added _ _ c.station_of-station.ensures left.added (rw left.kept.index at right.added) (rw both.index at c.add_messages.ensures.added);
      kept = keeps_more both c.add_messages.ensures.kept;
    }
