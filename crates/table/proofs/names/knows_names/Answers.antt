use Rattle.line.specs.Accepted.{names_present}
use Rattle.block.specs.Layout.{node_of}
use Rattle.table.proofs.names.knows_names.Goals as goal

-- The three parts of what a block names.
pub returns : goal.returns
unfolding names_present node_of
returns c =
    λ line h.
    rw (c.knows_neighbour.ensures line h, c.knows_neighbour-2.ensures line h, c.knows_messages.ensures line h, c.station_of-station.ensures)
