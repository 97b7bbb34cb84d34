use Rattle.moves.proofs.Holding.{holder_bag, holder_left, holder_right}
use Rattle.moves.proofs.holders.is_holder.Goals as goal

pub returns-then-is_neighbour : goal.returns-then-is_neighbour
returns-then-is_neighbour c = search holder_left

pub returns-then-is_neighbour-2 : goal.returns-then-is_neighbour-2
returns-then-is_neighbour-2 c = search holder_right

pub returns : goal.returns
returns c = search holder_bag
