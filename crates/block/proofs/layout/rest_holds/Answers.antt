use Rattle.block.specs.Layout.{rest_holds}
use Rattle.block.proofs.layout.rest_holds.Goals as goal

-- The count is read; it says where the places end and the zero bytes begin.
pub returns : goal.returns
unfolding rest_holds
returns c = cc
