use Rattle.block.specs.Layout.{header_holds}
use Rattle.block.proofs.layout.header_holds.Goals as goal

-- Each field is tested by its rule.
pub returns : goal.returns
unfolding header_holds
returns c = cc
