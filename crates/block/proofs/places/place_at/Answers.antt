use Rattle.block.proofs.PlaceLaws.{place_read}
use Rattle.block.proofs.places.place_at.Goals as goal

pub returns : goal.returns
returns c = search place_read
