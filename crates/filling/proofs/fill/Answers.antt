use Rattle.filling.proofs.Filling.{room_short, room_filled}
use Rattle.filling.proofs.fill.Goals as goal

pub returns-then-room-bytes : goal.returns-then-room-bytes
returns-then-room-bytes c = search room_short

pub returns : goal.returns
returns c = search room_filled
