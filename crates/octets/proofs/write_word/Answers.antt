use Rattle.std.proofs.Common.{◌+◌, refl}
use Rattle.octets.specs.Bytes.{le16}
use Rattle.octets.proofs.Overwritten.{part_replaced}
use Rattle.octets.proofs.write_word.Goals as goal

pub returns : goal.returns
returns c = let a = c.args in cc (part_replaced a.at (a.at + 2) (le16 a.x) a.room.now refl)
