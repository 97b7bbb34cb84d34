use Rattle.std.proofs.Common.{◌+◌, refl}
use Rattle.octets.specs.Bytes.{le32}
use Rattle.octets.proofs.Endian.{bytes_le32}
use Rattle.octets.proofs.Overwritten.{part_replaced}
use Rattle.octets.proofs.write_quad.Goals as goal

pub returns : goal.returns
returns c = let a = c.args in cc (part_replaced a.at (a.at + 4) (le32 a.x) a.room.now refl, bytes_le32 a.x)
