-- All four numbers are those of what is seen.
use Rattle.std.proofs.Common.{Bool, true, false, ◌≡◌, cond, refl}
use mir.Val.{bool_byte}
use Rattle.station_line.specs.Interface.{viewed_as}
use Rattle.station_line.proofs.viewed_as.Goals as goal

-- a bool as a number
as_byte : (b : Bool) → bool_byte b ≡ cond b 1 0
as_byte true = refl
as_byte false = refl

pub returns : goal.returns
unfolding viewed_as
returns c = rw (as_byte c.args.looked.found)
