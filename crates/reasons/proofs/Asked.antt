-- The leave question about the table of a line: what is so of a station of the line is told (document 02, T-02).
use mathlib.Core.Path.{◌≡◌}
use Rattle.std.specs.Prelude.{Ok}
use Rattle.line.specs.Types.{Leave}
use mathlib.Core.List.{Memᴰ as Member}
use Rattle.line.specs.Node.{Node, Line, number, Written}
use Rattle.line.specs.Leave.{LeaveIs}
use Rattle.line.specs.Accepted.{Accepted}
use Rattle.table.specs.Blocks.{bytes_of}
use Rattle.table.proofs.Circle.{written_accepted}
use Rattle.leave.specs.Leave.{may_leave}
use Rattle.leave.proofs.Meanings.{may_leave_means}

pub told_of : (line : Line) (s : Node) (l : Leave) → Accepted line → Written line → Member s line → LeaveIs line s l → may_leave (bytes_of line) (number s) ≡ Ok l
told_of line s l ok w m h =
    let back = written_accepted line ok w in
    (may_leave_means (bytes_of line) s l back.0 (rw back.1 m)).1 (rw back.1 h)
