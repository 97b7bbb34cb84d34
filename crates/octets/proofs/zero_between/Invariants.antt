use Rattle.std.proofs.Common.{◌≡◌, ◌&&◌}
use Rattle.octets.specs.Bytes.{part, all_zero}
use Rattle.octets.proofs.zero_between.Given as goal

-- What was tested so far and what is left decide together.
abbrev pub invariant-loop-i : goal.invariant-loop-i
invariant-loop-i l = all_zero (part l.b l.from l.to) ≡ (l.clear && all_zero (part l.b l.i l.to))
