use Rattle.std.proofs.Common.{◌^◌, ◌<◌, All}
use Rattle.cases.proofs.read_lengths.Given as goal

-- Every length so far, and the zeros after them, is one of four bytes.
abbrev pub invariant-loop-length : goal.invariant-loop-length
invariant-loop-length g l = All (λ n. n < 2 ^ 32) l.length-items
