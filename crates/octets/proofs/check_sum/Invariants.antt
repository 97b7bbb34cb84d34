use Rattle.std.proofs.Common.{◌≡◌, ◌+◌, ◌*◌, ◌%◌, drop}
use Rattle.octets.specs.Bytes.{sum_words}
use Rattle.octets.proofs.check_sum.Given as goal

-- The sum so far and the words that are left give the whole sum, modulo 65,536 (document 01, "The form each place needs").
abbrev pub invariant-loop-k : goal.invariant-loop-k
invariant-loop-k l = (l.sum + sum_words (drop (2 * l.k) l.b)) % 65536 ≡ sum_words l.b % 65536
