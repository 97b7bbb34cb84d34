use Rattle.std.proofs.Common.{◌≡◌, ◌+◌, ◌*◌, arith}
use Rattle.octets.proofs.Sums.{sum_step, sum_end}
use Rattle.octets.proofs.check_sum.Goals as goal

pub loop-k-preserved : goal.loop-k-preserved
loop-k-preserved c =
    let next : 2 * (c.loop-k.k + 1) ≡ 2 * c.loop-k.k + 2 = omega arith in
    rw next (omega (arith, sum_step c.args.b.now (2 * c.loop-k.k) (omega arith)))

pub returns : goal.returns
returns c = omega (arith, c.loop-k.auto.sum-fits, sum_end c.args.b.now (2 * c.loop-k.k) (omega arith))
