use Rattle.std.proofs.Common.{sym, ◌∙◌, arith}
use mathlib.Core.Bool.{and_assoc, and-true}
use Rattle.octets.specs.Bytes.{all_zero}
use Rattle.octets.proofs.Cuts.{zero_one, zero_none}
use Rattle.octets.proofs.zero_between.Goals as goal

pub loop-i-preserved : goal.loop-i-preserved
loop-i-preserved c =
    let a = c.args in
    let e = zero_one a.b.now c.loop-i.i a.to (omega arith) (omega arith) in
    c.loop-i.invariant ∙ rw (e, and_assoc)

pub returns : goal.returns
unfolding all_zero
returns c =
    let a = c.args in
    sym (c.loop-i.invariant ∙ rw (zero_none a.b.now c.loop-i.i a.to c.loop-i-test.false, and-true))
