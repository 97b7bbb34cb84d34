use Rattle.std.proofs.Common.{arith}
use Rattle.block.proofs.Asking.{none_yet, none_next, one_found}
use Rattle.block.proofs.messages.any_message.Goals as goal

pub loop-i-init : goal.loop-i-init
loop-i-init g c p tells = none_yet p c.args.b.now

pub returns-then-test : goal.returns-then-test
returns-then-test g c p tells =
    one_found p c.args.b.now c.loop-i.i c.place_at.ensures c.message_of.ensures (tells _ _ c.test.ensures) _ (omega arith) c.if-test.true

pub loop-i-preserved : goal.loop-i-preserved
loop-i-preserved g c p tells =
    none_next p c.args.b.now c.loop-i.i c.place_at.ensures c.message_of.ensures (tells _ _ c.test.ensures) (c.loop-i.invariant p tells) c.if-test.false
