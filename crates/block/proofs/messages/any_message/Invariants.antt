use Rattle.std.proofs.Common.{◌≡◌, Bool, false}
use Rattle.lists.specs.Lists.{any}
use Rattle.line.specs.declared.Message.{Message}
use Rattle.block.specs.Layout.{messages}
use Rattle.block.proofs.messages.any_message.Given as goal

-- None of the messages so far passes the test.
abbrev pub invariant-loop-i : goal.invariant-loop-i
invariant-loop-i g l = (p : Message → Bool) → ((m : Message) (t : Bool) → goal.F-post g l.test m t → t ≡ p m) → any p (messages l.b l.i) ≡ false
