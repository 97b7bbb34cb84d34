use Rattle.text.proofs.Lines.{messages_none, messages_next}
use Rattle.text.proofs.stations.put_messages.Goals as goal

pub loop-i-init : goal.loop-i-init
loop-i-init c = search messages_none

pub loop-i-preserved : goal.loop-i-preserved
loop-i-preserved c = search messages_next
