use Rattle.text.proofs.Lines.{MessagesTo}
use Rattle.text.proofs.stations.put_messages.Given as goal

-- The messages of the first i places are written.
abbrev pub invariant-loop-i : goal.invariant-loop-i
invariant-loop-i l = MessagesTo l.initial.out l.at l.b l.n l.i l.end l.out
