use Rattle.writing.proofs.WritingLaws.{PlacedTo}
use Rattle.writing.proofs.write_places.Given as goal

-- The places of the first i messages are written.
abbrev pub invariant-loop-i : goal.invariant-loop-i
invariant-loop-i l = PlacedTo l.initial.room l.message-items l.room l.i
