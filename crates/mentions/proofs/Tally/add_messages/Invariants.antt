use Rattle.mentions.specs.Growing.{Keeps}
use Rattle.mentions.proofs.Adding.{AddedTo}
use Rattle.mentions.proofs.Tally.add_messages.Given as goal

-- The messages of the places passed are added.
abbrev pub invariant-loop-i : goal.invariant-loop-i
invariant-loop-i l = record {
  added : AddedTo l.b l.initial.self.index.now l.initial.self.counts.now l.initial.self.smallest.now l.p l.n l.i l.self.counts.now l.self.smallest.now;
  kept : Keeps l.initial.self l.self;
}
