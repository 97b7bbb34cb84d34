use Rattle.mentions.specs.Growing.{Keeps}
use Rattle.mentions.proofs.Counting.{CountedTo}
use Rattle.mentions.proofs.count_mentions.Given as goal

-- The blocks are counted from the last to the first.
abbrev pub invariant-loop-k : goal.invariant-loop-k
invariant-loop-k l = record { counted : CountedTo l.table l.index l.k l.tally.counts.now l.tally.smallest.now; kept : Keeps l.initial.tally l.tally }
