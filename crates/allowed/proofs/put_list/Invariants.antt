use Rattle.allowed.proofs.Listing.{ListedTo}
use Rattle.allowed.proofs.put_list.Given as goal

-- The records of the first i stations are written.
abbrev pub invariant-loop-i : goal.invariant-loop-i
invariant-loop-i l = ListedTo l.initial.out l.table l.index l.counts l.i l.end l.out
