use Rattle.index.proofs.Halving.{halved_absent, halved_found, halved_none, halved_upper, halved_lower}
use Rattle.index.proofs.lookup.Goals as goal
use Rattle.index.proofs.lookup.Goals.{then-entry-top, else-entry-top}

pub returns-then-n-eq0 : goal.returns-then-n-eq0
returns-then-n-eq0 c = search halved_none

pub loop-size-preserved : goal.loop-size-preserved
loop-size-preserved c = elim c.if-entry-top.branch [ then-entry-top w ↦ search halved_upper | else-entry-top w ↦ search halved_lower ]

pub returns-then-lowest-number : goal.returns-then-lowest-number
returns-then-lowest-number c = search halved_found

pub returns-else-lowest-number : goal.returns-else-lowest-number
returns-else-lowest-number c = search halved_absent
