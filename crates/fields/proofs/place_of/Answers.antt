use Rattle.fields.proofs.Ways.{gap_filled, introduced, out_of_range, removal_numbered, left_removed, right_removed, no_kind}
use Rattle.fields.proofs.place_of.Goals as goal

pub returns-then-gap-ne0 : goal.returns-then-gap-ne0
returns-then-gap-ne0 c = search gap_filled

pub returns-then-in_range : goal.returns-then-in_range
returns-then-in_range c = search introduced

pub returns-then-kind-eq1 : goal.returns-then-kind-eq1
returns-then-kind-eq1 c = search out_of_range

pub returns-then-number-ne0 : goal.returns-then-number-ne0
returns-then-number-ne0 c = search removal_numbered

pub returns-then-kind-eq2 : goal.returns-then-kind-eq2
returns-then-kind-eq2 c = search left_removed

pub returns-then-kind-eq3 : goal.returns-then-kind-eq3
returns-then-kind-eq3 c = search right_removed

pub returns : goal.returns
returns c = search no_kind
