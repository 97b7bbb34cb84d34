use Rattle.steps.proofs.Ways.{plain_kind, plain_number, plain_zero}
use Rattle.steps.proofs.plain.Goals as goal
use Rattle.steps.proofs.plain.Goals.{then-kind-ne0-via-then-kind-ne0, then-kind-ne0-via-else-kind-ne0+then-number-ne0}

pub returns-then-kind-ne0 : goal.returns-then-kind-ne0
returns-then-kind-ne0 c =
    elim c.then-kind-ne0.branch [
      | then-kind-ne0-via-then-kind-ne0 w ↦ search plain_kind
      | then-kind-ne0-via-else-kind-ne0+then-number-ne0 w ↦ search plain_number
    ]

pub returns : goal.returns
returns c = search plain_zero
