-- The examples are computed.
use mathlib.Core.Path.{refl}
use Rattle.line.specs.Node.{with_neighbour}
use Rattle.line.specs.Report.{less, mail, left_id, right_id}
use Rattle.line.proofs.Worked.{each}
use Rattle.delivery.specs.Lemma3.{below, equal, on_side, introduced}
use Rattle.delivery.specs.Examples.{Shows, examples}
use Rattle.delivery.specs.Claims.{ExamplesShow}

pub examples_show : ExamplesShow
unfolding with_neighbour less mail left_id right_id below equal on_side introduced examples
examples_show = each Shows (refl, (refl, (refl, (refl, (refl, (refl, (refl, (refl, (refl, (refl, (refl, (refl, tt))))))))))))
