use borrow.Author.Rules.{rules}
use native.Mathlib.Omega.{arith}
use Rattle.std.proofs.lemmas.List.{length-take}
use Rattle.writing.proofs.WritingLaws.{placed_none, placed_next}
use Rattle.writing.proofs.write_places.Goals as goal

pub loop-i-init : goal.loop-i-init
loop-i-init c = placed_none (omega (arith, length-take c.size-n.result c.args.bag.messages)) (search rules)

pub loop-i-preserved : goal.loop-i-preserved
loop-i-preserved c = placed_next c.loop-i.invariant (search rules) _ c.write_place.ensures
