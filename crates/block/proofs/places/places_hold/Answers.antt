use borrow.Author.Rules.{rules}
use borrow.Author.Tests.{tests}
use Rattle.std.proofs.Common.{arith, refl, ◌∙◌}
use Rattle.std.proofs.lemmas.Iterator.{YieldsList-from_range}
use Rattle.std.proofs.lemmas.Iterator.Search.{all_from_yields_List}
use Rattle.fields.specs.Fields.{is_good}
use Rattle.block.specs.Layout.{place_at}
use Rattle.block.proofs.PlaceLaws.{places_tested}
use Rattle.block.proofs.places.places_hold.Goals as goal

pub returns : goal.returns
returns c =
    let b = c.args.b.now in
    let n = c.args.n in
    all_from_yields_List (λ i. is_good (place_at b i)) _ _ _ c.all.ensures.ran (YieldsList-from_range 0 n n refl (omega arith)) (λ i r q k. search (rules, tests))
    ∙ places_tested b n
