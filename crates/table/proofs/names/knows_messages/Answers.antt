use borrow.Author.Rules.{rules}
use borrow.Author.Tests.{tests}
use mathlib.Core.Path.{refl, ◌∙◌}
use native.Mathlib.Omega.{arith}
use Rattle.std.proofs.lemmas.Iterator.{YieldsList-from_range, serves_from_Range}
use Rattle.std.proofs.lemmas.Iterator.Search.{all_from_yields_List}
use Rattle.line.specs.declared.Message.{Message}
use Rattle.line.specs.Accepted.{knows_content}
use Rattle.fields.specs.Fields.{message_of}
use Rattle.block.specs.Layout.{place_at}
use Rattle.table.proofs.NameLaws.{messages_tested, place_counted}
use Rattle.table.proofs.names.knows_messages.Goals as goal

pub all-requires-clause-callable : goal.all-requires-clause-callable
all-requires-clause-callable c =
    serves_from_Range (λ i q k. search (rules, tests)) (λ i low high. let counted = place_counted c.args.b.now c.requires.0 c.word_at-n.ensures high in search (rules, counted))

pub returns : goal.returns
returns c =
    λ line h.
    let b = c.args.b.now in
    let n = c.word_at-n.result in
    let known = λ (m : Message). knows_content line m.content in
    all_from_yields_List (λ i. known (message_of (place_at b i))) _ _ _ c.all.ensures.ran (YieldsList-from_range 0 n n refl (omega arith)) (λ i r q k. search (rules, tests, h))
    ∙ rw (c.word_at-n.ensures, messages_tested known b)
