use borrow.Author.Rules.{rules}
use borrow.Author.Tests.{tests}
use mathlib.Core.List.Memᴰ
use mathlib.Core.Path.{◌∙◌}
use Rattle.std.proofs.lemmas.Iterator.{YieldsList-from_slice}
use Rattle.std.proofs.lemmas.Iterator.Adapters.{serves_from_places}
use Rattle.std.proofs.lemmas.Iterator.Search.{all_from_yields_List}
use Rattle.line.specs.Accepted.{names_present}
use Rattle.lists.proofs.Elements.{member_at}
use Rattle.block.specs.Layout.{node_of}
use Rattle.table.specs.Blocks.{blocks, nodes}
use Rattle.table.proofs.FaultLaws.{no_fault_of}
use Rattle.table.proofs.NameLaws.{nodes_tested}
use Rattle.table.proofs.names.names_known.Goals as goal

pub all-requires-clause-callable : goal.all-requires-clause-callable
all-requires-clause-callable c =
    let all = blocks c.args.table.now in
    let given = c.iter.ensures.rest ∙ c.blocks-2.ensures in
    serves_from_places (YieldsList-from_slice all given) (λ x q k. search (rules, tests)) (λ x k h e. let clean = no_fault_of all c.requires.0 (Memᴰ.cast e (member_at all k x.now h)) in search (rules, clean))

pub returns : goal.returns
unfolding nodes
returns c =
    let line = nodes c.args.table.now in
    let given = c.iter.ensures.rest ∙ c.blocks-2.ensures in
    all_from_yields_List (λ b. names_present line (node_of b)) _ _ _ c.all.ensures.ran (YieldsList-from_slice _ given) (λ x r q k. search (rules, tests))
    ∙ nodes_tested (names_present line) (blocks c.args.table.now)
