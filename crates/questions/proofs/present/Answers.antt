use borrow.Author.Rules.{rules}
use Rattle.std.proofs.Common.{◌≡◌, ◌<◌, ◌≤◌, length, get_or}
use Rattle.table.proofs.Lines.{slot_within}
use Rattle.questions.proofs.Standing.{present_some, present_none}
use Rattle.questions.proofs.present.Goals as goal

pub number_at-requires : goal.number_at-requires
number_at-requires c =
    let e : c.in-Some.entry.now ≡ get_or c.args.index.now c.args.i 0 = search rules in
    let h : c.args.i < length c.args.index.now = search rules in
    rw e (slot_within _ _ c.requires.table_value c.requires.index_value _ h)

pub returns-in-Some : goal.returns-in-Some
returns-in-Some c =
    let e : c.in-Some.entry.now ≡ get_or c.args.index.now c.args.i 0 = search rules in
    let h : c.args.i < length c.args.index.now = search rules in
    present_some _ _ c.requires.table_value c.requires.index_value _ h (rw e at c.number_at.ensures)

pub returns-in-None : goal.returns-in-None
returns-in-None c = let h : length c.args.index.now ≤ c.args.i = search rules in search present_none
