use borrow.Author.Rules.{rules}
use Rattle.lists.proofs.Dropping.{shift_none, shift_next, shift_all}
use Rattle.index.proofs.drop_entry.Goals as goal

pub loop-j-preserved : goal.loop-j-preserved
loop-j-preserved c = search (shift_next, rules)

pub returns : goal.returns
returns c = search (shift_all, rules)
