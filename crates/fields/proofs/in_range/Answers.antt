use borrow.Author.Rules.{rules}
use Rattle.line.specs.Accepted.{in_range}
use Rattle.fields.proofs.in_range.Goals as goal

-- The two tests are the rule.
pub returns : goal.returns
unfolding in_range
returns c = search rules
