-- A refused table has no roll; of an accepted one the messages are read and the mentions counted.
use borrow.Author.Rules.{rules}
use Rattle.table.proofs.Lines.{inspected_long, inspected_clean, inspected_size}
use Rattle.roll_call.proofs.Reading.{roll_refused, roll_read, lent_within, lent_size, lent_equal}
use Rattle.roll_call.proofs.read_roll.Goals as goal

pub returns-in_err-index : goal.returns-in_err-index
returns-in_err-index c = roll_refused _ c.in_err-index.ensures (search rules)

pub read_counts-messages-requires : goal.read_counts-messages-requires
read_counts-messages-requires c = inspected_clean c.in_ok-index.ensures

pub slice_bounds-index-end : goal.slice_bounds-index-end
slice_bounds-index-end c = inspected_long c.in_ok-index.ensures

pub slice_bounds-count_mentions-end : goal.slice_bounds-count_mentions-end
slice_bounds-count_mentions-end c = inspected_size c.in_ok-index.ensures

pub slice_bounds-mentions-end : goal.slice_bounds-mentions-end
slice_bounds-mentions-end c = lent_within c.in_ok-index.ensures 0

pub slice_bounds-count_mentions-end-2 : goal.slice_bounds-count_mentions-end-2
slice_bounds-count_mentions-end-2 c = lent_size c.in_ok-index.ensures 0

pub slice_bounds-smallest-end : goal.slice_bounds-smallest-end
slice_bounds-smallest-end c = lent_within c.in_ok-index.ensures 0

pub slice_bounds-count_mentions-end-3 : goal.slice_bounds-count_mentions-end-3
slice_bounds-count_mentions-end-3 c = lent_size c.in_ok-index.ensures 4294967295

pub count_mentions-requires-clause-counts_value : goal.count_mentions-requires-clause-counts_value
count_mentions-requires-clause-counts_value c = (lent_equal c.in_ok-index.ensures 0, lent_equal c.in_ok-index.ensures 4294967295)

pub returns : goal.returns
returns c = roll_read c.in_ok-index.ensures c.count_mentions.ensures c.read_counts-messages.ensures _ _
