use borrow.Author.Rules.{rules}
use Rattle.engine.proofs.Before.{begin_faulty, begin_parted, begin_long, begin_short, begin_done}
use Rattle.engine.proofs.begin.Goals as goal

pub returns-in_err-index : goal.returns-in_err-index
returns-in_err-index c = begin_faulty _ _ _ c.in_err-index.ensures (search rules)

pub returns-then-steps-ne0 : goal.returns-then-steps-ne0
returns-then-steps-ne0 c = begin_parted _ _ _ c.in_ok-index.ensures c.if-steps-ne0.true

pub returns-then-steps-gt4096 : goal.returns-then-steps-gt4096
returns-then-steps-gt4096 c = begin_long _ _ _ c.in_ok-index.ensures c.if-steps-ne0.false c.if-steps-gt4096.true

pub returns-then-room-table : goal.returns-then-room-table
returns-then-room-table c = begin_short _ _ _ c.in_ok-index.ensures c.if-steps-ne0.false c.if-steps-gt4096.false c.if-room-table.true

pub returns : goal.returns
returns c = begin_done _ _ _ c.in_ok-index.ensures c.if-steps-ne0.false c.if-steps-gt4096.false c.if-room-table.false
