use Rattle.allowed.proofs.Verdicts.{standing_slot, standing_plan, is_allowed_lem}
use Rattle.allowed.proofs.judging.is_allowed.Goals as goal

pub block_at-requires : goal.block_at-requires
block_at-requires c = search standing_slot

pub plan-requires : goal.plan-requires
plan-requires c = search standing_plan

pub returns : goal.returns
returns c = search is_allowed_lem
