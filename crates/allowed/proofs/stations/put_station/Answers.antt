use mathlib.Core.Path.{refl, ◌∙◌}
use Rattle.line.specs.declared.Side.TheVariants.{Left, Right}
use Rattle.allowed.proofs.Holding.{removal_held}
use Rattle.allowed.proofs.Verdicts.{standing_slot, standing_named}
use Rattle.allowed.proofs.Putting.{standing_clean, index_few, index_small, block_holds, chosen_held, chosen_whole, put_none, action_asked, put_asks, put_next, put_all}
use Rattle.allowed.proofs.stations.put_station.Goals as goal

pub number_at-station-requires : goal.number_at-station-requires
number_at-station-requires c = search standing_slot

pub block_at-b-requires : goal.block_at-b-requires
block_at-b-requires c = search standing_slot

pub numbers_of-numbers-requires : goal.numbers_of-numbers-requires
numbers_of-numbers-requires c = search standing_clean

pub choose-chosen-requires : goal.choose-chosen-requires
choose-chosen-requires c = (search index_few, search index_small)

pub has_kind-left-requires : goal.has_kind-left-requires
has_kind-left-requires c = search standing_clean

pub has_kind-right-requires : goal.has_kind-right-requires
has_kind-right-requires c = search standing_clean

pub loop-k-init : goal.loop-k-init
loop-k-init c =
    let chosen = c.choose-chosen.ensures in
    let block = c.block_at-b.ensures in
    let pre = c.requires in
    let s = pre.0 in
    put_none s (standing_named s refl c.number_at-station.ensures)
    (removal_held Left _ c.has_kind-left.ensures ∙ block_holds s block _)
    (removal_held Right _ c.has_kind-right.ensures ∙ block_holds s block _)
    c.leave_at-leave.ensures
    (chosen_held s block _ c.numbers_of-numbers.ensures chosen.0)
    (chosen_whole s block _ c.numbers_of-numbers.ensures chosen.0)
    chosen.1 chosen.2 pre.1

pub is_allowed-allowed-requires : goal.is_allowed-allowed-requires
is_allowed-allowed-requires c = action_asked c.loop-k.invariant c.loop-k-test.true c.action_of-action.ensures c.found_of-found.ensures

pub put_if-end-requires : goal.put_if-end-requires
put_if-end-requires c =
    put_asks c.loop-k.invariant c.loop-k-test.true c.action_of-action.ensures c.is_allowed-allowed.ensures

pub loop-k-preserved : goal.loop-k-preserved
loop-k-preserved c =
    put_next c.loop-k.invariant c.loop-k-test.true c.action_of-action.ensures c.is_allowed-allowed.ensures c.put_if-end.ensures

pub returns : goal.returns
returns c = search put_all
