use borrow.Author.Rules.{rules}
use Rattle.std.specs.Prelude.{Ok, Result}
use borrow.Author.Tests.{tests}
use native.Mathlib.Omega.{arith}
use mathlib.Core.Path.{◌≡◌, sym, ◌∙◌}
use mathlib.Core.Bool.{true, false}
use Prim.Native.Nat.{◌+◌, ◌≤◌, ◌/◌}
use lib.ListN.{length}
use Rattle.std.proofs.lemmas.Iterator.{first_from_Range}
use Rattle.line.specs.declared.Refusal.{Refusal}
use Rattle.line.specs.declared.Refusal.TheVariants.{Malformed}
use Rattle.steps.proofs.Refusals.{read_malformed}
use Rattle.line.specs.Answer.{done}
use Rattle.line.specs.Node.{number}
use Rattle.line.specs.Step.{step}
use Rattle.bag.proofs.Laws.{length_mapped}
use Rattle.arrays.specs.declared.Arrays.{Arrays}
use Rattle.arrays.specs.Arrays.{node_at, line_in}
use Rattle.arrays.proofs.Lines.{slot_of}
use Rattle.moves.specs.declared.Plan.{Plan}
use Rattle.effects.proofs.Judging.{refuses}
use Rattle.effects.proofs.Effects.{Planned, first_room, leaves, second_room, stays, planned_by, entries_stay}
use Rattle.effects.proofs.Stores.{Arrived, arrived_one, arrived_none, BetweenSteps, OwnStored, with_station, own_taken, own_untaken}
use Rattle.effects.proofs.Underway.{Underway, underway_start, underway_absent, underway_end, underway_unread, underway_refused, underway_next}
use Rattle.effects.proofs.Asked.{holds, walked, holder_fits}
use Rattle.running.proofs.Ending.{ends_as}
use Rattle.running.proofs.run_accepted.Goals as goal
use Rattle.running.proofs.run_accepted.Goals.{After-plan, Joined-taken, Joined-decision, Joined-decision-2}
use Rattle.running.proofs.run_accepted.Goals.{in-Some, in_default-taken, in-Some-first, in_default-first, in-Some-second, in_default-second, then-decision, else-decision}

-- everything that is read and worked out before the first store
worked : (c : After-plan) {r : Result Plan Refusal} → c.plan.result ≡ r → Planned c.loop-k.arrays c.in-Ok.step c.lookup-i.result c.bag_after-taken.result r
worked c e =
    let a = c.loop-k.arrays in
    let p = number (node_at a (slot_of a c.lookup-i.result)) in
    let step = c.in-Ok.step in
    let between = c.loop-k.invariant.between in
    let came = walked p step.action between.consistent c.asked_of-asked.ensures c.find.result
    (first_from_Range _ _ _ _ (λ j. holds a p j ≡ true) (λ j. holds a p j ≡ false) c.find.ensures.ran (λ j q k. search (rules, tests)) (λ j q k. search (rules, tests)))
    c.unwrap_or-j.ensures in
    planned_by step c.lookup-i.result between c.if-arrays-i.false c.lookup-i.ensures c.asked_of-asked.ensures came.0 came.1
    c.leave_from-leave.ensures c.bag_after-taken.ensures (rw (c.is_some.ensures, e) at c.plan.ensures)

-- the arrays after the station's own store, and what each message that is sent makes of them
own_stored : (c : Joined-taken)
    → OwnStored c.bag_after-taken.result (slot_of c.loop-k.arrays c.lookup-i.result)
    (with_station c.loop-k.arrays (slot_of c.loop-k.arrays c.lookup-i.result) c.in-Ok-plan.plan.decision.station) c.match-taken.arrays
own_stored c =
    elim c.match-taken.branch [
      | in-Some w ↦ own_taken _ _ _ w.in-Some.is w.arrays-is
      | in_default-taken w ↦ own_untaken _ _ w.in_default-taken.is w.arrays-is
    ]

first : (c : Joined-decision) → Arrived c.in-Ok-plan.plan.decision.sendings.first c.in-Ok-plan.plan.first c.match-taken.arrays c.match-decision.arrays
first c =
    elim c.match-decision.branch [
      | in-Some-first w ↦ arrived_one _ _ c.match-taken.arrays _ w.in-Some-first.is w.put_in-row.ensures w.arrays-is
      | in_default-first w ↦ arrived_none _ _ c.match-taken.arrays w.in_default-first.is w.arrays-is
    ]

second : (c : Joined-decision-2) → Arrived c.in-Ok-plan.plan.decision.sendings.second c.in-Ok-plan.plan.second c.match-decision.arrays c.match-decision-2.arrays
second c =
    elim c.match-decision-2.branch [
      | in-Some-second w ↦ arrived_one _ _ c.match-decision.arrays _ w.in-Some-second.is w.put_in-row-in-Some-second.ensures w.arrays-is
      | in_default-second w ↦ arrived_none _ _ c.match-decision.arrays w.in_default-second.is w.arrays-is
    ]

-- the step is done: what was stored goes on
going : (c : Joined-decision-2) {after : Arrays} → after.n ≤ c.loop-k.arrays.n → (step (line_in c.loop-k.arrays) c.in-Ok.step ≡ done (line_in after)) × BetweenSteps after
    → Underway c.args.table.now c.args.steps.now c.args.room.now c.loop-k.room (length c.args.steps.now / 12) after (c.loop-k.k + 1)
going c h s = underway_next c.loop-k.invariant c.loop-k-test.true c.in-Ok.step c.read_step.ensures c.in-Ok.is h s

pub loop-k-init : goal.loop-k-init
loop-k-init c = search underway_start

pub returns-in_default : goal.returns-in_default
returns-in_default c =
    ends_as c.loop-k.invariant c.finish.ensures
    (underway_unread c.loop-k.invariant c.loop-k-test.true Malformed (read_malformed _ _ c.in_default.field-0 (sym c.read_step.ensures ∙ c.in_default.is)))

pub returns-then-arrays-i : goal.returns-then-arrays-i
returns-then-arrays-i c =
    ends_as c.loop-k.invariant c.finish-then-arrays-i.ensures
    (underway_absent c.loop-k.invariant c.loop-k-test.true c.in-Ok.step c.read_step.ensures c.in-Ok.is c.lookup-i.ensures c.if-arrays-i.true)

pub leave_from-leave-requires : goal.leave_from-leave-requires
leave_from-leave-requires c = holder_fits c.loop-k.invariant.between _

pub returns-in-Err : goal.returns-in-Err
returns-in-Err c =
    let p = (goal.at.returns-in-Err c).After-plan in
    ends_as c.loop-k.invariant c.finish-in-Err.ensures
    (underway_refused c.loop-k.invariant c.loop-k-test.true c.in-Ok.step c.read_step.ensures c.in-Ok.is (refuses (worked p c.in-Err.is).judged))

pub put_in-row-requires : goal.put_in-row-requires
put_in-row-requires c =
    let at = goal.at.put_in-row-requires c in
    first_room (worked at.After-plan c.in-Ok-plan.is) _ (own_stored at.Joined-taken) _ c.in-Some-first.is

pub put_in-row-requires-in-Some-second : goal.put_in-row-requires-in-Some-second
put_in-row-requires-in-Some-second c =
    let at = goal.at.put_in-row-requires-in-Some-second c in
    second_room (worked at.After-plan c.in-Ok-plan.is) _ (own_stored at.Joined-taken) _ (first at.Joined-decision) _ c.in-Some-second.is

pub loop-k-preserved : goal.loop-k-preserved
loop-k-preserved c =
    let at = goal.at.loop-k-preserved c in
    let plan = worked at.After-plan c.in-Ok-plan.is in
    let own = own_stored at.Joined-taken in
    let one = first at.Joined-decision in
    let two = second at.Joined-decision-2 in
    let same = entries_stay plan _ own _ one _ two in
    elim c.if-decision.branch [
      | then-decision w ↦ rw w.arrays-is (
          going at.Joined-decision-2 (omega arith)
          (leaves plan _ own _ one _ two w.if-decision.true (record { size = search (rules, length_mapped); is = w.drop_entry-index.ensures }))
          )
      | else-decision w ↦ rw w.arrays-is (going at.Joined-decision-2 (omega arith) (stays plan _ own _ one _ two w.if-decision.false))
    ]

pub returns : goal.returns
returns c = ends_as c.loop-k.invariant {e = Ok tt} c.finish-2.ensures (search underway_end)
