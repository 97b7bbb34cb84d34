use native.Mathlib.Omega.{arith}
use Rattle.steps.proofs.Ways.{step_timeout, step_deliver, step_exit, step_other, out_of_range}
use Rattle.steps.proofs.step_of.Goals as goal

pub returns-then-not-in_range : goal.returns-then-not-in_range
returns-then-not-in_range c =
    let a = c.args in
    out_of_range a.action a.kind a.station a.number c.in_range.ensures c.if-not-in_range.true c.malformed.ensures

pub returns-in-1 : goal.returns-in-1
returns-in-1 c = search step_timeout

pub returns-in-2 : goal.returns-in-2
returns-in-2 c =
    let a = c.args in
    step_deliver a.action a.kind a.station a.number c.in_range.ensures c.if-not-in_range.false (λ e. omega arith) c.in-2.is c.delivery.ensures

pub returns-in-3 : goal.returns-in-3
returns-in-3 c =
    let a = c.args in
    step_exit a.action a.kind a.station a.number c.in_range.ensures c.if-not-in_range.false (λ e. omega arith) (λ e. omega arith) c.in-3.is c.plain-in-3.ensures

pub returns-in_default : goal.returns-in_default
returns-in_default c = search step_other
