-- "A step is malformed if ..": a reading that is refused is malformed, and nothing else.
use Prim.Native.Nat.{ℕ, ◌+◌, ◌*◌}
use Rattle.std.specs.Prelude.{Some, None, Err}
use Rattle.line.specs.Types.{Reading}
use mathlib.Core.Path.{◌≡◌, refl}
use mathlib.Core.Bool.{Bool, true, false, cond, ◌&&◌}
use mathlib.Core.List.{List}
use native.Mathlib.Omega.{arith}
use lib.Dec.{eqb}
use Rattle.line.specs.declared.Action.{Action}
use Rattle.line.specs.declared.Action.TheVariants.{Timeout, Deliver, Exit}
use Rattle.line.specs.declared.Refusal.{Refusal}
use Rattle.line.specs.declared.Refusal.TheVariants.{Malformed}
use Rattle.line.specs.Accepted.{in_range}
use Rattle.octets.specs.Bytes.{word, quad}
use Rattle.fields.specs.Fields.{place_of, Place}
use Rattle.steps.specs.Steps.{malformed, step_for, plain, delivery, step_of, step_at}

abbrev MalformedOnly : Reading → Type 0
MalformedOnly x = (r : Refusal) → x ≡ Err r → x ≡ malformed

either : (b : Bool) (x y : Reading) → MalformedOnly x → MalformedOnly y → MalformedOnly (cond b x y)
either true x y f g = f
either false x y f g = g

a_step : (n : ℕ) (a : Action) → MalformedOnly (step_for n a)
a_step n a r h = cc

no_step_lem : MalformedOnly malformed
no_step_lem r h = refl

a_delivery : (n : ℕ) (p : Place) → MalformedOnly (delivery n p)
a_delivery n (Some m) = a_step n (Deliver m)
a_delivery n None = no_step_lem

a_plain : (kind n number : ℕ) (a : Action) → MalformedOnly (plain kind n number a)
unfolding plain
a_plain kind n number a = either (eqb kind 0 && eqb number 0) (step_for n a) malformed (a_step n a) no_step_lem

of_fields : (action kind n number : ℕ) → MalformedOnly (step_of action kind n number)
unfolding step_of
of_fields action kind n number =
    let delivered = delivery n (place_of kind 0 number) in
    let exited = cond (eqb action 3) (plain kind n number Exit) malformed in
    let others = cond (eqb action 2) delivered exited in
    let all = cond (eqb action 1) (plain kind n number Timeout) others in
    either (in_range n) all malformed
    (either (eqb action 1) (plain kind n number Timeout) others (a_plain kind n number Timeout)
    (either (eqb action 2) delivered exited (a_delivery n (place_of kind 0 number)) (either (eqb action 3) (plain kind n number Exit) malformed (a_plain kind n number Exit) no_step_lem)))
    no_step_lem

pub read_malformed : (l : List ℕ) (k : ℕ) (r : Refusal) → step_at l k ≡ Err r → step_at l k ≡ Err Malformed
unfolding step_at
read_malformed l k = of_fields (word l (12 * k)) (word l (12 * k + 2)) (quad l (12 * k + 4)) (quad l (12 * k + 8))
