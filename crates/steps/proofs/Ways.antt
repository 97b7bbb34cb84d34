-- One law for each way through the reading of a step: what was tested and what was called give what the list says.
use mathlib.Core.Path.{◌≡◌, sym, ◌∙◌}
use Rattle.std.specs.Prelude.{Some, None}
use Rattle.line.specs.Types.{Reading}
use mathlib.Core.Bool.{Bool, true, false}
use mathlib.Core.List.{List}
use Prim.Native.Nat.{ℕ, ◌+◌, ◌*◌}
use borrow.Author.Tests.{eq-eqb, ne_eqb}
use Rattle.line.specs.declared.Action.{Action}
use Rattle.line.specs.declared.Action.TheVariants.{Timeout, Deliver, Exit}
use Rattle.line.specs.declared.Message.{Message}
use Rattle.line.specs.Accepted.{in_range}
use Rattle.octets.specs.Bytes.{word, quad}
use Rattle.fields.specs.Fields.{place_of, Place}
use Rattle.steps.specs.Steps.{malformed, step_for, plain, delivery, step_of, step_at}

-- x is what the call gave
module _ (kind station number : ℕ) (a : Action) where
  pub plain_kind : {x : Reading} → x ≡ malformed → (kind ≡ 0 → ⊥) → x ≡ plain kind station number a
  unfolding plain
  plain_kind e h = e ∙ rw (ne_eqb kind 0 h)

  pub plain_number : {x : Reading} → x ≡ malformed → kind ≡ 0 → (number ≡ 0 → ⊥) → x ≡ plain kind station number a
  unfolding plain
  plain_number e h k = e ∙ rw (eq-eqb kind 0 h, ne_eqb number 0 k)

  pub plain_zero : kind ≡ 0 → number ≡ 0 → step_for station a ≡ plain kind station number a
  unfolding plain
  plain_zero h k = rw (eq-eqb kind 0 h, eq-eqb number 0 k)

-- p is the message place
module _ (kind station number : ℕ) {p : Place} (e : p ≡ place_of kind 0 number) where
  pub delivered : (m : Message) → p ≡ Some m → step_for station (Deliver m) ≡ delivery station (place_of kind 0 number)
  delivered m h = rw (← e, h)

  pub undelivered : p ≡ None → {x : Reading} → x ≡ malformed → x ≡ delivery station (place_of kind 0 number)
  undelivered h q = q ∙ rw (← e, h)

-- t is whether the station is in range
module _ (action kind station number : ℕ) {x : Reading} {t : Bool} (r : t ≡ in_range station) where
  pub out_of_range : t ≡ false → x ≡ malformed → x ≡ step_of action kind station number
  unfolding step_of
  out_of_range h e = e ∙ rw (sym r ∙ h)

  module _ (h : t ≡ true) where
    pub step_timeout : action ≡ 1 → x ≡ plain kind station number Timeout → x ≡ step_of action kind station number
    unfolding step_of
    step_timeout a e = e ∙ rw (sym r ∙ h, eq-eqb action 1 a)

    module _ (a : action ≡ 1 → ⊥) where
      pub step_deliver : action ≡ 2 → x ≡ delivery station (place_of kind 0 number) → x ≡ step_of action kind station number
      unfolding step_of
      step_deliver b e = e ∙ rw (sym r ∙ h, ne_eqb action 1 a, eq-eqb action 2 b)

      module _ (b : action ≡ 2 → ⊥) where
        pub step_exit : action ≡ 3 → x ≡ plain kind station number Exit → x ≡ step_of action kind station number
        unfolding step_of
        step_exit c e = e ∙ rw (sym r ∙ h, ne_eqb action 1 a, ne_eqb action 2 b, eq-eqb action 3 c)

        pub step_other : (action ≡ 3 → ⊥) → x ≡ malformed → x ≡ step_of action kind station number
        unfolding step_of
        step_other c e = e ∙ rw (sym r ∙ h, ne_eqb action 1 a, ne_eqb action 2 b, ne_eqb action 3 c)

pub step_read : (l : List ℕ) (k : ℕ) {x : Reading} {action kind station number : ℕ} → x ≡ step_of action kind station number
    → action ≡ word l (12 * k) → kind ≡ word l (12 * k + 2) → station ≡ quad l (12 * k + 4) → number ≡ quad l (12 * k + 8) → x ≡ step_at l k
unfolding step_at
step_read l k e a b c d = e ∙ rw (a, b, c, d)
