-- Whether some counted place of a block holds a message that passes a test, the places asked one after another.
use Prim.Native.Nat.{ℕ, zero, suc, ◌+◌, ◌<◌}
use mathlib.Core.Path.{◌≡◌, refl, sym, ap, ◌∙◌}
use mathlib.Core.Logic.{⊎_elim}
use mathlib.Core.Bool.{Bool, true, false, ◌||◌, or-false, or-true}
use mathlib.Core.List.{List, [], ◌∷◌}
use native.Mathlib.Nat.{le_of_suc-le-suc, not-suc-le-zero, eq-or-lt_of_le}
use native.Mathlib.Numerals.{add-one}
use Rattle.lists.specs.Lists.{any}
use Rattle.lists.proofs.Lists.{any_append}
use Rattle.line.specs.declared.Message.{Message}
use Rattle.fields.specs.Fields.{message_of, Place}
use Rattle.block.specs.Layout.{place_at, messages}

-- Whether some of the first n messages passes a test.
module _ (f : Message → Bool) (b : List ℕ) where
  pub any_suc : (n : ℕ) → any f (messages b (suc n)) ≡ (any f (messages b n) || f (message_of (place_at b n)))
  unfolding messages any
  any_suc n = any_append f (messages b n) (message_of (place_at b n) ∷ []) ∙ ap (λ (t : Bool). any f (messages b n) || t) (or-false (f (message_of (place_at b n))))

  any_found : (i n : ℕ) → i < n → f (message_of (place_at b i)) ≡ true → any f (messages b n) ≡ true
  any_found i zero h e = absurd (not-suc-le-zero h)
  any_found i (suc n) h e =
      any_suc n
      ∙ ⊎_elim
      (λ (p : i ≡ n). rw (← p, e, or-true))
      (λ (p : i < n). rw (any_found i n p e))
      (eq-or-lt_of_le (le_of_suc-le-suc h))

-- The places are asked one after another: none yet; place i, whose message m has the answer t.
module _ (f : Message → Bool) (b : List ℕ) where
  pub none_yet : any f (messages b 0) ≡ false
  unfolding messages any
  none_yet = refl

  module _ (i : ℕ) {x : Place} (read : x ≡ place_at b i) {m : Message} (is : m ≡ message_of x) {t : Bool} (tells : t ≡ f m) where
    here : f (message_of (place_at b i)) ≡ t
    here = sym (rw (is, read) at tells)

    pub none_next : any f (messages b i) ≡ false → t ≡ false → any f (messages b (i + 1)) ≡ false
    none_next none e = rw (add-one i, any_suc f b i, none, here, e)

    pub one_found : (n : ℕ) → i < n → t ≡ true → true ≡ any f (messages b n)
    one_found n h e = sym (any_found f b i n h (here ∙ e))
