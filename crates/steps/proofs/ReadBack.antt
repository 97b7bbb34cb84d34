-- A step written and read, and read and written.
use Prim.Native.Nat.{ℕ, ◌<◌}
use Rattle.std.specs.Prelude.{Some, None, Ok}
use Rattle.line.specs.Types.{Reading}
use mathlib.Core.Path.{◌≡◌, refl, sym, ap, ◌∙◌, subst}
use mathlib.Core.Bool.{Bool, true, false, cond, ◌&&◌}
use mathlib.Core.List.{List, [], ◌++◌}
use native.Mathlib.Omega.{arith}
use borrow.Author.Tests.{eqb-true}
use lib.Dec.{eqb}
use lib.ListN.{length, drop, drop_of_length-le}
use Rattle.line.specs.declared.Content.{Content}
use Rattle.line.specs.declared.Content.TheVariants.{Introduction, RemoveLeft, RemoveRight}
use Rattle.line.specs.declared.Action.{Action}
use Rattle.line.specs.declared.Action.TheVariants.{Timeout, Deliver, Exit}
use Rattle.line.specs.declared.Step as declared
use Rattle.line.specs.Accepted.{in_range}
use Rattle.line.proofs.AcceptedTest.{in_range_lem}
use Rattle.octets.specs.Bytes.{word, quad, le16, le32, AreBytes}
use Rattle.octets.proofs.Both.{and_left, and_right}
use Rattle.octets.proofs.Endian.{word_written, quad_written, word_read, quad_read}
use Rattle.fields.specs.Fields.{place_of, is_good, Place}
use Rattle.fields.proofs.Contents.{Introduces, content_back, kind_low, carried_low, Says, place_says}
use Rattle.steps.specs.Steps.{malformed, step_for, plain, delivery, step_of, step_at, action_number, kind_beside, number_beside, step_bytes}
use Rattle.steps.specs.Claims.{content_holds, action_holds, well_formed, StepReadsBack, StepWrittenBack}

-- the test of a content says that its introduction is in range, and back
content_ranged : (t : Content) → content_holds t ≡ true → Introduces t
content_ranged t h q e = rw e at h

ranged_content : (t : Content) → Introduces t → content_holds t ≡ true
ranged_content (Introduction n) h = h n refl
ranged_content RemoveLeft h = refl
ranged_content RemoveRight h = refl

-- The numbers that say an action fit their fields, and are read as the action.
kind_fits : (a : Action) → kind_beside a < 65536
kind_fits Timeout = omega arith
kind_fits (Deliver m) = kind_low m.content
kind_fits Exit = omega arith

action_fits : (a : Action) → action_number a < 65536
action_fits Timeout = omega arith
action_fits (Deliver m) = omega arith
action_fits Exit = omega arith

number_fits : (a : Action) → action_holds a ≡ true → number_beside a < 4294967296
number_fits Timeout h = omega arith
number_fits (Deliver m) h = carried_low m.content (content_ranged m.content h)
number_fits Exit h = omega arith

action_back : (n : ℕ) (a : Action) → in_range n ≡ true → action_holds a ≡ true → step_of (action_number a) (kind_beside a) n (number_beside a) ≡ step_for n a
unfolding step_of plain
action_back n Timeout r h = rw r
action_back n (Deliver m) r h = rw (r, content_back m.content (content_ranged m.content h))
action_back n Exit r h = rw r

pub step_reads_back : StepReadsBack
unfolding step_at step_bytes
step_reads_back x h =
    let n = x.station in
    let a = x.action in
    let ranged = and_left (in_range n) (action_holds a) h in
    let holds = and_right (in_range n) (action_holds a) h in
    let number = (in_range_lem n).0 ranged in
    let last = le32 (number_beside a) in
    let to-station = le16 (action_number a) ++ le16 (kind_beside a) in
    let one : word (step_bytes x) 0 ≡ action_number a = word_written (action_number a) 0 [] (le16 (kind_beside a) ++ (le32 n ++ last)) refl (action_fits a) in
    let two : word (step_bytes x) 2 ≡ kind_beside a = word_written (kind_beside a) 2 (le16 (action_number a)) (le32 n ++ last) refl (kind_fits a) in
    let three : quad (step_bytes x) 4 ≡ n = quad_written n 4 to-station last refl (omega arith) in
    let four : quad (step_bytes x) 8 ≡ number_beside a = quad_written (number_beside a) 8 (to-station ++ le32 n) [] refl (number_fits a holds) in
    (λ i. step_of (one i) (two i) (three i) (four i)) ∙ action_back n a ranged holds

-- The fields that are read as a step are those that it is written as.
record Told (action kind station number : ℕ) (x : declared.Step) : Type 0 where
  action_is : action_number x.action ≡ action
  kind_is : kind_beside x.action ≡ kind
  station_is : x.station ≡ station
  number_is : number_beside x.action ≡ number
  holds : well_formed x ≡ true

module _ (action kind station number : ℕ) where
  abbrev Tells : Reading → Type 0
  Tells r = (x : declared.Step) → r ≡ Ok x → Told action kind station number x

  none_told : Tells malformed
  none_told x e = let z : ◌≡◌ {A = ℕ} 0 1 = cc in absurd (omega arith)

  module _ (ranged : in_range station ≡ true) where
    made : (a : Action) → action_number a ≡ action → kind_beside a ≡ kind → number_beside a ≡ number → action_holds a ≡ true → Tells (step_for station a)
    made a i k n h x e =
        let y : declared.Step = record { station = station; action = a } in
        let same : y ≡ x = cc in
        let told : Told action kind station number y = record { action_is = i; kind_is = k; station_is = refl; number_is = n; holds = rw (ranged, h) } in
        subst (λ (z : declared.Step). Told action kind station number z) same told

    plain_tells : (a : Action) → action_number a ≡ action → kind_beside a ≡ 0 → number_beside a ≡ 0 → action_holds a ≡ true → Tells (plain kind station number a)
    unfolding plain
    plain_tells a i k n h = go (eqb kind 0) (eqb number 0) refl refl
      where
        go : (s t : Bool) → eqb kind 0 ≡ s → eqb number 0 ≡ t → Tells (cond (s && t) (step_for station a) malformed)
        go true true p q = made a i (k ∙ sym (eqb-true kind 0 p)) (n ∙ sym (eqb-true number 0 q)) h
        go true false p q = none_told
        go false t p q = none_told

    delivery_tells : 2 ≡ action → (p : Place) → place_of kind 0 number ≡ p → Tells (delivery station p)
    delivery_tells i (Some m) e =
        let says : Says kind 0 number m = rw e at (place_says kind 0 number (ap is_good e)) in
        made (Deliver m) i says.kind_is says.number_is (ranged_content m.content says.ranged)
    delivery_tells i None e = none_told

  step_tells : Tells (step_of action kind station number)
  unfolding step_of
  step_tells = go (in_range station) (eqb action 1) (eqb action 2) (eqb action 3) refl refl refl refl
    where
      go : (r one two three : Bool) → in_range station ≡ r → eqb action 1 ≡ one → eqb action 2 ≡ two → eqb action 3 ≡ three
          → Tells (cond r (cond one (plain kind station number Timeout) (cond two (delivery station (place_of kind 0 number)) (cond three (plain kind station number Exit) malformed))) malformed)
      go true true two three r a b c = plain_tells r Timeout (sym (eqb-true action 1 a)) refl refl refl
      go true false true three r a b c = delivery_tells r (sym (eqb-true action 2 b)) (place_of kind 0 number) refl
      go true false false true r a b c = plain_tells r Exit (sym (eqb-true action 3 c)) refl refl refl
      go true false false false r a b c = none_told
      go false one two three r a b c = none_told

-- 12 bytes are the four fields that they say
fields_read : (l : List ℕ) → AreBytes l → length l ≡ 12 → le16 (word l 0) ++ (le16 (word l 2) ++ (le32 (quad l 4) ++ le32 (quad l 8))) ≡ l
fields_read l bytes size =
    let end : drop 12 l ≡ [] = drop_of_length-le l {i = 12} (omega arith) in
    let last : le32 (quad l 8) ≡ drop 8 l = rw end at (quad_read l 8 (omega arith) bytes) in
    rw (last, quad_read l 4 (omega arith) bytes, word_read l 2 (omega arith) bytes) (word_read l 0 (omega arith) bytes)

pub step_written_back : StepWrittenBack
unfolding step_at step_bytes
step_written_back l x bytes size e =
    let t = step_tells (word l 0) (word l 2) (quad l 4) (quad l 8) x e in
    (t.holds, (λ i. le16 (t.action_is i) ++ (le16 (t.kind_is i) ++ (le32 (t.station_is i) ++ le32 (t.number_is i)))) ∙ fields_read l bytes size)
