-- A message's content, to the numbers that say it, and back.
use mathlib.Core.Path.{◌≡◌, refl, sym}
use Rattle.std.specs.Prelude.{Some, None}
use mathlib.Core.Bool.{Bool, true, false, cond}
use Prim.Native.Nat.{ℕ, ◌<◌}
use native.Mathlib.Omega.{arith}
use borrow.Author.Tests.{eqb-true}
use lib.Dec.{eqb}
use Rattle.line.specs.declared.Content.{Content}
use Rattle.line.specs.declared.Content.TheVariants.{Introduction, RemoveLeft, RemoveRight}
use Rattle.line.specs.declared.Message.{Message}
use Rattle.line.specs.Message.{kind, carried}
use Rattle.line.specs.Accepted.{in_range}
use Rattle.line.proofs.AcceptedTest.{in_range_lem}
use Rattle.fields.specs.Fields.{place_of, is_good, message_of, Place}

-- an introduction's number is in range
abbrev pub Introduces : Content → Type 0
Introduces t = (q : ℕ) → t ≡ Introduction q → in_range q ≡ true

pub content_back : (t : Content) → Introduces t → place_of (kind t) 0 (carried t) ≡ Some (record { content = t })
unfolding place_of
content_back (Introduction n) h = rw (h n refl)
content_back RemoveLeft h = refl
content_back RemoveRight h = refl

pub kind_low : (t : Content) → kind t < 65536
kind_low (Introduction n) = omega arith
kind_low RemoveLeft = omega arith
kind_low RemoveRight = omega arith

pub carried_low : (t : Content) → Introduces t → carried t < 4294967296
carried_low (Introduction n) h = let r = (in_range_lem n).0 (h n refl) in omega arith
carried_low RemoveLeft h = omega arith
carried_low RemoveRight h = omega arith

-- A good place says its kind, a gap of zero and its number, which is in range where it is introduced.
pub record Says (k gap n : ℕ) (m : Message) : Type 0 where
  pub kind_is : kind m.content ≡ k
  pub gap_is : gap ≡ 0
  pub number_is : carried m.content ≡ n
  pub ranged : Introduces m.content

never : ◌≡◌ {A = Bool} false true → ⊥
never h = let z : ◌≡◌ {A = ℕ} 0 1 = cc in omega arith

introduces_left : Introduces RemoveLeft
introduces_left q e = let z : ◌≡◌ {A = ℕ} 0 1 = cc in absurd (omega arith)

introduces_right : Introduces RemoveRight
introduces_right q e = let z : ◌≡◌ {A = ℕ} 0 1 = cc in absurd (omega arith)

introduces_number : (n : ℕ) → in_range n ≡ true → Introduces (Introduction n)
introduces_number n h q e = let same : n ≡ q = cc in rw same at h

-- what the tests of a place pick
abbrev picked : ℕ → Bool → Bool → Bool → Bool → Bool → Bool → Place
picked n g one fits none two three =
    cond g
    (cond one (cond fits (Some (record { content = Introduction n })) None)
    (cond none (cond two (Some (record { content = RemoveLeft })) (cond three (Some (record { content = RemoveRight })) None)) None))
    None

picked_says : (k gap n : ℕ) (g one fits none two three : Bool) → eqb gap 0 ≡ g → eqb k 1 ≡ one → in_range n ≡ fits → eqb n 0 ≡ none → eqb k 2 ≡ two → eqb k 3 ≡ three
    → is_good (picked n g one fits none two three) ≡ true → Says k gap n (message_of (picked n g one fits none two three))
picked_says k gap n true true true none two three eg e1 ef e0 e2 e3 h =
    record { kind_is = sym (eqb-true k 1 e1); gap_is = eqb-true gap 0 eg; number_is = refl; ranged = introduces_number n ef }
picked_says k gap n true false fits true true three eg e1 ef e0 e2 e3 h =
    record { kind_is = sym (eqb-true k 2 e2); gap_is = eqb-true gap 0 eg; number_is = sym (eqb-true n 0 e0); ranged = introduces_left }
picked_says k gap n true false fits true false true eg e1 ef e0 e2 e3 h =
    record { kind_is = sym (eqb-true k 3 e3); gap_is = eqb-true gap 0 eg; number_is = sym (eqb-true n 0 e0); ranged = introduces_right }
picked_says k gap n true true false none two three eg e1 ef e0 e2 e3 h = absurd (never h)
picked_says k gap n true false fits true false false eg e1 ef e0 e2 e3 h = absurd (never h)
picked_says k gap n true false fits false two three eg e1 ef e0 e2 e3 h = absurd (never h)
picked_says k gap n false one fits none two three eg e1 ef e0 e2 e3 h = absurd (never h)

pub place_says : (k gap n : ℕ) → is_good (place_of k gap n) ≡ true → Says k gap n (message_of (place_of k gap n))
unfolding place_of
place_says k gap n h = picked_says k gap n (eqb gap 0) (eqb k 1) (in_range n) (eqb n 0) (eqb k 2) (eqb k 3) refl refl refl refl refl refl h
