-- The test of a message place says what document 01 says of it.
use Prim.Native.Nat.{ℕ}
use mathlib.Core.Path.{◌≡◌, refl, sym}
use mathlib.Core.Logic.{◌⊎◌, inl, inr}
use mathlib.Core.Bool.{true}
use Rattle.line.specs.declared.Content.{Content}
use Rattle.line.specs.declared.Content.TheVariants.{Introduction, RemoveLeft, RemoveRight}
use Rattle.line.specs.Message.{kind, carried}
use Rattle.line.proofs.AcceptedTest.{in_range_lem}
use Rattle.fields.specs.Fields.{place_of, is_good, message_of}
use Rattle.fields.specs.Claims.{Ranged, IsMessage, PlaceTested}
use Rattle.fields.proofs.Contents.{Introduces, place_says}

-- what a good place says of its content
said : (k n : ℕ) (c : Content) → kind c ≡ k → carried c ≡ n → Introduces c → ((k ≡ 1) × Ranged n) ⊎ (((k ≡ 2) ⊎ (k ≡ 3)) × (n ≡ 0))
said k n (Introduction q) e f r = inl (sym e, rw (sym f) ((in_range_lem q).0 (r q refl)))
said k n RemoveLeft e f r = inr (inl (sym e), sym f)
said k n RemoveRight e f r = inr (inr (sym e), sym f)

pub good_message : (k gap n : ℕ) → is_good (place_of k gap n) ≡ true → IsMessage k gap n
good_message k gap n h =
    let s = place_says k gap n h in
    (s.gap_is, said k n (message_of (place_of k gap n)).content s.kind_is s.number_is s.ranged)

pub message_good : (k gap n : ℕ) → IsMessage k gap n → is_good (place_of k gap n) ≡ true
unfolding place_of
message_good k gap n (z, inl (one, r)) = rw (z, one, (in_range_lem n).1 r)
message_good k gap n (z, inr (inl two, none)) = rw (z, two, none)
message_good k gap n (z, inr (inr three, none)) = rw (z, three, none)

pub place_tested : PlaceTested
place_tested k gap n = (good_message k gap n, message_good k gap n)
