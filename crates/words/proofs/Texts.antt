-- Each text in the pieces in which it is put.
use mathlib.Core.Path.{◌≡◌, ap, ◌∙◌}
use Rattle.std.specs.Prelude.{Some, None}
use Rattle.line.specs.Types.{Neighbour}
use mathlib.Core.Bool.{true, false}
use mathlib.Core.List.{List, [], ◌∷◌, ◌++◌}
use Prim.Native.Nat.{ℕ, ◌+◌, ◌/◌, ◌%◌, ◌^◌, ◌≤◌, ◌<◌}
use native.Mathlib.Omega.{arith}
use lib.ListN.{length, length-append}
use Rattle.line.specs.declared.Content.{Content}
use Rattle.line.specs.declared.Content.TheVariants.{Introduction, RemoveLeft, RemoveRight}
use Rattle.line.specs.declared.Marks.{Marks}
use Rattle.words.specs.Words.{ascii, digit, decimal, neighbour_text, mark_text, content_text}
use Rattle.words.specs.Writing.{Wrote}
use Rattle.words.proofs.Digits.{decimal_last, decimal_longer, ten_digits}
use Rattle.words.proofs.Written.{wrote_length, wrote_next}

module _ {l m : List ℕ} {at r : ℕ} where
  -- a number: below 10 its digit
  pub wrote_last : (n : ℕ) {b : ℕ} → n < 10 → b ≡ digit n → Wrote l at (b ∷ []) r m → Wrote l at (decimal n) r m
  wrote_last n h e w = rw (decimal_last n h, ← e) w

  -- a neighbour
  pub wrote_nobody : (n : Neighbour) → n ≡ None → Wrote l at (ascii "-") r m → Wrote l at (neighbour_text n) r m
  unfolding neighbour_text
  wrote_nobody n e w = rw e w

  pub wrote_station : (n : Neighbour) {k : ℕ} → n ≡ Some k → Wrote l at (decimal k) r m → Wrote l at (neighbour_text n) r m
  unfolding neighbour_text
  wrote_station n e w = rw e w

  -- the marks
  pub wrote_leaving : (s : Marks) → s.leaving ≡ true → Wrote l at (ascii "leave") r m → Wrote l at (mark_text s) r m
  unfolding mark_text
  wrote_leaving s e w = rw e w

  pub wrote_staying : (s : Marks) → s.leaving ≡ false → Wrote l at (ascii "stay") r m → Wrote l at (mark_text s) r m
  unfolding mark_text
  wrote_staying s e w = rw e w

  -- a message
  pub wrote_introduction : (c : Content) {k : ℕ} → c ≡ Introduction k → Wrote l at (ascii "i" ++ decimal k) r m → Wrote l at (content_text c) r m
  unfolding content_text
  wrote_introduction c e w = rw e w

  pub wrote_left : (c : Content) → c ≡ RemoveLeft → Wrote l at (ascii "l") r m → Wrote l at (content_text c) r m
  unfolding content_text
  wrote_left c e w = rw e w

  pub wrote_right : (c : Content) → c ≡ RemoveRight → Wrote l at (ascii "r") r m → Wrote l at (content_text c) r m
  unfolding content_text
  wrote_right c e w = rw e w

module _ {l m o : List ℕ} {at j r : ℕ} where
  -- a number of 10 or more: its tenth part and its last digit
  pub wrote_longer : (n : ℕ) {b : ℕ} → 10 ≤ n → Wrote l at (decimal (n / 10)) j m → b ≡ digit (n % 10) → Wrote m j (b ∷ []) r o → Wrote l at (decimal n) r o
  wrote_longer n h a e b = rw (decimal_longer n h, ← e) (wrote_next a b)

-- the room that a number takes: one digit, or one more than its tenth part, and at most ten
longer : (n : ℕ) → 10 ≤ n → length (decimal n) ≡ length (decimal (n / 10)) + 1
longer n h = ap length (decimal_longer n h) ∙ length-append (decimal (n / 10)) (digit (n % 10) ∷ [])

module _ (n at room : ℕ) where
  pub room_last : n < 10 → at + length (decimal n) ≤ room → at < room
  room_last h r = omega (arith, ap length (decimal_last n h))

  pub room_tenth : 10 ≤ n → at + length (decimal n) ≤ room → at + length (decimal (n / 10)) ≤ room
  room_tenth h r = omega (arith, longer n h)

  pub room_ten : n < 2 ^ 32 → at + 10 ≤ room → at + length (decimal n) ≤ room
  room_ten h r = omega (arith, ten_digits n h)

module _ (n : ℕ) {l m : List ℕ} {at j : ℕ} where
  pub room_behind : 10 ≤ n → at + length (decimal n) ≤ length l → Wrote l at (decimal (n / 10)) j m → j < length m
  room_behind h r w = omega (arith, longer n h, w.ends, wrote_length w)

  pub within_ten : n < 2 ^ 32 → Wrote l at (decimal n) j m → j ≤ at + 10
  within_ten h w = omega (arith, ten_digits n h, w.ends)
