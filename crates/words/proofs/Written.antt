-- The writers side by side: what is put right behind a text stands in one text with it. Each law takes what the writers before it leave.
use mathlib.Core.Path.{◌≡◌, refl, sym, ap, ◌∙◌}
use mathlib.Core.List.{List, [], ◌∷◌, ◌++◌}
use Prim.Native.Nat.{ℕ, ◌+◌, ◌-◌, ◌≤◌, ◌<◌}
use native.Mathlib.Omega.{arith}
use lib.ListN.{length, drop, set, length-append, length-drop}
use lib.Seq.{length-take-le}
use Rattle.octets.specs.Bytes.{overwrite}
use borrow.Rule.Slice.PartMut.{put_mid}
use Rattle.octets.proofs.Overwritten.{stored, part_replaced, overwrite_none, overwrite_next}
use Rattle.words.specs.Writing.{Wrote}

-- nothing yet
pub wrote_none : {l : List ℕ} {i : ℕ} → i ≤ length l → Wrote l i [] i l
wrote_none {l} {i} h = record { ends = omega arith; fits = h; holds = sym (overwrite_none i l) }

-- one byte
pub wrote_byte : (l : List ℕ) (i b : ℕ) → i < length l → Wrote l i (b ∷ []) (i + 1) (set l i b)
wrote_byte l i b h = record { ends = refl; fits = omega arith; holds = stored (b ∷ []) l i (omega arith) }

-- a word, over as many bytes
pub wrote_word : (l : List ℕ) (i : ℕ) (w : List ℕ) {v : List ℕ} → i + length w ≤ length l → v ≡ w → Wrote l i w (i + length w) (put_mid i (i + length w - i) l v)
wrote_word l i w h e = record { ends = refl; fits = h; holds = rw e (part_replaced i (i + length w) w l refl) }

-- the room stays as long as it was
pub wrote_length : {l m t : List ℕ} {i k : ℕ} → Wrote l i t k m → length m ≡ length l
unfolding overwrite
wrote_length {l} {m} {t} {i} {k} a =
    let e = a.ends in
    let f = a.fits in
    ap length a.holds ∙ simp length-append (omega (arith, length-take-le i l (omega arith), length-drop (i + length t) l))

-- one text behind another
pub wrote_next : {l m n t u : List ℕ} {i j k : ℕ} → Wrote l i t j m → Wrote m j u k n → Wrote l i (t ++ u) k n
wrote_next {l} {m} {n} {t} {u} {i} {j} {k} a b =
    record {
      ends = omega (arith, length-append t u, a.ends, b.ends);
      fits = omega (arith, wrote_length a, b.fits);
      holds = b.holds ∙ ap (overwrite j u) a.holds ∙ overwrite_next i j t u l a.ends (omega (arith, a.ends, a.fits));
    }

-- what stands at the room's start: its bytes, then the rest as it was
module _ {l m t : List ℕ} {k : ℕ} (a : Wrote l 0 t k m) where
  pub first_size : k ≡ length t
  first_size = omega (arith, a.ends)

  pub first_bytes : m ≡ t ++ drop k l
  unfolding overwrite
  first_bytes = rw (← a.ends) at a.holds
