-- Writing in place. Every writer of the crate says `overwrite`, so one law joins two writers side by side and one frames the rest.
use Rattle.std.proofs.Common.{◌≡◌, ℕ, ◌+◌, ◌-◌, ◌≤◌, List, [], ◌++◌, length, take, drop, sym, ap, ◌∙◌, append_assoc, arith, length-append, take-append-drop, length-take-le, drop-drop, take_at, drop_at}
use borrow.Rule.Slice.PartMut.{put_mid}
use lib.Seq.{sets, sets-eq}
use Rattle.octets.specs.Bytes.{overwrite}

-- stores side by side
pub stored : (vs l : List ℕ) (i : ℕ) → i + length vs ≤ length l → sets l i vs ≡ overwrite i vs l
unfolding overwrite
stored vs l i h = sets-eq vs l i h ∙ append_assoc (take i l) vs (drop (i + length vs) l)

-- a part of a list, from i up to e, replaced by as many elements
pub part_replaced : (i e : ℕ) (vs l : List ℕ) → e ≡ i + length vs → put_mid i (e - i) l vs ≡ overwrite i vs l
unfolding overwrite
part_replaced i e vs l h =
    let n : e - i ≡ length vs = omega arith in
    rw (n, drop-drop (length vs) i l)

-- nothing written
pub overwrite_none : (i : ℕ) (l : List ℕ) → overwrite i [] l ≡ l
unfolding overwrite
overwrite_none i l = let e : i + 0 ≡ i = omega arith in rw (e, take-append-drop)

-- what is written right behind is written with it
pub overwrite_next : (i j : ℕ) (vs ws l : List ℕ) → j ≡ i + length vs → i ≤ length l → overwrite j ws (overwrite i vs l) ≡ overwrite i (vs ++ ws) l
unfolding overwrite
overwrite_next i j vs ws l e h =
    let rest = drop (i + length vs) l in
    let n : length (take i l ++ vs) ≡ j = omega (arith, length-append (take i l) vs, length-take-le i l h) in
    let k : (i + length vs) + length ws ≡ i + length (vs ++ ws) = omega (arith, length-append vs ws) in
    let d : drop (j + length ws) ((take i l ++ vs) ++ rest) ≡ drop (i + length (vs ++ ws)) l =
    sym (drop-drop (length ws) j ((take i l ++ vs) ++ rest)) ∙ ap (drop (length ws)) (drop_at (take i l ++ vs) rest j n) ∙ drop-drop (length ws) (i + length vs) l ∙ ap (λ (m : ℕ). drop m l) k in
    rw (← append_assoc (take i l) vs rest, take_at (take i l ++ vs) rest j n, d) (simp append_assoc)

-- the seam of two lists: what stands before it stays
pub overwrite_at : (i : ℕ) (vs p q : List ℕ) → length p ≡ i → overwrite i vs (p ++ q) ≡ p ++ (vs ++ drop (length vs) q)
unfolding overwrite
overwrite_at i vs p q e =
    let rest : drop (i + length vs) (p ++ q) ≡ drop (length vs) q = sym (drop-drop (length vs) i (p ++ q)) ∙ ap (drop (length vs)) (drop_at p q i e) in
    rw (take_at p q i e, rest)
