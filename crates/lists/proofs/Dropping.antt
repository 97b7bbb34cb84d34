-- A place taken out of the first n of an array: what stands after it goes one place down, one store at a time, or by turning.
use mathlib.Core.Path.{◌≡◌, refl, sym, ap, ◌∙◌}
use mathlib.Core.List.{List, ◌++◌, append_assoc}
use Prim.Native.Nat.{ℕ, ◌+◌, ◌-◌, ◌≤◌, ◌<◌}
use native.Mathlib.Numerals.{add-one}
use native.Mathlib.Omega.{arith}
use borrow.Rule.Slice.PartMut.{put_mid, mid_of}
use lib.ListN.{length, get_or, take, drop, set, length-set, length-append, length-drop}
use lib.Seq.{take-take, take_at, drop-drop, length-take-le}
use Rattle.std.proofs.lemmas.Slice.{between_is}
use Rattle.lists.specs.Places.{remove_at}
use Rattle.lists.proofs.Shifts.{down, down_end}

module _ {A : Type 0} where
  -- without place j, kept holds what the array held without place i
  pub record Shifted (array : List A) (n i j : ℕ) (kept : List A) : Type 0 where
    pub within : j ≤ n - 1
    pub size : length kept ≡ 64
    pub is : remove_at i (take n array) ≡ remove_at j (take n kept)

  pub shift_none : {array : List A} {n i : ℕ} → i < n → length array ≡ 64 → Shifted array n i i array
  shift_none h e = record { within = omega arith; size = e; is = refl }

  module _ {array kept : List A} {n i j : ℕ} (so_far : Shifted array n i j kept) where
    pub shift_next : j < n - 1 → n ≤ 64 → (d : A) → Shifted array n i (j + 1) (set kept j (get_or kept (j + 1) d))
    shift_next h k d =
        let s = so_far.size in
        let e : n - 1 + 1 ≡ n = omega arith in
        record { within = omega arith; size = simp length-set s; is = so_far.is ∙ rw e at (down (n - 1) kept j d h (omega arith)) }

    pub shift_all : i < n → n ≤ 64 → n - 1 ≤ j → take (n - 1) kept ≡ remove_at i (take n array)
    shift_all g k h =
        let s = so_far.size in
        let w = so_far.within in
        let e : n - 1 + 1 ≡ n = omega arith in
        let l : j ≡ n - 1 = omega arith in
        sym (so_far.is ∙ rw l (rw e at (down_end (n - 1) kept (omega arith))))

-- what stands at i to n - 1 is turned by one place: the last of it is out
pub rotated_away : {A : Type 0} (l : List A) (n i : ℕ) {turned : List A} → i < n → n ≤ length l
    → turned ≡ drop 1 (mid_of i (n - i) l) ++ take 1 (mid_of i (n - i) l) → take (n - 1) (put_mid i (n - i) l turned) ≡ remove_at i (take n l)
unfolding remove_at
rotated_away l n i {turned} h k e =
    let mid = take (n - i) (drop i l) in
    let rest = drop (n - i) (drop i l) in
    let behind : drop 1 mid ≡ drop (i + 1) (take n l) = ap (drop 1) (between_is l i n) ∙ drop-drop 1 i (take n l) in
    let long : length (take i l ++ drop 1 mid) ≡ n - 1 =
    length-append (take i l) (drop 1 mid) ∙ omega (arith, length-take-le i l (omega arith), length-drop 1 mid, length-take-le (n - i) (drop i l) (omega (arith, length-drop i l))) in
    let put : take (n - 1) ((take i l ++ drop 1 mid) ++ (take 1 mid ++ rest)) ≡ take i l ++ drop 1 mid = take_at (take i l ++ drop 1 mid) (take 1 mid ++ rest) (n - 1) long in
    let turns : take (n - 1) (put_mid i (n - i) l turned) ≡ take i l ++ drop 1 mid = rw e (simp append_assoc (simp append_assoc at put)) in
    turns ∙ rw (behind, take-take i n l (omega arith), add-one)
