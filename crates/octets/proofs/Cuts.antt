-- A list met from the front, one element at a time: what stands from an index on, and between two indices.
use Rattle.std.proofs.Common.{◌≡◌, ℕ, suc, ◌+◌, ◌-◌, ◌<◌, ◌≤◌, ◌&&◌, eqb, List, [], ◌∷◌, length, get_or, arith}
use Rattle.lists.proofs.Elements.{drop_one}
use Rattle.octets.specs.Bytes.{part, all_zero}

-- the part from i to e is the byte at i, then the part from i + 1 to e
part_one : (l : List ℕ) (i e : ℕ) → i < e → e ≤ length l → part l i e ≡ get_or l i 0 ∷ part l (i + 1) e
part_one l i e h k =
    let below : i < length l = omega arith in
    let next : e - i ≡ suc (e - (i + 1)) = omega arith in
    rw (drop_one l 0 i below, next)

-- so is the test for zero bytes; a part that ends where it starts, or before, is empty
pub zero_one : (l : List ℕ) (i e : ℕ) → i < e → e ≤ length l → all_zero (part l i e) ≡ (eqb (get_or l i 0) 0 && all_zero (part l (i + 1) e))
unfolding all_zero
zero_one l i e h k = rw (part_one l i e h k)

pub zero_none : (l : List ℕ) (i e : ℕ) → e ≤ i → all_zero (part l i e) ≡ all_zero []
zero_none l i e h = let none : e - i ≡ 0 = omega arith in rw none
