-- Entries one by one: the number of each, and whether each number is below the next.
use Prim.Native.Nat.{ℕ, suc, ◌+◌, ◌/◌, ◌<◌}
use mathlib.Core.Path.{◌≡◌, refl, sym}
use mathlib.Core.Bool.{Bool, true, false}
use mathlib.Core.List.{List}
use native.Mathlib.Numerals.{add-one}
use native.Mathlib.Omega.{arith}
use lib.Dec.{eqb, ltb}
use lib.ListN.{length, get_or, length-map, get_or-map}
use Rattle.std.specs.List.{IsAllAdjacentAnswer}
use Rattle.lists.specs.Lists.{any}
use Rattle.lists.specs.Places.{first_at}
use Rattle.lists.specs.Numbers.{rises}
use Rattle.lists.proofs.Firsts.{any_first}
use Rattle.lists.proofs.Numbers.{rises_pairs, rises_fails}
use Rattle.index.specs.Index.{number_in, numbers_in, entry, slot_in}
use borrow.Author.Tests.{lt-ltb, ltb-true, le-ltb, ltb-false}

pub numbers_length : (index : List ℕ) → length (numbers_in index) ≡ length index
numbers_length index = length-map index number_in

pub number_at : (index : List ℕ) (i : ℕ) → get_or (numbers_in index) i 0 ≡ number_in (get_or index i 0)
number_at index i = get_or-map number_in index i 0

-- the answer about each entry and the next is the one about all numbers
pub numbers_rise : (index : List ℕ) (r : Bool) → IsAllAdjacentAnswer (λ (x y : ℕ) (b : Bool). b ≡ ltb (x / 64) (y / 64)) index r → r ≡ rises (numbers_in index)
numbers_rise index true pairs =
    let below : (k : ℕ) → suc k < length (numbers_in index) → get_or (numbers_in index) k 0 < get_or (numbers_in index) (suc k) 0 = λ k h.
    omega (arith, number_at index k, number_at index (suc k), ltb-true _ _ (sym (rw add-one at (pairs k 0 (omega (arith, numbers_length index)))))) in
    sym (rises_pairs (numbers_in index) below)
numbers_rise index false (k, h, pair) =
    sym (rises_fails (numbers_in index) k (omega (arith, numbers_length index)) (omega (arith, number_at index k, number_at index (k + 1), ltb-false _ _ (sym (pair 0)))))

-- a number is listed exactly when it is found below the length
pub is_listed : (index : List ℕ) (q : ℕ) {r : ℕ} → r ≡ first_at (eqb q) (numbers_in index) → ltb r (length index) ≡ any (eqb q) (numbers_in index)
is_listed index q e = rw (e, ← numbers_length index) (sym (any_first (eqb q) (numbers_in index)))

-- of two entries that with the later slot is below exactly when its number is
pub entry_below : (m x n y : ℕ) → x < y → y < 64 → ltb (entry n y) (entry m x) ≡ ltb n m
entry_below m x n y h k = go (ltb n m) refl
  where
    go : (b : Bool) → ltb n m ≡ b → ltb (entry n y) (entry m x) ≡ b
    go true e = lt-ltb (entry n y) (entry m x) (omega (arith, ltb-true n m e))
    go false e = le-ltb (entry n y) (entry m x) (omega (arith, ltb-false n m e))

pub entry_number : (n k : ℕ) → k < 64 → number_in (entry n k) ≡ n
entry_number n k h = omega arith

pub entry_slot : (n k : ℕ) → k < 64 → slot_in (entry n k) ≡ k
entry_slot n k h = omega arith
