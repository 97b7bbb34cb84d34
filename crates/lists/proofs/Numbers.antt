-- Numbers in rising order: what the tests of one number after another say of the whole list.
use mathlib.Core.Path.{◌≡◌, refl, sym, ap, ◌∙◌}
use mathlib.Core.Bool.{Bool, true, false, cond}
use mathlib.Core.Logic.{◌↔◌, ⊎_elim}
use mathlib.Core.List.Memᴰ
use mathlib.Core.List.Memᴰ.{head as here}
use mathlib.Core.List.{List, [], ◌∷◌, Memᴰ as Member}
use Prim.Native.Nat.{ℕ, zero, suc, ◌+◌, ◌≤◌, ◌<◌}
use native.Mathlib.Nat.{le_of_suc-le-suc, not-suc-le-zero}
use native.Mathlib.Omega.{arith}
use lib.Dec.{eqb, ltb}
use lib.ListN.{length, get_or, drop}
use borrow.Author.Tests.{ltb-true, lt-ltb, le-ltb, eqb-true, eq-eqb, ne_eqb}
use Rattle.lists.specs.Lists.{any}
use Rattle.lists.specs.Numbers.{Rising, rises}
use Rattle.lists.proofs.Lists.{and_both, both_and, any_true, true_any}
use Rattle.lists.specs.Places.{first_at}
use Rattle.lists.proofs.Firsts.{any_first}
use Rattle.lists.proofs.Elements.{drop_one, member_at}

-- The test says that the numbers rise, and the other way round.
pub rises_rising : (l : List ℕ) → rises l ≡ true → Rising l
unfolding rises
rises_rising [] e = tt
rises_rising (x ∷ []) e = (λ k m. absurd (Memᴰ.not-nil m), tt)
rises_rising (x ∷ y ∷ l) e =
    let h = and_both (ltb x y) (rises (y ∷ l)) e in
    let below = ltb-true x y h.0 in
    let r = rises_rising (y ∷ l) h.1 in
    (λ k m. ⊎_elim (λ (p : k ≡ y). omega arith) (λ (p : Member k l). omega (arith, r.0 k p)) (Memᴰ.cases_cons m), r)

pub rising_rises : (l : List ℕ) → Rising l → rises l ≡ true
unfolding rises
rising_rises [] r = refl
rising_rises (x ∷ []) r = refl
rising_rises (x ∷ y ∷ l) r = both_and (lt-ltb x y (r.0 y (here refl))) (rising_rises (y ∷ l) r.1)

pub rising_at : (l : List ℕ) (i j : ℕ) → Rising l → i < j → j < length l → get_or l i 0 < get_or l j 0
rising_at [] i j r h k = absurd (not-suc-le-zero k)
rising_at (x ∷ l) i zero r h k = absurd (not-suc-le-zero h)
rising_at (x ∷ l) zero (suc j) r h k = r.0 (get_or l j 0) (member_at l j 0 (le_of_suc-le-suc k))
rising_at (x ∷ l) (suc i) (suc j) r h k = rising_at l i j r.1 (le_of_suc-le-suc h) (le_of_suc-le-suc k)

-- One pair after another, or one pair that does not rise.
pub rises_pairs : (l : List ℕ) → ((k : ℕ) → suc k < length l → get_or l k 0 < get_or l (suc k) 0) → rises l ≡ true
unfolding rises
rises_pairs [] h = refl
rises_pairs (x ∷ []) h = refl
rises_pairs (x ∷ y ∷ l) h = both_and (lt-ltb x y (h 0 (omega arith))) (rises_pairs (y ∷ l) (λ k b. h (suc k) (omega arith)))

pub rises_fails : (l : List ℕ) (k : ℕ) → k + 1 < length l → get_or l (k + 1) 0 ≤ get_or l k 0 → rises l ≡ false
rises_fails l k h e = go (rises l) refl
  where
    go : (b : Bool) → rises l ≡ b → b ≡ false
    go true r = absurd (omega (arith, rising_at l k (k + 1) (rises_rising l r) (omega arith) h))
    go false r = refl

-- The first that equals q: at its place, or nowhere.
module _ (q : ℕ) where
  pub first_at_lem : (l : List ℕ) (i : ℕ) → Rising l → i < length l → get_or l i 0 ≡ q → first_at (eqb q) l ≡ i
  unfolding first_at
  first_at_lem [] i r h e = absurd (not-suc-le-zero h)
  first_at_lem (x ∷ l) zero r h e = rw (eq-eqb q x (sym e))
  first_at_lem (x ∷ l) (suc i) r h e =
      let above = r.0 (get_or l i 0) (member_at l i 0 (le_of_suc-le-suc h)) in
      rw (ne_eqb q x (λ (p : q ≡ x). omega arith), first_at_lem l i r.1 (le_of_suc-le-suc h) e)

  pub first_none : (l : List ℕ) → ((k : ℕ) → k < length l → get_or l k 0 ≡ q → ⊥) → first_at (eqb q) l ≡ length l
  unfolding first_at
  first_none [] h = refl
  first_none (x ∷ l) h = rw (ne_eqb q x (λ (p : q ≡ x). h 0 (omega arith) (sym p)), first_none l (λ k b e. h (suc k) (omega arith) e))

-- A number is in a list exactly when one of its numbers equals it, so exactly when the place found is below the length; there it stands.
module _ (l : List ℕ) (q : ℕ) where
  pub listed : any (eqb q) l ≡ true → Member q l
  listed e = let w = any_true (eqb q) l e in Memᴰ.cast (eqb-true q w.0 w.2) w.1

  pub found_member : (first_at (eqb q) l < length l) ↔ Member q l
  found_member = (
    λ h. listed (any_first (eqb q) l ∙ lt-ltb (first_at (eqb q) l) (length l) h),
    λ m. ltb-true (first_at (eqb q) l) (length l) (sym (any_first (eqb q) l) ∙ true_any (eqb q) m (eq-eqb q q refl)),
  )

pub found_there : (l : List ℕ) (q : ℕ) → first_at (eqb q) l < length l → get_or l (first_at (eqb q) l) 0 ≡ q
unfolding first_at
found_there [] q h = absurd (not-suc-le-zero h)
found_there (x ∷ l) q h = go (eqb q x) refl (found_there l q) h
  where
    go : (b : Bool) → eqb q x ≡ b → (first_at (eqb q) l < length l → get_or l (first_at (eqb q) l) 0 ≡ q) → cond b 0 (suc (first_at (eqb q) l)) < suc (length l)
        → get_or (x ∷ l) (cond b 0 (suc (first_at (eqb q) l))) 0 ≡ q
    go true e r k = sym (eqb-true q x e)
    go false e r k = r (le_of_suc-le-suc k)

-- Halving: if q stands anywhere, it stands at one of these places.
abbrev pub Within : List ℕ → ℕ → ℕ → ℕ → Type 0
Within l q low size = (k : ℕ) → k < length l → get_or l k 0 ≡ q → (low ≤ k) × (k < low + size)

module _ (l : List ℕ) (q low size half : ℕ) (r : Rising l) (w : Within l q low size) (h : low + half < length l) where
  pub upper_half : (left : ℕ) → left + half ≡ size → get_or l (low + half) 0 ≤ q → Within l q (low + half) left
  upper_half left p e k b f =
      let at = w k b f in
      let not-below : k < low + half → ⊥ = λ below. omega (arith, rising_at l k (low + half) r below h) in
      omega (arith, not-below)

  pub lower_half : (left : ℕ) → half ≤ left → q < get_or l (low + half) 0 → Within l q low left
  lower_half left p e k b f =
      let at = w k b f in
      let not_above : low + half < k → ⊥ = λ above. omega (arith, rising_at l (low + half) k r above b) in
      let not_there : low + half ≡ k → ⊥ = λ (there : low + half ≡ k). let z : get_or l (low + half) 0 ≡ get_or l k 0 = ap (λ (n : ℕ). get_or l n 0) there in omega arith in
      omega (arith, not_above, not_there)
