-- Looking a station number up by halving: if it stands anywhere, it stands at one of the entries that are left.
use Prim.Native.Nat.{ℕ, ◌+◌, ◌-◌, ◌*◌, ◌/◌, ◌≤◌, ◌<◌}
use mathlib.Core.Path.{◌≡◌, refl, sym, ap, ◌∙◌}
use mathlib.Core.List.{List}
use native.Mathlib.Omega.{arith}
use lib.Dec.{eqb}
use lib.ListN.{length, get_or}
use Rattle.lists.specs.Places.{first_at}
use Rattle.lists.specs.Numbers.{Rising}
use Rattle.lists.proofs.Numbers.{Within, upper_half, lower_half, first_at_lem, first_none}
use Rattle.index.specs.Index.{numbers_in}
use Rattle.index.proofs.Entries.{numbers_length, number_at}

pub record Halved (index : List ℕ) (q low lowest size : ℕ) : Type 0 where
  pub inside : low + size ≤ length index
  pub some : 1 ≤ size
  pub at : lowest ≡ get_or index low 0
  pub only : Within (numbers_in index) q low size

pub halved_none : (index : List ℕ) (q : ℕ) → length index ≡ 0 → 0 ≡ first_at (eqb q) (numbers_in index)
halved_none index q e = sym (first_none q (numbers_in index) (λ k b f. omega (arith, numbers_length index)) ∙ numbers_length index ∙ e)

pub halved_all : (index : List ℕ) (q : ℕ) → (length index ≡ 0 → ⊥) → Halved index q 0 (get_or index 0 0) (length index)
halved_all index q h = record { inside = omega arith; some = omega (arith, h); at = refl; only = λ k b e. (omega arith, omega (arith, numbers_length index)) }

module _ {index : List ℕ} {q low lowest size : ℕ} (left : Halved index q low lowest size) (up : Rising (numbers_in index)) (h : 1 < size) where
  -- the entry in the middle is that of a number up to q, or of one above
  pub halved_upper : get_or index (low + size / 2) 0 ≤ 64 * q + 63 → {low' lowest' : ℕ} → low' ≡ low + size / 2 → lowest' ≡ get_or index (low + size / 2) 0
      → Halved index q low' lowest' (size - size / 2)
  halved_upper e p r =
      let i = left.inside in
      let m = low + size / 2 in
      rw p (record {
        inside = omega arith;
        some = omega arith;
        at = r;
        only = upper_half (numbers_in index) q low size (size / 2) up left.only (omega (arith, numbers_length index)) (size - size / 2) (omega arith) (omega (arith, number_at index m));
      })

  pub halved_lower : 64 * q + 63 < get_or index (low + size / 2) 0 → {low' lowest' : ℕ} → low' ≡ low → lowest' ≡ lowest → Halved index q low' lowest' (size - size / 2)
  halved_lower e p r =
      let i = left.inside in
      let m = low + size / 2 in
      rw (p, r) (record {
        inside = omega arith;
        some = omega arith;
        at = left.at;
        only = lower_half (numbers_in index) q low size (size / 2) up left.only (omega (arith, numbers_length index)) (size - size / 2) (omega arith) (omega (arith, number_at index m));
      })

-- one entry is left: it is that of q, or there is none
module _ {index : List ℕ} {q low lowest size : ℕ} (left : Halved index q low lowest size) (h : size ≤ 1) where
  pub halved_found : Rising (numbers_in index) → lowest / 64 ≡ q → low ≡ first_at (eqb q) (numbers_in index)
  halved_found up e =
      let i = left.inside in
      let s = left.some in
      let a = left.at in
      sym (first_at_lem q (numbers_in index) low up (omega (arith, numbers_length index)) (number_at index low ∙ ap (λ (x : ℕ). x / 64) (sym a) ∙ e))

  pub halved_absent : (lowest / 64 ≡ q → ⊥) → length index ≡ first_at (eqb q) (numbers_in index)
  halved_absent e =
      let a = left.at in
      let only : (k : ℕ) → k < length (numbers_in index) → get_or (numbers_in index) k 0 ≡ q → k ≡ low = λ k b f. omega (arith, left.only k b f) in
      sym (first_none q (numbers_in index) (λ k b f. e (ap (λ (x : ℕ). x / 64) (a ∙ ap (λ (j : ℕ). get_or index j 0) (sym (only k b f))) ∙ sym (number_at index k) ∙ f)) ∙ numbers_length index)

-- a place that has the number is where it stands
pub near_found : (index : List ℕ) (q : ℕ) {near : ℕ} → Rising (numbers_in index) → near < length index → get_or index near 0 / 64 ≡ q → near ≡ first_at (eqb q) (numbers_in index)
near_found index q {near} r h e = sym (first_at_lem q (numbers_in index) near r (omega (arith, numbers_length index)) (number_at index near ∙ e))
