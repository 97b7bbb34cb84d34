-- Marks to the two words that say them, and back.
use mathlib.Core.Path.{◌≡◌, refl, sym, subst}
use mathlib.Core.Bool.{Bool, true, false, cond}
use Prim.Native.Nat.{ℕ, zero, suc, ◌≤◌}
use native.Mathlib.Omega.{arith}
use lib.Dec.{eqb}
use borrow.Author.Tests.{leb-true}
use Rattle.lists.proofs.Lists.{and_both, both_and}
use Rattle.line.specs.declared.Marks.{Marks}
use Rattle.line.specs.Marks.{flags, flags_hold, site_holds, marks_from, marks_hold}

-- The words of a block: they are the words of the marks that they say, and stand in 16 bits.
pub flags_same : (f c : ℕ) → flags_hold f ≡ true → flags (marks_from f c) ≡ f
flags_same f c h = go f (leb-true f 1 h)
  where
    go : (n : ℕ) → n ≤ 1 → cond (eqb n 1) 1 0 ≡ n
    go zero h = refl
    go (suc zero) h = refl
    go (suc (suc n)) h = absurd (omega arith)

pub flags_low : (n : ℕ) → flags_hold n ≡ true → n ≤ 65535
flags_low n h = omega (arith, leb-true n 1 h)

pub site_low : (n : ℕ) → site_holds n ≡ true → n ≤ 65535
site_low n h = omega (arith, leb-true n 9999 h)

pub words_hold : (f c : ℕ) → flags_hold f ≡ true → site_holds c ≡ true → marks_hold (marks_from f c) ≡ true
unfolding marks_hold
words_hold f c g h = both_and (subst (λ (n : ℕ). flags_hold n ≡ true) (sym (flags_same f c g)) g) h

-- The marks that the layout can say: their words hold, and say them.
module _ (m : Marks) (h : marks_hold m ≡ true) where
  pub flags_hold_lem : flags_hold (flags m) ≡ true
  unfolding marks_hold
  flags_hold_lem = (and_both (flags_hold (flags m)) (site_holds m.site) h).0

  pub site_hold : site_holds m.site ≡ true
  unfolding marks_hold
  site_hold = (and_both (flags_hold (flags m)) (site_holds m.site) h).1

pub marks_back : (m : Marks) → marks_from (flags m) m.site ≡ m
marks_back m = rw (go m.leaving)
  where
    go : (t : Bool) → eqb (cond t 1 0) 1 ≡ t
    go true = refl
    go false = refl
