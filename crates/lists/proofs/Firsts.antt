-- Searching in a list from the front, and what the first place that passes is good for.
use mathlib.Core.Path.{◌≡◌, refl, sym, ap, ◌∙◌}
use mathlib.Core.Bool.{Bool, true, false, cond, ◌||◌}
use mathlib.Core.List.{List, [], ◌∷◌}
use Prim.Native.Nat.{ℕ, zero, suc, ◌+◌, ◌≤◌, ◌<◌, min}
use native.Mathlib.Numerals.{add-one}
use native.Mathlib.Omega.{arith}
use lib.Dec.{ltb, leb-suc-suc}
use borrow.Author.Tests.{lt-ltb}
use lib.ListN.{length, get_or, take, drop, length-take, drop_of_length-le}
use lib.Seq.{length-take-le, get_or-take, drop-cons}
use Rattle.std.specs.Prelude.{Option, Some, None, MatchOption}
use Rattle.std.specs.Option.{unwrap_or}
use Rattle.std.specs.List.{AllWithin, HoldsAt}
use Rattle.lists.specs.Lists.{any, remove_first}
use Rattle.lists.specs.Places.{remove_at, first_at}

module _ {A : Type 0} (f : A → Bool) where
  -- the first that passes is the one before which none does
  pub first_here : (l : List A) (i : ℕ) → i < length l → HoldsAt (λ (x : A). f x ≡ true) l i → AllWithin (λ (x : A). f x ≡ false) l 0 i → i ≡ first_at f l
  unfolding first_at
  first_here [] i h e n = absurd (omega arith)
  first_here (x ∷ l) zero h e n = rw (e x)
  first_here (x ∷ l) (suc i) h e n = rw (n 0 x (omega arith) (omega arith)) (ap suc (first_here l i (omega arith) e (λ k d b c. n (suc k) d (omega arith) (omega arith))))

  pub first_end : (l : List A) → AllWithin (λ (x : A). f x ≡ false) l 0 (length l) → length l ≡ first_at f l
  unfolding first_at
  first_end [] n = refl
  first_end (x ∷ l) n = rw (n 0 x (omega arith) (omega arith)) (ap suc (first_end l (λ k d b c. n (suc k) d (omega arith) (omega arith))))

  -- a place that a search found, or the length where it found none
  pub first_or_end : (l : List A) (r : Option ℕ)
      → MatchOption r (AllWithin (λ (x : A). f x ≡ false) l 0 (length l)) (λ (i : ℕ). (i < length l) × HoldsAt (λ (x : A). f x ≡ true) l i × AllWithin (λ (x : A). f x ≡ false) l 0 i)
      → unwrap_or r (length l) ≡ first_at f l
  first_or_end l None n = first_end l n
  first_or_end l (Some i) (h, e, n) = first_here l i h e n

module _ {A : Type 0} (f : A → Bool) where
  -- one passes exactly when there is a first
  pub any_first : (l : List A) → any f l ≡ ltb (first_at f l) (length l)
  unfolding first_at any
  any_first [] = refl
  any_first (x ∷ l) = go (f x) (any_first l)
    where
      go : (b : Bool) → any f l ≡ ltb (first_at f l) (length l) → (b || any f l) ≡ ltb (cond b 0 (suc (first_at f l))) (suc (length l))
      go true r = sym (lt-ltb 0 (suc (length l)) (omega arith))
      go false r = r ∙ sym (leb-suc-suc (suc (first_at f l)) (length l))

  -- the first that passes is the one that goes; where none does, none goes
  pub remove_first_lem : (l : List A) → remove_at (first_at f l) l ≡ remove_first f l
  unfolding first_at remove_first remove_at
  remove_first_lem [] = refl
  remove_first_lem (x ∷ l) = go (f x) (remove_first_lem l)
    where
      go : (b : Bool) → remove_at (first_at f l) l ≡ remove_first f l
          → remove_at (cond b 0 (suc (first_at f l))) (x ∷ l) ≡ cond b l (x ∷ remove_first f l)
      go true r = refl
      go false r = ap (λ (t : List A). x ∷ t) r

  pub remove_none : (l : List A) → length l ≤ first_at f l → remove_first f l ≡ l
  unfolding first_at remove_first
  remove_none [] h = refl
  remove_none (x ∷ l) h = go (f x) (remove_none l) h
    where
      go : (b : Bool) → (length l ≤ first_at f l → remove_first f l ≡ l) → suc (length l) ≤ cond b 0 (suc (first_at f l))
          → cond b l (x ∷ remove_first f l) ≡ x ∷ l
      go true r h = absurd (omega arith)
      go false r h = ap (λ (t : List A). x ∷ t) (r (omega arith))

-- tests that agree have one first place
pub first_same : {A : Type 0} (f g : A → Bool) → ((x : A) → f x ≡ g x) → (l : List A) → first_at f l ≡ first_at g l
unfolding first_at
first_same f g h [] = refl
first_same f g h (x ∷ l) = rw (h x, first_same f g h l)

-- where none passes it is the length
pub first_nowhere : {A : Type 0} (f : A → Bool) → ((x : A) → f x ≡ false) → (l : List A) → length l ≡ first_at f l
unfolding first_at
first_nowhere f h [] = refl
first_nowhere f h (x ∷ l) = rw (h x) (ap suc (first_nowhere f h l))
