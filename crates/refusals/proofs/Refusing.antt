-- The first cause that applies is only one; and tests, asked one after another, find it.
use Prim.Native.Nat.{ℕ}
use mathlib.Core.Path.{◌≡◌, refl, sym, ap, subst, ◌∙◌}
use mathlib.Core.Logic.{◌↔◌, ◌≢◌, inl, inr}
use mathlib.Core.Bool.{Bool, true, false, cond}
use mathlib.Core.List.{List, [], ◌∷◌, ◌++◌}
use lib.Dec.{eqb}
use borrow.Author.Tests.{ne_eqb}
use Rattle.refusals.specs.Refusals.{Refusal, First, Refuses}

-- no refusal has the number 0, which says that there is none
abbrev pub NoneZero : List Refusal → Type 0
NoneZero [] = Unit {0}
NoneZero (r ∷ l) = (r.number ≢ 0) × NoneZero l

module _ (P : ℕ → Type 0) where
  -- causes say one number where they leave one number
  first_once : ((m n : ℕ) → P m → P n → m ≡ n) → (l : List Refusal) (m n : ℕ) → First l P m → First l P n → m ≡ n
  first_once one [] m n f g = one m n f g
  first_once one (r ∷ l) m n (inl f) (inl g) = f.1 ∙ sym g.1
  first_once one (r ∷ l) m n (inl f) (inr g) = absurd (g.0 f.0)
  first_once one (r ∷ l) m n (inr f) (inl g) = absurd (f.0 g.0)
  first_once one (r ∷ l) m n (inr f) (inr g) = first_once one l m n f.1 g.1

  -- one test more, which holds where its cause does not apply
  pub tested : (r : Refusal) (l : List Refusal) (b : Bool) (rest : ℕ) → (b ≡ false → r.cause) → (b ≡ true → ¬ r.cause) → (b ≡ true → First l P rest)
      → First (r ∷ l) P (cond b rest r.number)
  tested r l true rest applies other then = inr (other refl, then refl)
  tested r l false rest applies other then = inl (applies refl, refl)

  -- the refusals of a part, which answers f, and where that is 0 others behind them
  pub then_others : (l more : List Refusal) → NoneZero l → (f rest : ℕ) → Refuses l f → (f ≡ 0 → First more P rest) → First (l ++ more) P (cond (eqb f 0) rest f)
  then_others [] more z f rest h then = rw h (then h)
  then_others (r ∷ l) more z f rest (inl h) then = inl (h.0, ap (λ (b : Bool). cond b rest f) (ne_eqb f 0 (λ (e : f ≡ 0). z.0 (sym h.1 ∙ e))) ∙ h.1)
  then_others (r ∷ l) more z f rest (inr h) then = inr (h.0, then_others l more z.1 f rest h.1 then)

-- what stands behind the refusals may be said otherwise
pub first_map : (P Q : ℕ → Type 0) → ((n : ℕ) → P n → Q n) → (l : List Refusal) (n : ℕ) → First l P n → First l Q n
first_map P Q f [] n h = f n h
first_map P Q f (r ∷ l) n (inl h) = inl h
first_map P Q f (r ∷ l) n (inr h) = inr (h.0, first_map P Q f l n h.1)

-- "which number exactly when, and 0 exactly when none applies"
pub refuses_exactly : (l : List Refusal) (m : ℕ) → Refuses l m → (n : ℕ) → (m ≡ n) ↔ Refuses l n
refuses_exactly l m f n =
    (λ e. subst (Refuses l) e f, λ g. first_once (λ (k : ℕ). k ≡ 0) (λ a b p q. p ∙ sym q) l m n f g)
