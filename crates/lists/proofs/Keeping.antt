-- The elements of a list that pass a test: which they are, and that they stand to each other as they did.
use mathlib.Core.Path.{◌≡◌, refl, ap, ◌∙◌}
use mathlib.Core.Logic.{◌⊎◌, inl, inr, ⊎_elim}
use mathlib.Core.Bool.{Bool, true, false, cond}
use mathlib.Core.List.Memᴰ
use mathlib.Core.List.{List, [], ◌∷◌, ◌++◌, map}
use mathlib.Core.List.Memᴰ.{head as here}
use mathlib.Core.List.Memᴰ.{tail as there}
use mathlib.Core.List.{Memᴰ as Member}
use Rattle.lists.specs.Lists.{keep}
use Rattle.lists.specs.Numbers.{Pairwise}
use Rattle.lists.proofs.Lists.{clash}

module _ {A : Type 0} (f : A → Bool) where
  pub kept_mem : (l : List A) {x : A} → Member x (keep f l) → Member x l × (f x ≡ true)
  unfolding keep
  kept_mem [] m = absurd (Memᴰ.not-nil m)
  kept_mem (y ∷ l) {x} m = go (f y) refl (kept_mem l) m
    where
      go : (t : Bool) → f y ≡ t → (Member x (keep f l) → Member x l × (f x ≡ true)) → Member x (cond t (y ∷ keep f l) (keep f l)) → Member x (y ∷ l) × (f x ≡ true)
      go true e r n = ⊎_elim (λ (p : x ≡ y). (here p, rw p e)) (λ k. (there (r k).0, (r k).1)) (Memᴰ.cases_cons n)
      go false e r n = (there (r n).0, (r n).1)

  pub mem_kept : (l : List A) {x : A} → Member x l → f x ≡ true → Member x (keep f l)
  unfolding keep
  mem_kept [] {x = x} m h = elim m [ ]
  mem_kept (y ∷ l) {x} m h = go (f y) refl (Memᴰ.cases_cons m) (λ k. mem_kept l k h)
    where
      go : (t : Bool) → f y ≡ t → (x ≡ y) ⊎ Member x l → (Member x l → Member x (keep f l)) → Member x (cond t (y ∷ keep f l) (keep f l))
      go true e (inl p) r = here p
      go true e (inr k) r = there (r k)
      go false e (inl p) r = clash h (rw p e)
      go false e (inr k) r = r k

  pub kept_append : (a b : List A) → keep f (a ++ b) ≡ keep f a ++ keep f b
  unfolding keep
  kept_append [] b = refl
  kept_append (x ∷ a) b = go (f x) (kept_append a b)
    where
      go : (t : Bool) → keep f (a ++ b) ≡ keep f a ++ keep f b → cond t (x ∷ keep f (a ++ b)) (keep f (a ++ b)) ≡ cond t (x ∷ keep f a) (keep f a) ++ keep f b
      go true r = ap (λ (l : List A). x ∷ l) r
      go false r = r

  pub kept_pairwise : (R : A → A → Type 0) (l : List A) → Pairwise R l → Pairwise R (keep f l)
  unfolding keep
  kept_pairwise R [] h = tt
  kept_pairwise R (x ∷ l) h = go (f x) (kept_pairwise R l h.1)
    where
      go : (t : Bool) → Pairwise R (keep f l) → Pairwise R (cond t (x ∷ keep f l) (keep f l))
      go true r = (λ y m. h.0 y (kept_mem l m).0, r)
      go false r = r

-- what a first test leaves out plays no part where the second does too
pub kept_fewer : {A B : Type 0} (f : B → Bool) (g : A → B) (p : A → Bool) (l : List A) → ((x : A) → Member x l → p x ≡ false → f (g x) ≡ false) → keep f (map g (keep p l)) ≡ keep f (map g l)
unfolding keep
kept_fewer f g p [] h = refl
kept_fewer {A} {B} f g p (x ∷ l) h = go (p x) refl (kept_fewer f g p l (λ y m. h y (there m)))
  where
    go : (t : Bool) → p x ≡ t → keep f (map g (keep p l)) ≡ keep f (map g l) → keep f (map g (cond t (x ∷ keep p l) (keep p l))) ≡ cond (f (g x)) (g x ∷ keep f (map g l)) (keep f (map g l))
    go true e r = rw r
    go false e r = r ∙ rw (h x (here refl) e)
