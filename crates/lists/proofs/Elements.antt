-- Elements by their places, over any element type: read, mapped, stored, taken out; and numbers in turn.
use Prim.Native.Nat.{ℕ, zero, suc, ◌+◌, ◌-◌, ◌≤◌, ◌<◌}
use mathlib.Core.Path.{◌≡◌, refl, sym, ap, ap₂}
use mathlib.Core.Logic.{◌≢◌, ⊎_elim}
use mathlib.Core.Bool.{Bool, true, false, cond}
use mathlib.Core.List.Memᴰ
use mathlib.Core.List.Memᴰ.{head as here}
use mathlib.Core.List.Memᴰ.{tail as there}
use mathlib.Core.List.{List, [], ◌∷◌, ◌++◌, map, Memᴰ as Member}
use native.Mathlib.Nat.{le_of_suc-le-suc, not-suc-le-zero}
use native.Mathlib.Numerals.{add-one}
use native.Mathlib.Omega.{arith}
use lib.Dec.{ltb}
use lib.ListN.{length, get_or, drop, set, take}
use lib.Seq.{drop-cons, length-take-le}
use borrow.Author.Tests.{ltb-true, ltb-false}
use Rattle.lists.specs.Places.{remove_at, range}

-- the list from i on is the element at i, then the list from i + 1 on
pub drop_one : {A : Type 0} (l : List A) (d : A) (i : ℕ) → i < length l → drop i l ≡ get_or l i d ∷ drop (i + 1) l
drop_one l d i h = rw (add-one, drop-cons l i d)

pub member_at : {A : Type 0} (l : List A) (i : ℕ) (d : A) → i < length l → Member (get_or l i d) l
member_at [] i d h = absurd (not-suc-le-zero h)
member_at (x ∷ l) zero d h = here refl
member_at (x ∷ l) (suc i) d h = there (member_at l i d (le_of_suc-le-suc h))

pub member_place : {A : Type 0} (d : A) {x : A} {l : List A} → Member x l → (i : ℕ) × (i < length l) × (get_or l i d ≡ x)
member_place d (here e) = (0, omega arith, sym e)
member_place d (there m) = let w = member_place d m in (suc w.0, omega arith, w.2)

pub map_at : {A B : Type 0} (g : A → B) (l : List A) (i : ℕ) (c : A) (d : B) → i < length l → get_or (map g l) i d ≡ g (get_or l i c)
map_at g [] i c d h = absurd (not-suc-le-zero h)
map_at g (x ∷ l) zero c d h = refl
map_at g (x ∷ l) (suc i) c d h = map_at g l i c d (le_of_suc-le-suc h)

-- an element does not depend on what stands past the end
pub at_any : {A : Type 0} (l : List A) (i : ℕ) (d e : A) → i < length l → get_or l i d ≡ get_or l i e
at_any [] i d e h = absurd (not-suc-le-zero h)
at_any (x ∷ l) zero d e h = refl
at_any (x ∷ l) (suc i) d e h = at_any l i d e (le_of_suc-le-suc h)

-- two functions that differ at one element of a list only
pub map_store : {A : Type 0} (f g : ℕ → A) (l : List ℕ) (i : ℕ) (x : A) → i < length l → g (get_or l i 0) ≡ x
    → ((j : ℕ) → j < length l → j ≢ i → g (get_or l j 0) ≡ f (get_or l j 0)) → map g l ≡ set (map f l) i x
map_store f g [] i x h e k = absurd (not-suc-le-zero h)
map_store {A} f g (y ∷ l) zero x h e k = ap₂ (λ (a : A) (r : List A). a ∷ r) e (same l (λ j p. k (suc j) (omega arith) (λ q. omega arith)))
  where
    same : (l : List ℕ) → ((j : ℕ) → j < length l → g (get_or l j 0) ≡ f (get_or l j 0)) → map g l ≡ map f l
    same [] k = refl
    same (z ∷ l) k = ap₂ (λ (a : A) (r : List A). a ∷ r) (k 0 (omega arith)) (same l (λ j p. k (suc j) (omega arith)))
map_store {A} f g (y ∷ l) (suc i) x h e k =
    ap₂ (λ (a : A) (r : List A). a ∷ r) (k 0 (omega arith) (λ q. omega arith)) (map_store f g l i x (le_of_suc-le-suc h) e (λ j p q. k (suc j) (omega arith) (λ r. q (omega arith))))

pub map_remove : {A B : Type 0} (f : A → B) (l : List A) (i : ℕ) → map f (remove_at i l) ≡ remove_at i (map f l)
unfolding remove_at
map_remove f [] zero = refl
map_remove f [] (suc i) = refl
map_remove f (y ∷ l) zero = refl
map_remove {A} {B} f (y ∷ l) (suc i) = ap (λ (r : List B). f y ∷ r) (map_remove f l i)

-- a store at a place that then goes
pub remove_set : {A : Type 0} (l : List A) (i : ℕ) (x : A) → remove_at i (set l i x) ≡ remove_at i l
unfolding remove_at
remove_set [] i x = refl
remove_set (y ∷ l) zero x = refl
remove_set {A} (y ∷ l) (suc i) x = ap (λ (r : List A). y ∷ r) (remove_set l i x)

-- Place i taken out of a list: what stood after it stands one place further down.
pub remove_before : {A : Type 0} (l : List A) (i j : ℕ) (d : A) → j < i → get_or (remove_at i l) j d ≡ get_or l j d
unfolding remove_at
remove_before [] zero j d h = refl
remove_before [] (suc i) j d h = refl
remove_before (y ∷ l) zero j d h = absurd (not-suc-le-zero h)
remove_before (y ∷ l) (suc i) zero d h = refl
remove_before (y ∷ l) (suc i) (suc j) d h = remove_before l i j d (le_of_suc-le-suc h)

pub remove_after : {A : Type 0} (l : List A) (i j : ℕ) (d : A) → i ≤ j → get_or (remove_at i l) j d ≡ get_or l (suc j) d
unfolding remove_at
remove_after [] zero j d h = refl
remove_after [] (suc i) j d h = refl
remove_after (y ∷ l) zero j d h = refl
remove_after (y ∷ l) (suc i) zero d h = absurd (not-suc-le-zero h)
remove_after (y ∷ l) (suc i) (suc j) d h = remove_after l i j d (le_of_suc-le-suc h)

-- where the element stood that now stands at j
abbrev pub stood : ℕ → ℕ → ℕ
stood i j = cond (ltb j i) j (suc j)

pub stood_within : (n i j : ℕ) → j < n - 1 → stood i j < n
stood_within n i j h = go (ltb j i)
  where
    go : (b : Bool) → cond b j (suc j) < n
    go true = omega arith
    go false = omega arith

pub remove_get : {A : Type 0} (l : List A) (i j : ℕ) (d : A) → get_or (remove_at i l) j d ≡ get_or l (stood i j) d
remove_get l i j d = go (ltb j i) refl
  where
    go : (b : Bool) → ltb j i ≡ b → get_or (remove_at i l) j d ≡ get_or l (cond b j (suc j)) d
    go true e = remove_before l i j d (ltb-true j i e)
    go false e = remove_after l i j d (ltb-false j i e)

-- two functions that agree on the elements
pub map_same : {A B : Type 0} {f g : A → B} (l : List A) → ((x : A) → Member x l → f x ≡ g x) → map f l ≡ map g l
map_same [] h = refl
map_same (x ∷ l) h = rw (h x (here refl), map_same l (λ y m. h y (there m)))

-- Numbers in turn.
pub range_least : (k n : ℕ) {x : ℕ} → Member x (range k n) → k ≤ x
unfolding range
range_least k zero m = absurd (Memᴰ.not-nil m)
range_least k (suc n) {x} m = ⊎_elim (λ (e : x ≡ k). omega arith) (λ r. omega (arith, range_least (suc k) n r)) (Memᴰ.cases_cons m)

pub range_length : (a n : ℕ) → length (range a n) ≡ n
unfolding range
range_length a zero = refl
range_length a (suc n) = ap suc (range_length (suc a) n)

pub range_at : (a n k : ℕ) → k < n → get_or (range a n) k 0 ≡ a + k
unfolding range
range_at a zero k h = absurd (not-suc-le-zero h)
range_at a (suc n) zero h = omega arith
range_at a (suc n) (suc k) h = omega (arith, range_at (suc a) n k (le_of_suc-le-suc h))

pub range_mem : (k n : ℕ) {x : ℕ} → Member x (range k n) → x < k + n
unfolding range
range_mem k zero m = absurd (Memᴰ.not-nil m)
range_mem k (suc n) {x} m = ⊎_elim (λ (e : x ≡ k). omega arith) (λ r. omega (arith, range_mem (suc k) n r)) (Memᴰ.cases_cons m)

pub range_one : (k n : ℕ) → k < n → range k (n - k) ≡ k ∷ range (k + 1) (n - (k + 1))
unfolding range
range_one k n h = let e : n - k ≡ suc (n - (k + 1)) = omega arith in rw (e, add-one k)

pub range_more : (k n : ℕ) → range k (suc n) ≡ range k n ++ ((k + n) ∷ [])
unfolding range
range_more k zero = let e : k + 0 ≡ k = omega arith in rw e
range_more k (suc n) = let e : k + suc n ≡ suc k + n = omega arith in rw e (ap (λ (l : List ℕ). k ∷ l) (range_more (suc k) n))

pub range_shifted : {A : Type 0} (f g : ℕ → A) → ((k : ℕ) → f (suc k) ≡ g k) → (a n : ℕ) → map f (range (suc a) n) ≡ map g (range a n)
unfolding range
range_shifted f g h a zero = refl
range_shifted f g h a (suc n) = rw (h a, range_shifted f g h (suc a) n)

-- the first n of at least n elements are n
pub taken_length : {A : Type 0} (n : ℕ) (l : List A) → n ≤ length l → n ≡ length (take n l)
taken_length n l h = sym (length-take-le n l h)
