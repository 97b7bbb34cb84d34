-- Laws of tests, membership, insertion and removal, over any element type.
use mathlib.Core.Path.{◌≡◌, refl, sym, ◌∙◌, ap}
use mathlib.Core.Logic.{◌⊎◌, inl, inr, ⊎_elim}
use mathlib.Core.Bool.{Bool, true, false, cond, ◌&&◌, ◌||◌, and_assoc, or_assoc, and-false}
use mathlib.Core.List.Memᴰ
use mathlib.Core.List.{List, [], ◌∷◌, ◌++◌, map}
use mathlib.Core.List.Memᴰ.{head as here}
use mathlib.Core.List.Memᴰ.{tail as there}
use mathlib.Core.List.{Memᴰ as Member}
use Prim.Native.Nat.{ℕ, suc, ◌+◌, ◌≤◌}
use native.Mathlib.Omega.{arith}
use lib.ListN.{length}
use Rattle.lists.specs.Lists.{all, any, count, Ordered, insert, sort, remove_first}

-- a test cannot be both
pub clash : {t : Bool} {C : Type 0} → t ≡ true → t ≡ false → C
clash e h = absurd (let z : ◌≡◌ {A = ℕ} 0 1 = cc in omega arith)

pub and_both : (a b : Bool) → (a && b) ≡ true → (a ≡ true) × (b ≡ true)
and_both true b e = (refl, e)
and_both false b e = clash e refl

pub both_and : {a b : Bool} → a ≡ true → b ≡ true → (a && b) ≡ true
both_and p q = rw (p, q) refl

pub or_none : (a b : Bool) → (a || b) ≡ false → (a ≡ false) × (b ≡ false)
or_none true b e = clash refl e
or_none false b e = (refl, e)

pub or_cases : (a b : Bool) → (a || b) ≡ true → (a ≡ true) ⊎ (b ≡ true)
or_cases true b e = inl refl
or_cases false b e = inr e

pub or_right : (a : Bool) {b : Bool} → b ≡ true → (a || b) ≡ true
or_right true q = refl
or_right false q = q

-- a test whose truth means a statement fails where the statement does
pub fails : (t : Bool) → (t ≡ true → ⊥) → t ≡ false
fails true h = absurd (h refl)
fails false h = refl

module _ {A : Type 0} (f : A → Bool) where
  pub all_true : {x : A} {l : List A} → all f l ≡ true → Member x l → f x ≡ true
  unfolding all
  all_true e (here {x = y} {xs = r} p) = rw p (and_both (f y) (all f r) e).0
  all_true e (there {x = y} {xs = r} m) = all_true (and_both (f y) (all f r) e).1 m

  pub true_all : (l : List A) → ((x : A) → Member x l → f x ≡ true) → all f l ≡ true
  unfolding all
  true_all [] h = refl
  true_all (x ∷ l) h = both_and (h x (here refl)) (true_all l (λ y m. h y (there m)))

  pub all_false : (l : List A) → all f l ≡ false → (x : A) × Member x l × (f x ≡ false)
  unfolding all
  all_false [] e = clash refl e
  all_false (y ∷ l) e = go (f y) refl e (all_false l)
    where
      go : (t : Bool) → f y ≡ t → (t && all f l) ≡ false → (all f l ≡ false → (x : A) × Member x l × (f x ≡ false)) → (x : A) × Member x (y ∷ l) × (f x ≡ false)
      go true p q r = let w = r q in (w.0, there w.1, w.2)
      go false p q r = (y, here refl, p)

  pub any_true : (l : List A) → any f l ≡ true → (x : A) × Member x l × (f x ≡ true)
  unfolding any
  any_true [] e = clash e refl
  any_true (y ∷ l) e = go (any_true l) (or_cases (f y) (any f l) e)
    where
      go : (any f l ≡ true → (x : A) × Member x l × (f x ≡ true)) → (f y ≡ true) ⊎ (any f l ≡ true) → (x : A) × Member x (y ∷ l) × (f x ≡ true)
      go r (inl p) = (y, here refl, p)
      go r (inr p) = let w = r p in (w.0, there w.1, w.2)

  pub true_any : {x : A} {l : List A} → Member x l → f x ≡ true → any f l ≡ true
  unfolding any
  true_any (here {x = y} {xs = r} p) e = rw (ap f (sym p) ∙ e) refl
  true_any (there {x = y} {xs = r} m) e = or_right (f y) (true_any m e)

  -- an element that passes is counted, and what is counted is there
  pub counts_one : {x : A} {l : List A} → Member x l → f x ≡ true → 1 ≤ count f l
  unfolding count
  counts_one (here {x = y} {xs = r} p) e = rw (ap f (sym p) ∙ e) (omega arith)
  counts_one (there {x = y} {xs = r} m) e = omega (arith, counts_one m e)

  pub counted : (l : List A) → 1 ≤ count f l → (x : A) × Member x l × (f x ≡ true)
  unfolding count
  counted [] c = absurd (omega arith)
  counted (y ∷ l) c = go (f y) refl c (counted l)
    where
      go : (t : Bool) → f y ≡ t → 1 ≤ cond t 1 0 + count f l → (1 ≤ count f l → (x : A) × Member x l × (f x ≡ true)) → (x : A) × Member x (y ∷ l) × (f x ≡ true)
      go true e h r = (y, here refl, e)
      go false e h r = let w = r (omega arith) in (w.0, there w.1, w.2)

pub any_append : {A : Type 0} (f : A → Bool) (a b : List A) → any f (a ++ b) ≡ (any f a || any f b)
unfolding any
any_append f [] b = refl
any_append f (x ∷ a) b = ap (λ (t : Bool). f x || t) (any_append f a b) ∙ sym (or_assoc (f x) (any f a) (any f b))

pub count-append : {A : Type 0} (f : A → Bool) (a b : List A) → count f (a ++ b) ≡ count f a + count f b
unfolding count
count-append f [] b = omega arith
count-append f (x ∷ a) b = omega (arith, count-append f a b)

pub all_append : {A : Type 0} (f : A → Bool) (a b : List A) → all f (a ++ b) ≡ (all f a && all f b)
unfolding all
all_append f [] b = refl
all_append f (x ∷ a) b = ap (λ (t : Bool). f x && t) (all_append f a b) ∙ sym (and_assoc (f x) (all f a) (all f b))

-- two tests passed by every element are one
pub all_both : {A : Type 0} (f g : A → Bool) (l : List A) → (all f l && all g l) ≡ all (λ (x : A). f x && g x) l
unfolding all
all_both f g [] = refl
all_both f g (x ∷ l) = go (f x) (g x) (all_both f g l)
  where
    go : (a b : Bool) → (all f l && all g l) ≡ all (λ (y : _). f y && g y) l → ((a && all f l) && (b && all g l)) ≡ ((a && b) && all (λ (y : _). f y && g y) l)
    go true true h = h
    go true false h = and-false (all f l)
    go false b h = refl

pub mem-map : {A B : Type 0} (f : A → B) {x : A} {l : List A} → Member x l → Member (f x) (map f l)
mem-map f (here e) = here (ap f e)
mem-map f (there m) = there (mem-map f m)

pub map-mem : {A B : Type 0} (f : A → B) (l : List A) {y : B} → Member y (map f l) → (x : A) × Member x l × (y ≡ f x)
map-mem f [] m = absurd (Memᴰ.not-nil m)
map-mem f (x ∷ l) (here e) = (x, here refl, e)
map-mem f (x ∷ l) (there m) = let r = map-mem f l m in (r.0, there r.1, r.2)

pub map-length : {A B : Type 0} (f : A → B) (l : List A) → length (map f l) ≡ length l
map-length f [] = refl
map-length f (x ∷ l) = ap suc (map-length f l)

pub map_self : {A : Type 0} (f : A → A) (l : List A) → ((x : A) → Member x l → f x ≡ x) → map f l ≡ l
map_self f [] h = refl
map_self f (x ∷ l) h = rw (h x (here refl), map_self f l (λ y m. h y (there m)))

-- insertion
module _ {A : Type 0} (before : A → A → Bool) (a : A) where
  pub insert_self : (l : List A) → Member a (insert before a l)
  unfolding insert
  insert_self [] = here refl
  insert_self (x ∷ l) = go (before x a) (insert_self l)
    where
      go : (t : Bool) → Member a (insert before a l) → Member a (cond t (x ∷ insert before a l) (a ∷ x ∷ l))
      go true h = there h
      go false h = here refl

  pub insert_keeps : {y : A} (l : List A) → Member y l → Member y (insert before a l)
  unfolding insert
  insert_keeps {y = y} [] m = elim m [ ]
  insert_keeps {y} (x ∷ l) m = go (before x a) (Memᴰ.cases_cons m) (insert_keeps l)
    where
      go : (t : Bool) → (y ≡ x) ⊎ Member y l → (Member y l → Member y (insert before a l)) → Member y (cond t (x ∷ insert before a l) (a ∷ x ∷ l))
      go true (inl e) r = here e
      go true (inr n) r = there (r n)
      go false k r = there m

  pub insert-mem : {y : A} (l : List A) → Member y (insert before a l) → (y ≡ a) ⊎ Member y l
  unfolding insert
  insert-mem [] n = Memᴰ.cases_cons n
  insert-mem {y} (x ∷ l) n = go (before x a) (insert-mem l) n
    where
      go : (t : Bool) → (Member y (insert before a l) → (y ≡ a) ⊎ Member y l) → Member y (cond t (x ∷ insert before a l) (a ∷ x ∷ l)) → (y ≡ a) ⊎ Member y (x ∷ l)
      go true h k = ⊎_elim (λ e. inr (here e)) (λ m. ⊎_elim inl (λ r. inr (there r)) (h m)) (Memᴰ.cases_cons k)
      go false h k = Memᴰ.cases_cons k

  pub insert-length : (l : List A) → length (insert before a l) ≡ suc (length l)
  unfolding insert
  insert-length [] = refl
  insert-length (x ∷ l) = go (before x a) (insert-length l)
    where
      go : (t : Bool) → length (insert before a l) ≡ suc (length l) → length (cond t (x ∷ insert before a l) (a ∷ x ∷ l)) ≡ suc (suc (length l))
      go true h = ap suc h
      go false h = refl

  pub insert-count : (f : A → Bool) (l : List A) → count f (insert before a l) ≡ count f (a ∷ l)
  unfolding insert count
  insert-count f [] = refl
  insert-count f (x ∷ l) = go (before x a) (insert-count f l)
    where
      go : (t : Bool) → count f (insert before a l) ≡ count f (a ∷ l) → count f (cond t (x ∷ insert before a l) (a ∷ x ∷ l)) ≡ count f (a ∷ x ∷ l)
      go true h = omega arith
      go false h = refl

  -- in front of everything that is not before it
  pub insert_front : (l : List A) → ((y : A) → Member y l → before y a ≡ false) → insert before a l ≡ a ∷ l
  unfolding insert
  insert_front [] h = refl
  insert_front (x ∷ l) h = rw (h x (here refl))

-- what an order must satisfy for sorting
pub record Order {A : Type 0} (before : A → A → Bool) : Type 0 where
  pub asymmetric : (x y : A) → before x y ≡ true → before y x ≡ false
  pub transitive : (x y z : A) → before z y ≡ false → before y x ≡ false → before z x ≡ false

module _ {A : Type 0} (before : A → A → Bool) where
  pub insert_ordered : Order before → (a : A) (l : List A) → Ordered before l → Ordered before (insert before a l)
  unfolding insert
  insert_ordered o a [] h = (λ y k. absurd (Memᴰ.not-nil k), tt)
  insert_ordered o a (x ∷ l) h = go (before x a) refl (insert_ordered o a l h.1)
    where
      go : (t : Bool) → before x a ≡ t → Ordered before (insert before a l) → Ordered before (cond t (x ∷ insert before a l) (a ∷ x ∷ l))
      go true e r = (λ y k. ⊎_elim (λ (z : y ≡ a). rw z (o.asymmetric x a e)) (h.0 y) (insert-mem before a l k), r)
      go false e r = (λ y k. ⊎_elim (λ (z : y ≡ x). rw z e) (λ n. o.transitive a x y (h.0 y n) e) (Memᴰ.cases_cons k), h)

  pub sort_ordered : Order before → (l : List A) → Ordered before (sort before l)
  unfolding sort
  sort_ordered o [] = tt
  sort_ordered o (x ∷ l) = insert_ordered o x (sort before l) (sort_ordered o l)

  pub sort-mem : (l : List A) {y : A} → Member y (sort before l) → Member y l
  unfolding sort
  sort-mem [] m = m
  sort-mem (x ∷ l) {y} m = ⊎_elim (λ e. here e) (λ k. there (sort-mem l k)) (insert-mem before x (sort before l) m)

  pub mem-sort : (l : List A) {y : A} → Member y l → Member y (sort before l)
  unfolding sort
  mem-sort [] {y = y} x' = elim x' [ ]
  mem-sort (x ∷ l) (here e) = rw e (insert_self before x (sort before l))
  mem-sort (x ∷ l) (there m) = insert_keeps before x (sort before l) (mem-sort l m)

  pub sort-length : (l : List A) → length (sort before l) ≡ length l
  unfolding sort
  sort-length [] = refl
  sort-length (x ∷ l) = insert-length before x (sort before l) ∙ ap suc (sort-length l)

  pub sort-count : (f : A → Bool) (l : List A) → count f (sort before l) ≡ count f l
  unfolding sort count
  sort-count f [] = refl
  sort-count f (x ∷ l) = insert-count before x f (sort before l) ∙ ap (λ (n : ℕ). cond (f x) 1 0 + n) (sort-count f l)

  -- what is in order already stays as it is
  pub sort_self : (l : List A) → Ordered before l → sort before l ≡ l
  unfolding sort
  sort_self [] h = refl
  sort_self (x ∷ l) h = rw (sort_self l h.1) (insert_front before x l h.0)

-- sorting goes with a map that keeps the order
module _ {A B : Type 0} (f : A → B) (before : A → A → Bool) (below : B → B → Bool) where
  pub insert-map : (a : A) (l : List A) → ((y : A) → Member y l → below (f y) (f a) ≡ before y a)
      → map f (insert before a l) ≡ insert below (f a) (map f l)
  unfolding insert
  insert-map a [] h = refl
  insert-map a (x ∷ l) h = rw (h x (here refl)) (go (before x a) (insert-map a l (λ y m. h y (there m))))
    where
      go : (b : Bool) → map f (insert before a l) ≡ insert below (f a) (map f l)
          → map f (cond b (x ∷ insert before a l) (a ∷ x ∷ l)) ≡ cond b (f x ∷ insert below (f a) (map f l)) (f a ∷ f x ∷ map f l)
      go true r = ap (λ (t : List B). f x ∷ t) r
      go false r = refl

module _ {A B : Type 0} (f : A → B) (below : B → B → Bool) where
  abbrev pulled : A → A → Bool
  pulled x y = below (f x) (f y)

  pub sort-map : (l : List A) → map f (sort pulled l) ≡ sort below (map f l)
  unfolding sort
  sort-map [] = refl
  sort-map (x ∷ l) = insert-map f pulled below x (sort pulled l) (λ y m. refl) ∙ ap (insert below (f x)) (sort-map l)

-- it need keep the order only of an element beside those that stand behind it, since an element is put in front of its equals
abbrev pub Along : {A B : Type 0} → (A → B) → (A → A → Bool) → (B → B → Bool) → List A → Type 0
Along f before below [] = Unit {0}
Along f before below (x ∷ l) = ((y : _) → Member y l → below (f y) (f x) ≡ before y x) × Along f before below l

pub sort_along : {A B : Type 0} (f : A → B) (before : A → A → Bool) (below : B → B → Bool) (l : List A) → Along f before below l → map f (sort before l) ≡ sort below (map f l)
unfolding sort
sort_along f before below [] h = refl
sort_along f before below (x ∷ l) h =
    insert-map f before below x (sort before l) (λ y m. h.0 y (sort-mem before l m)) ∙ ap (insert below (f x)) (sort_along f before below l h.1)

-- removal of the first that passes
module _ {A : Type 0} (f : A → Bool) where
  pub removed_mem : (l : List A) {y : A} → Member y (remove_first f l) → Member y l
  unfolding remove_first
  removed_mem [] m = m
  removed_mem (x ∷ l) {y} m = go (f x) (removed_mem l) m
    where
      go : (t : Bool) → (Member y (remove_first f l) → Member y l) → Member y (cond t l (x ∷ remove_first f l)) → Member y (x ∷ l)
      go true r k = there k
      go false r k = ⊎_elim (λ e. here e) (λ n. there (r n)) (Memᴰ.cases_cons k)

  pub mem_removed : (l : List A) {y : A} → Member y l → (f y ≡ true) ⊎ Member y (remove_first f l)
  unfolding remove_first
  mem_removed [] {y = y} m = elim m [ ]
  mem_removed (x ∷ l) {y} m = go (f x) refl (mem_removed l) (Memᴰ.cases_cons m)
    where
      go : (t : Bool) → f x ≡ t → (Member y l → (f y ≡ true) ⊎ Member y (remove_first f l)) → (y ≡ x) ⊎ Member y l → (f y ≡ true) ⊎ Member y (cond t l (x ∷ remove_first f l))
      go true e r (inl p) = inl (rw p e)
      go true e r (inr n) = inr n
      go false e r (inl p) = inr (here p)
      go false e r (inr n) = ⊎_elim inl (λ k. inr (there k)) (r n)

  pub removed_length : (l : List A) → length (remove_first f l) ≤ length l
  unfolding remove_first
  removed_length [] = omega arith
  removed_length (x ∷ l) = go (f x) (removed_length l)
    where
      go : (t : Bool) → length (remove_first f l) ≤ length l → length (cond t l (x ∷ remove_first f l)) ≤ suc (length l)
      go true r = omega arith
      go false r = omega arith

  pub removed_ordered : (before : A → A → Bool) (l : List A) → Ordered before l → Ordered before (remove_first f l)
  unfolding remove_first
  removed_ordered before [] h = h
  removed_ordered before (x ∷ l) h = go (f x) (removed_ordered before l h.1)
    where
      go : (t : Bool) → Ordered before (remove_first f l) → Ordered before (cond t l (x ∷ remove_first f l))
      go true r = h.1
      go false r = (λ y m. h.0 y (removed_mem l m), r)

-- some element of a sorted list passes where some element of the list does
pub sort-any : {A : Type 0} (before : A → A → Bool) (f : A → Bool) (l : List A) → any f (sort before l) ≡ any f l
sort-any before f l = go (any f l) refl
  where
    go : (t : Bool) → any f l ≡ t → any f (sort before l) ≡ t
    go true e = let w = any_true f l e in true_any f (mem-sort before l w.1) w.2
    go false e = fails (any f (sort before l)) (λ h. let w = any_true f (sort before l) h in clash (true_any f (sort-mem before l w.1) w.2) e)
