-- The message places, which the definitions count from the end and the loops meet one by one.
use mathlib.Core.Path.{◌≡◌, refl, sym, ap, ◌∙◌}
use mathlib.Core.Bool.{Bool, true, false, ◌&&◌, and-true, and-false}
use mathlib.Core.List.{List, map, [], ◌∷◌, ◌++◌, append_assoc}
use mathlib.Core.Logic.{⊎_elim}
use Prim.Native.Nat.{ℕ, zero, suc, ◌+◌, ◌-◌, ◌*◌, ◌≤◌, ◌<◌}
use native.Mathlib.Numerals.{add-one}
use native.Mathlib.Nat.{le_of_suc-le-suc, not-suc-le-zero, eq-or-lt_of_le}
use native.Mathlib.Omega.{arith}
use lib.ListN.{length, take, set, replicate, length-append, length-set}
use lib.Seq.{set_at, take_at}
use Rattle.std.specs.List.{list_all, range_with_len}
use Rattle.std.proofs.lemmas.List.Folds.{list_all-append, list_all-map}
use Rattle.std.proofs.lemmas.List.FromFn.{map-range_with_len_more}
use Rattle.line.specs.declared.Message.{Message}
use Rattle.octets.specs.Bytes.{word, quad}
use Rattle.fields.specs.Fields.{place_of, is_good, message_of, Place}
use Rattle.block.specs.Layout.{place_at, places_hold, messages, blank, row_of}

-- the three fields of a place
pub place_read : (b : List ℕ) (i : ℕ) {x : Place} {kind gap number : ℕ} → x ≡ place_of kind gap number → kind ≡ word b (20 + 8 * i) → gap ≡ word b (22 + 8 * i)
    → number ≡ quad b (24 + 8 * i) → x ≡ place_at b i
unfolding place_at
place_read b i e k g n = e ∙ rw (k, g, n)

-- a bad place among the first n
bad_below : (b : List ℕ) (i n : ℕ) → i < n → is_good (place_at b i) ≡ false → places_hold b n ≡ false
unfolding places_hold
bad_below b i zero h e = absurd (not-suc-le-zero h)
bad_below b i (suc n) h e =
    ⊎_elim
    (λ (p : i ≡ n). rw (← p, e, and-false))
    (λ (p : i < n). rw (bad_below b i n p e))
    (eq-or-lt_of_le (le_of_suc-le-suc h))

-- so every one of good places is good
pub good_below : (b : List ℕ) (i n : ℕ) → places_hold b n ≡ true → i < n → is_good (place_at b i) ≡ true
good_below b i n h k = go (is_good (place_at b i)) refl
  where
    go : (t : Bool) → is_good (place_at b i) ≡ t → t ≡ true
    go true e = refl
    go false e = sym (bad_below b i n k e) ∙ h

-- a test of the first n numbers, one more
pub tests_grow : (f : ℕ → Bool) (n : ℕ) → list_all f (range_with_len 0 (suc n)) ≡ (list_all f (range_with_len 0 n) && f n)
tests_grow f n =
    let l = range_with_len 0 n in
    let grown = rw (add-one n) at (map-range_with_len_more f 0 n n (omega arith)) in
    sym (list_all-map (λ t. t) f (range_with_len 0 (suc n)))
    ∙ ap (list_all (λ t. t)) grown
    ∙ list_all-append (λ t. t) (map f l) (f n ∷ [])
    ∙ rw (list_all-map (λ t. t) f l, and-true)

-- the first n places, tested one by one
pub places_tested : (b : List ℕ) (n : ℕ) → list_all (λ i. is_good (place_at b i)) (range_with_len 0 n) ≡ places_hold b n
unfolding places_hold
places_tested b zero = refl
places_tested b (suc n) = tests_grow (λ i. is_good (place_at b i)) n ∙ ap (λ t. t && is_good (place_at b n)) (places_tested b n)

pub length_messages : (b : List ℕ) (n : ℕ) → length (messages b n) ≡ n
unfolding messages
length_messages b zero = refl
length_messages b (suc n) = omega (arith, length-append (messages b n) (message_of (place_at b n) ∷ []), length_messages b n)

-- the array has the messages of the first i of n places; after them remove-left
pub record RowTo (b : List ℕ) (n i : ℕ) (a : List Message) : Type 0 where
  pub within : i ≤ n
  pub room : n ≤ 32
  pub size : length a ≡ 32
  pub is : a ≡ messages b i ++ replicate (32 - i) blank

pub row_none : {b : List ℕ} {n : ℕ} → n ≤ 32 → RowTo b n 0 (replicate 32 blank)
unfolding messages
row_none h = record { within = omega arith; room = h; size = refl; is = refl }

module _ {b : List ℕ} {n i : ℕ} {a : List Message} (so_far : RowTo b n i a) where
  -- one more
  pub row_next : i < n → {p : Place} → p ≡ place_at b i → {x : Message} → x ≡ message_of p → RowTo b n (i + 1) (set a i x)
  unfolding messages
  row_next h {p} e {x} m =
      let q : x ≡ message_of (place_at b i) = m ∙ ap message_of e in
      let r = so_far.room in
      let z : 32 - i ≡ suc (32 - (i + 1)) = omega arith in
      let rest = replicate (32 - (i + 1)) blank in
      record {
        within = omega arith;
        room = r;
        size = simp length-set so_far.size;
        is = rw (so_far.is, z, add-one i, ← q) (rw (← add-one i) (set_at (messages b i) blank rest x i (length_messages b i) ∙ sym (append_assoc (messages b i) (x ∷ []) rest)));
      }

  -- all of them
  pub row_all : n ≤ i → n ≡ word b 16 → a ≡ row_of b
  unfolding row_of
  row_all h e =
      let d : i ≡ word b 16 = omega arith in
      so_far.is ∙ rw d

-- the counted messages of a row
pub row_held : (b : List ℕ) → take (word b 16) (row_of b) ≡ messages b (word b 16)
unfolding row_of
row_held b = take_at (messages b (word b 16)) (replicate (32 - word b 16) blank) (word b 16) (length_messages b (word b 16))
