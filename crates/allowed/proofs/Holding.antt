-- What the bag of an accepted block holds, by the kinds and the numbers of its places.
use Prim.Native.Nat.{ℕ, zero, suc, ◌+◌, ◌-◌, ◌*◌, ◌≤◌, ◌<◌}
use mathlib.Core.Path.{◌≡◌, refl, sym, ap, ap₂, ◌∙◌}
use mathlib.Core.Bool.{Bool, true, false, ◌||◌, or-false}
use mathlib.Core.List.{List, [], ◌∷◌, ◌++◌, append_assoc, append-nil}
use native.Mathlib.Numerals.{add-one}
use native.Mathlib.Omega.{arith}
use lib.Dec.{eqb}
use mir.Val.{bool_byte}
use lib.ListN.{length, get_or, take, drop, set, replicate, length-set, take-append-drop, drop_of_length-le}
use lib.Seq.{take-suc, take-suc-set, take-set-le, drop-set-lt, drop-drop, length-take-le}
use borrow.Author.Tests.{ne_eqb}
use Rattle.lists.specs.Lists.{any, keep}
use Rattle.lists.proofs.Lists.{any_append}
use Rattle.lists.proofs.Elements.{drop_one, member_at}
use Rattle.lists.proofs.Filling.{drop-replicate}
use Rattle.line.specs.declared.Content.{Content}
use Rattle.line.specs.declared.Content.TheVariants.{Introduction, RemoveLeft, RemoveRight}
use Rattle.line.specs.declared.Message.{Message}
use Rattle.line.specs.declared.Side.{Side}
use Rattle.line.specs.declared.Side.TheVariants.{Left, Right}
use Rattle.line.specs.Message.{kind, carried, introduction, removal, same, holds}
use Rattle.octets.specs.Bytes.{word, quad}
use Rattle.index.specs.Index.{number_in, numbers_in}
use Rattle.index.proofs.Entries.{numbers_length, number_at}
use Rattle.fields.specs.Fields.{message_of}
use Rattle.fields.proofs.Contents.{Says, place_says}
use Rattle.block.specs.Layout.{place_at, messages, node_of, fault_of}
use Rattle.block.proofs.FieldLaws.{field_facts, no_fault, no_fault_count}
use Rattle.block.proofs.PlaceLaws.{good_below}
use Rattle.block.proofs.Asking.{any_suc}
use Rattle.allowed.specs.Parts.{Small, of_kind}

-- A counted place says its message's kind and number.
module _ (b : List ℕ) (clean : fault_of b ≡ 0) (j : ℕ) (h : j < word b 16) where
  said : Says (word b (20 + 8 * j)) (word b (22 + 8 * j)) (quad b (24 + 8 * j)) (message_of (place_at b j))
  unfolding place_at
  said = place_says (word b (20 + 8 * j)) (word b (22 + 8 * j)) (quad b (24 + 8 * j)) (good_below b j (word b 16) (field_facts b (no_fault b clean).1).places h)

-- An introduction is known by its number, which is not 0; a removal by its kind.
number_tells : (q : ℕ) → 0 < q → (c : Content) → eqb q (carried c) ≡ same (introduction q) (record { content = c })
unfolding same
number_tells q h (Introduction n) = refl
number_tells q h RemoveLeft = ne_eqb q 0 (λ (e : q ≡ 0). omega arith)
number_tells q h RemoveRight = ne_eqb q 0 (λ (e : q ≡ 0). omega arith)

abbrev pub removal_kind : Side → ℕ
removal_kind Left = 2
removal_kind Right = 3

kind_tells : (d : Side) (c : Content) → eqb (removal_kind d) (kind c) ≡ same (removal d) (record { content = c })
unfolding same removal
kind_tells Left (Introduction n) = refl
kind_tells Left RemoveLeft = refl
kind_tells Left RemoveRight = refl
kind_tells Right (Introduction n) = refl
kind_tells Right RemoveLeft = refl
kind_tells Right RemoveRight = refl

any_same : {f g : Message → Bool} → ((m : Message) → f m ≡ g m) → (l : List Message) → any f l ≡ any g l
unfolding any
any_same e [] = refl
any_same e (m ∷ l) = rw (e m, any_same e l)

pub removal_held : (d : Side) (l : List Message) {r : Bool} → r ≡ any (of_kind (removal_kind d)) l → r ≡ holds (removal d) l
removal_held d l e = e ∙ any_same (λ m. kind_tells d m.content) l

-- the numbers of the first j places are in
pub record NumbersTo (b : List ℕ) (n j : ℕ) (numbers : List ℕ) : Type 0 where
  pub clean : fault_of b ≡ 0
  pub counted : n ≡ word b 16
  pub few : n ≤ 32
  pub within : j ≤ n
  pub size : length numbers ≡ 32
  pub rest : drop j numbers ≡ replicate (32 - j) 0
  pub are : (q : ℕ) → 0 < q → any (eqb q) (take j numbers) ≡ holds (introduction q) (messages b j)

pub numbers_none : (b : List ℕ) {n : ℕ} → fault_of b ≡ 0 → n ≡ word b 16 → NumbersTo b n 0 (replicate 32 0)
unfolding messages any
numbers_none b c e = record { clean = c; counted = e; few = omega (arith, no_fault_count b c); within = omega arith; size = refl; rest = refl; are = λ q h. refl }

any_one : {A : Type 0} (f : A → Bool) (l : List A) (x : A) → any f (l ++ (x ∷ [])) ≡ (any f l || f x)
unfolding any
any_one f l x = any_append f l (x ∷ []) ∙ ap (λ (t : Bool). any f l || t) (or-false (f x))

-- 0 is no station
no_zero : (q : ℕ) → 0 < q → (m : ℕ) → any (eqb q) (replicate m 0) ≡ false
unfolding any
no_zero q h zero = refl
no_zero q h (suc m) = rw (ne_eqb q 0 (λ (e : q ≡ 0). omega arith), no_zero q h m)

module _ {b : List ℕ} {n j : ℕ} {numbers : List ℕ} (so_far : NumbersTo b n j numbers) where
  pub numbers_next : j < n → {x : ℕ} → x ≡ quad b (24 + 8 * j) → NumbersTo b n (j + 1) (set numbers j x)
  numbers_next h {x} e =
      let f = so_far.few in
      let s = so_far.size in
      let told = said b so_far.clean j (omega (arith, so_far.counted)) in
      record {
        clean = so_far.clean;
        counted = so_far.counted;
        few = f;
        within = omega arith;
        size = simp length-set s;
        rest =
            drop-set-lt (j + 1) numbers j x (omega arith) ∙ sym (drop-drop 1 j numbers) ∙ ap (drop 1) so_far.rest ∙ drop-replicate 1 (32 - j) 0
            ∙ (let z : 32 - j - 1 ≡ 32 - (j + 1) = omega arith in ap (λ (m : ℕ). replicate m 0) z);
        are = λ q p.
            rw (add-one j, take-suc-set numbers j x (omega arith))
            (any_one (eqb q) (take j numbers) x
            ∙ ap₂ ◌||◌ (so_far.are q p) (ap (eqb q) (e ∙ sym told.number_is) ∙ number_tells q p (message_of (place_at b j)).content) ∙ sym (any_suc (same (introduction q)) b j));
      }

  pub numbers_all : n ≤ j → (q : ℕ) → 0 < q → any (eqb q) numbers ≡ holds (introduction q) (node_of b).bag
  unfolding node_of
  numbers_all h q p =
      let z : j ≡ word b 16 = omega (arith, so_far.within, so_far.counted) in
      ap (any (eqb q)) (sym (take-append-drop j numbers)) ∙ any_append (eqb q) (take j numbers) (drop j numbers)
      ∙ rw (so_far.rest, no_zero q p (32 - j), so_far.are q p, or-false) (ap (λ (k : ℕ). holds (introduction q) (messages b k)) z)

-- the kinds of the first j places are asked
pub record KindsTo (b : List ℕ) (kind n j : ℕ) (found : Bool) : Type 0 where
  pub clean : fault_of b ≡ 0
  pub counted : n ≡ word b 16
  pub few : n ≤ 32
  pub within : j ≤ n
  pub is : found ≡ any (of_kind kind) (messages b j)

pub kinds_none : (b : List ℕ) (kind : ℕ) {n : ℕ} → fault_of b ≡ 0 → n ≡ word b 16 → KindsTo b kind n 0 false
unfolding messages any
kinds_none b kind c e = record { clean = c; counted = e; few = omega (arith, no_fault_count b c); within = omega arith; is = refl }

module _ {b : List ℕ} {k n j : ℕ} {found : Bool} (so_far : KindsTo b k n j found) where
  pub kinds_next : j < n → {x : ℕ} → x ≡ word b (20 + 8 * j) → KindsTo b k n (j + 1) (found || eqb k x)
  kinds_next h e =
      let told = said b so_far.clean j (omega (arith, so_far.counted)) in
      record {
        clean = so_far.clean;
        counted = so_far.counted;
        few = so_far.few;
        within = omega arith;
        is = rw (add-one j) (ap₂ ◌||◌ so_far.is (ap (eqb k) (e ∙ sym told.kind_is)) ∙ sym (any_suc (of_kind k) b j));
      }

  pub kinds_all : n ≤ j → found ≡ any (of_kind k) (node_of b).bag
  unfolding node_of
  kinds_all h = let z : j ≡ word b 16 = omega (arith, so_far.within, so_far.counted) in so_far.is ∙ ap (λ (i : ℕ). any (of_kind k) (messages b i)) z

-- the first j numbers are asked
pub record AmongTo (numbers : List ℕ) (q j : ℕ) (found : Bool) : Type 0 where
  pub size : length numbers ≡ 32
  pub within : j ≤ 32
  pub is : found ≡ any (eqb q) (take j numbers)

pub among_none : (numbers : List ℕ) (q : ℕ) → length numbers ≡ 32 → AmongTo numbers q 0 false
unfolding any
among_none numbers q e = record { size = e; within = omega arith; is = refl }

module _ {numbers : List ℕ} {q j : ℕ} {found : Bool} (so_far : AmongTo numbers q j found) where
  pub among_next : j < 32 → AmongTo numbers q (j + 1) (found || eqb q (get_or numbers j 0))
  among_next h = record {
    size = so_far.size;
    within = omega arith;
    is = rw (add-one j, take-suc numbers j 0 (omega (arith, so_far.size))) (ap (λ (t : Bool). t || eqb q (get_or numbers j 0)) so_far.is ∙ sym (any_one (eqb q) (take j numbers) (get_or numbers j 0)));
  }

-- of the first j stations of the index those among the numbers are kept, k of them
pub record ChosenTo (index numbers : List ℕ) (j k : ℕ) (kept : List ℕ) : Type 0 where
  pub few : length index ≤ 64
  pub small : Small (numbers_in index)
  pub within : j ≤ length index
  pub fewer : k ≤ j
  pub size : length kept ≡ 64
  pub is : take k kept ++ keep (λ (q : ℕ). any (eqb q) numbers) (drop j (numbers_in index)) ≡ keep (λ (q : ℕ). any (eqb q) numbers) (numbers_in index)

module _ {index numbers : List ℕ} {j k : ℕ} {kept : List ℕ} (so_far : ChosenTo index numbers j k kept) (h : j < length index) where
  long : j < length (numbers_in index)
  long = omega (arith, numbers_length index)

  pub chosen_small : number_in (get_or index j 0) < 4294967296
  chosen_small = rw (number_at index j) at (so_far.small (get_or (numbers_in index) j 0) (member_at (numbers_in index) j 0 long))

  pub chosen_room : k < 64
  chosen_room = omega (arith, so_far.fewer, so_far.few)

  pub chosen_next : {q : ℕ} → q ≡ number_in (get_or index j 0) → {r : Bool} → r ≡ any (eqb q) numbers → {s : ℕ} → s ≡ bool_byte r → ChosenTo index numbers (j + 1) (k + s) (set kept k q)
  unfolding keep
  chosen_next {q} e {r} f {s} g = go r refl g
    where
      from : drop j (numbers_in index) ≡ q ∷ drop (j + 1) (numbers_in index)
      from = drop_one (numbers_in index) 0 j long ∙ ap (λ (x : ℕ). x ∷ drop (j + 1) (numbers_in index)) (number_at index j ∙ sym e)

      go : (t : Bool) → r ≡ t → s ≡ bool_byte t → ChosenTo index numbers (j + 1) (k + s) (set kept k q)
      go true p i =
          let w = so_far.fewer in
          let l = so_far.size in
          let z : k + s ≡ suc k = omega arith in
          record {
            few = so_far.few;
            small = so_far.small;
            within = omega arith;
            fewer = omega arith;
            size = simp length-set l;
            is = rw (z, take-suc-set kept k q (omega (arith, chosen_room)), append_assoc) (rw (from, sym f ∙ p) at so_far.is);
          }
      go false p i =
          let z : k + s ≡ k = omega arith in
          record {
            few = so_far.few;
            small = so_far.small;
            within = omega arith;
            fewer = omega (arith, so_far.fewer);
            size = simp length-set so_far.size;
            is = rw (z, take-set-le k kept k q (omega arith)) (rw (from, sym f ∙ p) at so_far.is);
          }

module _ {index numbers : List ℕ} {j k : ℕ} {kept : List ℕ} (so_far : ChosenTo index numbers j k kept) where
  pub chosen_all : length index ≤ j → take k kept ≡ keep (λ (q : ℕ). any (eqb q) numbers) (numbers_in index)
  unfolding keep
  chosen_all h =
      let none : drop j (numbers_in index) ≡ [] = drop_of_length-le (numbers_in index) {i = j} (omega (arith, numbers_length index)) in
      rw (none, append-nil) at so_far.is

  pub chosen_size : k ≡ length (take k kept)
  chosen_size = sym (length-take-le k kept (omega (arith, so_far.fewer, so_far.within, so_far.few, so_far.size)))

  pub chosen_few : k ≤ 64
  chosen_few = omega (arith, so_far.fewer, so_far.within, so_far.few)
