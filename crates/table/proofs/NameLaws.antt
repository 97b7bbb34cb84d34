-- Who has a block can be asked of the sorted numbers, and the messages of a block can be asked one place after another.
use mathlib.Core.Path.{◌≡◌, refl, sym, ap, ◌∙◌}
use Rattle.std.specs.Prelude.{Some, None}
use mathlib.Core.Bool.{Bool, true, false, ◌&&◌, and-true, cond}
use mathlib.Core.List.{List, [], ◌∷◌, map}
use Prim.Native.Nat.{ℕ, zero, suc, ◌+◌, ◌<◌, ◌*◌}
use lib.Dec.{eqb, ltb}
use borrow.Author.Tests.{eq-eqb, ne_eqb}
use Rattle.block.proofs.FieldLaws.{field_facts, no_fault}
use Rattle.block.proofs.PlaceLaws.{good_below, tests_grow}
use Rattle.std.specs.List.{list_all, range_with_len}
use Rattle.octets.specs.Bytes.{word, quad}
use Rattle.index.specs.Index.{numbers_in}
use Rattle.line.specs.declared.Content.TheVariants.{Introduction, RemoveLeft, RemoveRight}
use Rattle.line.specs.declared.Message.{Message}
use Rattle.lists.specs.Lists.{all, any, sort}
use Rattle.line.specs.Node.{Line, Node, numbers}
use Rattle.line.specs.Accepted.{is_present, knows_content, in_range}
use Rattle.lists.proofs.Lists.{clash, all_append, true_any, sort-mem, mem-sort}
use Rattle.line.proofs.AcceptedTest.{is_present_lem}
use Rattle.block.specs.Layout.{place_at, messages, node_of, fault_of}
use Rattle.fields.specs.Fields.{message_of, is_good, place_of}
use Rattle.table.specs.Index.{Lists}
use Rattle.lists.proofs.Distinct.{same_truth}
use Rattle.lists.proofs.Numbers.{listed}
use native.Mathlib.Omega.{arith}

pub sorted_lists : (line : Line) → Lists (sort ltb (numbers line)) line
sorted_lists line n =
    let l = numbers line in
    same_truth (any (eqb n) (sort ltb l)) (is_present line n)
    (λ e. (is_present_lem line n).1 (sort-mem ltb l (listed (sort ltb l) n e)))
    (λ e. true_any (eqb n) (mem-sort ltb l ((is_present_lem line n).0 e)) (eq-eqb n n refl))

-- What a place says, of which only the kind and the number are read.
module _ (line : Line) (k gap n : ℕ) where
  place_introduces : is_good (place_of k gap n) ≡ true → k ≡ 1 → message_of (place_of k gap n) ≡ record { content = Introduction n }
  unfolding place_of
  place_introduces g e = rw (eq-eqb k 1 e) (go (eqb gap 0) (in_range n) (rw (eq-eqb k 1 e) at g))
    where
      go : (s t : Bool) → is_good (cond s (cond t (Some (record { content = Introduction n })) None) None) ≡ true
          → message_of (cond s (cond t (Some (record { content = Introduction n })) None) None) ≡ record { content = Introduction n }
      go true true g = refl
      go true false g = clash g refl
      go false t g = clash g refl

  place_removes : (k ≡ 1 → ⊥) → knows_content line (message_of (place_of k gap n)).content ≡ true
  unfolding place_of knows_content
  place_removes e = rw (ne_eqb k 1 e) (go (eqb gap 0) (eqb n 0) (eqb k 2) (eqb k 3))
    where
      go : (s t u v : Bool)
          → knows_content line (message_of (cond s (cond t (cond u (Some (record { content = RemoveLeft })) (cond v (Some (record { content = RemoveRight })) None)) None) None)).content ≡ true
      go true true true v = refl
      go true true false true = refl
      go true true false false = refl
      go true false u v = refl
      go false t u v = refl

module _ (b index : List ℕ) (i : ℕ) {k : ℕ} (e : k ≡ word b (20 + 8 * i)) where
  pub place_listed : is_good (place_at b i) ≡ true → k ≡ 1 → {n : ℕ} → n ≡ quad b (24 + 8 * i) → {r : Bool} → r ≡ any (eqb n) (numbers_in index)
      → (line : Line) → Lists (numbers_in index) line → r ≡ knows_content line (message_of (place_at b i)).content
  unfolding place_at knows_content
  place_listed g z {n} f p line h =
      p ∙ h n ∙ ap (is_present line) f
      ∙ ap (λ (m : Message). knows_content line m.content) (sym (place_introduces line (word b (20 + 8 * i)) (word b (22 + 8 * i)) (quad b (24 + 8 * i)) g (sym e ∙ z)))

  pub place_unlisted : (k ≡ 1 → ⊥) → (line : Line) → Lists (numbers_in index) line → true ≡ knows_content line (message_of (place_at b i)).content
  unfolding place_at
  place_unlisted z line h = sym (place_removes line (word b (20 + 8 * i)) (word b (22 + 8 * i)) (quad b (24 + 8 * i)) (λ f. z (e ∙ f)))

-- a test of the first n messages, place by place
module _ (f : Message → Bool) (b : List ℕ) where
  all_suc : (n : ℕ) → all f (messages b (suc n)) ≡ (all f (messages b n) && f (message_of (place_at b n)))
  unfolding messages all
  all_suc n = all_append f (messages b n) (message_of (place_at b n) ∷ []) ∙ ap (λ (t : Bool). all f (messages b n) && t) (and-true (f (message_of (place_at b n))))

  pub messages_tested : (n : ℕ) → list_all (λ i. f (message_of (place_at b i))) (range_with_len 0 n) ≡ all f (messages b n)
  unfolding messages all
  messages_tested zero = refl
  messages_tested (suc n) = tests_grow (λ i. f (message_of (place_at b i))) n ∙ ap (λ t. t && f (message_of (place_at b n))) (messages_tested n) ∙ sym (all_suc n)

-- a test of all nodes, block by block
pub nodes_tested : (f : Node → Bool) (l : List (List ℕ)) → list_all (λ b. f (node_of b)) l ≡ all f (map node_of l)
unfolding all
nodes_tested f [] = refl
nodes_tested f (b ∷ l) = ap (λ t. f (node_of b) && t) (nodes_tested f l)

-- the counted places of a block without a fault
pub place_counted : (b : List ℕ) {n i : ℕ} → fault_of b ≡ 0 → n ≡ word b 16 → i < n → (i < 32) × (is_good (place_at b i) ≡ true)
place_counted b {n} {i} h e k =
    let s = field_facts b (no_fault b h).1 in
    (omega (arith, s.count), good_below b i (word b 16) s.places (omega arith))
