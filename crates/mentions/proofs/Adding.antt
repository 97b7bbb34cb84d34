-- What the messages of a block add to a tally, one after another, and what the block adds with its left and its right.
use Prim.Native.Nat.{ℕ, min, ◌+◌, ◌≤◌, ◌<◌}
use Rattle.std.specs.Prelude.{Option, Some, None}
use mathlib.Core.Path.{◌≡◌, refl, ap}
use mathlib.Core.Bool.{Bool, true, false, cond, not, ◌&&◌, ◌||◌, or-false, or_assoc}
use mathlib.Core.List.{List, [], ◌∷◌, ◌++◌}
use native.Mathlib.Numerals.{add-one}
use native.Mathlib.Omega.{arith}
use lib.Dec.{eqb, ltb}
use lib.ListN.{length, get_or, set}
use borrow.Author.Tests.{le-ltb}
use Rattle.lists.specs.Lists.{any, count}
use Rattle.lists.specs.Places.{first_at}
use Rattle.lists.specs.Numbers.{Rising}
use Rattle.lists.proofs.Lists.{any_append, count-append}
use Rattle.line.specs.declared.Message.{Message}
use Rattle.line.specs.declared.Station as declared
use Rattle.line.specs.Message.{introduction, same}
use Rattle.line.specs.Nidec.{is_neighbour, names}
use Rattle.line.specs.Node.{number}
use Rattle.line.specs.Leave.{is_holder, smaller}
use Rattle.fields.specs.Fields.{message_of, Place}
use Rattle.octets.specs.Bytes.{word}
use Rattle.index.specs.Index.{numbers_in}
use Rattle.block.specs.Layout.{place_at, messages, station_of, node_of}
use Rattle.mentions.specs.Mentions.{once, mentions_by}
use Rattle.mentions.specs.Tally.{Tally, raised, lowered, Below, is_other, is_beside, is_introduced, AddsOne, AddsMessages, AddsNode}
use Rattle.mentions.proofs.Naming.{place_another, other_one}
use Rattle.mentions.proofs.Tallies.{tally_same, tally_next, raised_grows, none_raised, none_lowered, now_lowered}

-- one station, named for one reason or for another, stays the smaller of two
smaller_or : (a b : Bool) (p : ℕ) (o : Option ℕ) → smaller b p (smaller a p o) ≡ smaller (a || b) p o
smaller_or false b p o = refl
smaller_or true false p o = refl
smaller_or true true p None = rw (le-ltb p p (omega arith))
smaller_or true true p (Some q) = go (ltb q p) refl
  where
    go : (b : Bool) → ltb q p ≡ b → Some (cond (ltb (cond b q p) p) (cond b q p) p) ≡ Some (cond b q p)
    go true e = rw e
    go false e = rw (le-ltb p p (omega arith))

-- Station p mentions nobody; the one that another test passes too; station q.
module _ (p : ℕ) {n counts smallest : List ℕ} where
  pub nobody_added : (test : ℕ → Bool) → ((m : ℕ) → test m ≡ false) → AddsOne p test n counts smallest counts smallest
  nobody_added test nobody = record {
    tallies = λ f o t. tally_same (λ m. rw (nobody m) (omega arith)) (λ m. rw (nobody m)) t;
    grows = λ j d. record { at = λ k. omega (arith, d.at k) };
  }

  pub same_added : (a b : ℕ → Bool) → ((m : ℕ) → a m ≡ b m) → {c s : List ℕ} → AddsOne p a n counts smallest c s → AddsOne p b n counts smallest c s
  same_added a b same adds = record {
    tallies = λ f o t. tally_same (λ m. rw (same m)) (λ m. rw (same m)) (adds.tallies f o t);
    grows = adds.grows;
  }

module _ {counts smallest : List ℕ} (p q : ℕ) (index : List ℕ) (r : Rising (numbers_in index)) (fits : p < 4294967296) (another : p ≡ q → ⊥) {i : ℕ} (at : i ≡ first_at (eqb q) (numbers_in index)) where
  placed : {c s : List ℕ} → c ≡ raised i counts → s ≡ lowered i p smallest → AddsOne p (is_other p q) (numbers_in index) counts smallest c s
  placed c-is s-is = record {
    tallies = λ f o t. rw (c-is, s-is) (tally_next r t (is_other p q) (other_one p q) (place_another p q another index at) (omega arith));
    grows = λ j h. rw c-is (raised_grows i counts j h);
  }

  -- which the index has, or has not
  pub one_added : {x : ℕ} → x ≡ min p (get_or smallest i 0) → AddsOne p (is_other p q) (numbers_in index) counts smallest (raised i counts) (set smallest i x)
  one_added e = placed refl (now_lowered smallest i p e)

  pub none_added : length counts ≡ length smallest → length counts ≤ i → AddsOne p (is_other p q) (numbers_in index) counts smallest counts smallest
  none_added alike past = placed (none_raised counts past) (none_lowered counts smallest p alike past)

-- the first i of the n counted messages of a block are added
pub record AddedTo (b index counts₀ smallest₀ : List ℕ) (p n i : ℕ) (counts smallest : List ℕ) : Type 0 where
  pub within : i ≤ n
  pub few : n ≤ 32
  pub is : n ≡ word b 16
  pub tallies : (f : ℕ → ℕ) (o : ℕ → Option ℕ) → Tally (numbers_in index) counts₀ smallest₀ f o
      → Tally (numbers_in index) counts smallest (λ (m : ℕ). count (λ (x : Message). is_introduced p x m) (messages b i) + f m) (λ (m : ℕ). smaller (any (λ (x : Message). is_introduced p x m) (messages b i)) p (o m))
  pub grows : (j : ℕ) → Below j counts₀ → Below (j + i) counts

pub added_none : (b index : List ℕ) {counts smallest : List ℕ} {p n : ℕ} → n ≡ word b 16 → word b 16 ≤ 32 → AddedTo b index counts smallest p n 0 counts smallest
unfolding messages any count
added_none b index e h = record {
  within = omega arith;
  few = omega arith;
  is = e;
  tallies = λ f o t. tally_same (λ m. omega arith) (λ m. refl) t;
  grows = λ j d. record { at = λ i. omega (arith, d.at i) };
}

module _ {b index counts₀ smallest₀ : List ℕ} {p n i : ℕ} {counts smallest : List ℕ} (so_far : AddedTo b index counts₀ smallest₀ p n i counts smallest) where
  pub added_room : Below 3000000 counts₀ → Below 4000000 counts
  added_room h = record { at = λ k. omega (arith, (so_far.grows 3000000 h).at k, so_far.within, so_far.few) }

  -- message i is added
  pub added_next : i < n → {x : Place} → x ≡ place_at b i → {m : Message} → m ≡ message_of x → {counts' smallest' : List ℕ}
      → AddsOne p (is_introduced p m) (numbers_in index) counts smallest counts' smallest'
      → AddedTo b index counts₀ smallest₀ p n (i + 1) counts' smallest'
  unfolding messages any count
  added_next l {x} read {m} is adds = record {
    within = omega arith;
    few = so_far.few;
    is = so_far.is;
    tallies = λ f o t. tally_same (counted f) (held o) (adds.tallies _ _ (so_far.tallies f o t));
    grows = λ j d. record { at = λ k. omega (arith, (adds.grows (j + i) (so_far.grows j d)).at k) };
  }
    where
      one_more : messages b (i + 1) ≡ messages b i ++ (m ∷ [])
      one_more = rw (add-one i, is, read)

      counted : (f : ℕ → ℕ) (k : ℕ)
          → once (is_introduced p m k) + (count (λ (y : Message). is_introduced p y k) (messages b i) + f k) ≡ count (λ (y : Message). is_introduced p y k) (messages b (i + 1)) + f k
      counted f k = rw (one_more, count-append (λ (y : Message). is_introduced p y k) (messages b i) (m ∷ [])) (omega arith)

      held : (o : ℕ → Option ℕ) (k : ℕ)
          → smaller (is_introduced p m k) p (smaller (any (λ (y : Message). is_introduced p y k) (messages b i)) p (o k)) ≡ smaller (any (λ (y : Message). is_introduced p y k) (messages b (i + 1))) p (o k)
      held o k =
          rw (one_more, any_append (λ (y : Message). is_introduced p y k) (messages b i) (m ∷ []), or-false (is_introduced p m k))
          (smaller_or (any (λ (y : Message). is_introduced p y k) (messages b i)) (is_introduced p m k) p (o k))

  -- all are added
  pub added_all : n ≤ i → AddsMessages p (messages b (word b 16)) (numbers_in index) counts₀ smallest₀ counts smallest
  added_all h =
      let e : i ≡ word b 16 = omega (arith, so_far.within, so_far.is) in
      record { tallies = rw (← e) so_far.tallies; grows = λ j d. record { at = λ k. omega (arith, (so_far.grows j d).at k, so_far.within, so_far.few) } }

-- a test that fails passes nobody
counts_none : {A : Type 0} (l : List A) → count (λ (x : A). false) l ≡ 0
unfolding count
counts_none [] = refl
counts_none (x ∷ l) = omega (arith, counts_none l)

any_none : {A : Type 0} (l : List A) → any (λ (x : A). false) l ≡ false
unfolding any
any_none [] = refl
any_none (x ∷ l) = any_none l

-- The station of a block is read; its left, its right and its messages are added in turn.
module _ (b : List ℕ) {s : declared.Station} (read : s ≡ station_of b) (m : ℕ) where
  abbrev bag : List Message
  bag = messages b (word b 16)

  -- how often it mentions m
  by_block : (x : ℕ) → count (λ (y : Message). is_introduced s.number y m) bag + (once (is_beside s.number s.right m) + (once (is_beside s.number s.left m) + x)) ≡ mentions_by m (node_of b) + x
  unfolding node_of mentions_by
  by_block x = rw (← read) (go (eqb s.number m))
    where
      go : (t : Bool) → count (λ (y : Message). not t && same (introduction m) y) bag + (once (not t && is_neighbour m s.right) + (once (not t && is_neighbour m s.left) + x))
          ≡ cond t 0 (once (is_neighbour m s.left) + once (is_neighbour m s.right) + count (same (introduction m)) bag) + x
      go true = omega (arith, counts_none bag)
      go false = omega arith

  -- whether it holds m
  holds_block : (o : Option ℕ)
      → smaller (any (λ (y : Message). is_introduced s.number y m) bag) s.number (smaller (is_beside s.number s.right m) s.number (smaller (is_beside s.number s.left m) s.number o))
      ≡ smaller (is_holder m (node_of b)) (number (node_of b)) o
  unfolding node_of names
  holds_block o = rw (← read) (go (eqb s.number m) (is_neighbour m s.left) (is_neighbour m s.right))
    where
      go : (t l r : Bool)
          → smaller (any (λ (y : Message). not t && same (introduction m) y) bag) s.number (smaller (not t && r) s.number (smaller (not t && l) s.number o))
          ≡ smaller (not t && (l || (r || any (same (introduction m)) bag))) s.number o
      go true l r = rw (any_none bag)
      go false l r = rw (smaller_or l r s.number o, smaller_or (l || r) (any (same (introduction m)) bag) s.number o) (ap (λ (t : Bool). smaller t s.number o) (or_assoc l r (any (same (introduction m)) bag)))

module _ (b index : List ℕ) {s : declared.Station} (read : s ≡ station_of b) {c₀ s₀ c₁ s₁ c₂ s₂ c₃ s₃ : List ℕ} where
  pub block_added : AddsOne s.number (is_beside s.number s.left) (numbers_in index) c₀ s₀ c₁ s₁ → AddsOne s.number (is_beside s.number s.right) (numbers_in index) c₁ s₁ c₂ s₂
      → AddsMessages s.number (messages b (word b 16)) (numbers_in index) c₂ s₂ c₃ s₃ → AddsNode (node_of b) (numbers_in index) c₀ s₀ c₃ s₃
  block_added left right rest = record {
    tallies = λ f o t. tally_same (λ m. by_block b read m (f m)) (λ m. holds_block b read m (o m)) (rest.tallies _ _ (right.tallies _ _ (left.tallies f o t)));
    grows = λ j d. record { at = λ i. omega (arith, (rest.grows (j + 1 + 1) (right.grows (j + 1) (left.grows j d))).at i) };
  }

-- there is room for the left, for the right, and for the messages
pub left_room : {c₀ : List ℕ} → Below 2000000 c₀ → Below 4000000 c₀
left_room h = record { at = λ i. omega (arith, h.at i) }

module _ {c₀ c₁ s₀ s₁ n : List ℕ} {p : ℕ} {test : ℕ → Bool} (h : Below 2000000 c₀) (one : AddsOne p test n c₀ s₀ c₁ s₁) where
  pub right_room : Below 4000000 c₁
  right_room = record { at = λ i. omega (arith, (one.grows 2000000 h).at i) }

  pub bag_room : {c₂ s₂ n₂ : List ℕ} {more : ℕ → Bool} → AddsOne p more n₂ c₁ s₁ c₂ s₂ → Below 3000000 c₂
  bag_room two = record { at = λ i. omega (arith, (two.grows 2000001 (one.grows 2000000 h)).at i) }
