-- The blocks from k on are counted.
use Prim.Native.Nat.{ℕ, zero, suc, ◌+◌, ◌-◌, ◌*◌, ◌/◌, ◌≤◌, ◌<◌}
use mathlib.Core.Path.{◌≡◌, refl, sym, ap, ◌∙◌}
use mathlib.Core.List.{List, [], ◌∷◌, map}
use native.Mathlib.Omega.{arith}
use lib.ListN.{length, get_or, drop, replicate, drop_of_length-le, length-replicate}
use Rattle.line.specs.Node.{Line}
use Rattle.line.specs.Leave.{holder_of}
use Rattle.index.specs.Index.{numbers_in}
use Rattle.index.proofs.Entries.{numbers_length}
use Rattle.block.specs.Layout.{node_of}
use Rattle.table.specs.Blocks.{block_at, blocks, nodes}
use Rattle.table.specs.Fault.{fault_of}
use Rattle.table.proofs.BlockLaws.{blocks_from, nodes_length}
use Rattle.table.proofs.Lines.{clean_few}
use Rattle.mentions.specs.Mentions.{mentions}
use Rattle.mentions.specs.Tally.{TallyOf, Below, AddsNode}

-- of nobody, the arrays are as they begin
replicated : {A : Type 0} (x : A) (l : List ℕ) → replicate (length l) x ≡ map (λ (m : ℕ). x) l
replicated x [] = refl
replicated x (m ∷ l) = ap (λ (r : List _). x ∷ r) (replicated x l)

zero_below : (n : ℕ) → Below 0 (replicate n 0)
zero_below n = record { at = λ i. go n i }
  where
    go : (n i : ℕ) → get_or (replicate n 0) i 0 ≤ 0
    go zero i = omega arith
    go (suc n) zero = omega arith
    go (suc n) (suc i) = go n i

pub lent_alike : {counts smallest : List ℕ} (index : List ℕ) → counts ≡ replicate (length index) 0 → smallest ≡ replicate (length index) 4294967295 → length counts ≡ length smallest
lent_alike index c s = rw (c, s) (length-replicate (length index) 0 ∙ sym (length-replicate (length index) 4294967295))

pub record CountedTo (t index : List ℕ) (k : ℕ) (counts smallest : List ℕ) : Type 0 where
  pub within : k ≤ length t / 512
  pub few : length t / 512 ≤ 64
  pub tally : TallyOf (numbers_in index) counts smallest (drop k (nodes t))
  pub below : Below (34 * (length t / 512 - k)) counts

pub counted_none : (t index counts smallest : List ℕ) → fault_of t ≡ 0 → counts ≡ replicate (length index) 0 → smallest ≡ replicate (length index) 4294967295
    → CountedTo t index (length t / 512) counts smallest
unfolding mentions holder_of
counted_none t index counts smallest clean c s = record {
  within = omega arith;
  few = clean_few t clean;
  tally = rw (drop_of_length-le (nodes t) {i = length t / 512} (omega (arith, nodes_length t))) (record {
    counted = c ∙ rw (← numbers_length index) (replicated 0 (numbers_in index));
    least = s ∙ rw (← numbers_length index) (replicated 4294967295 (numbers_in index));
  });
  below = rw c (record { at = λ i. omega (arith, (zero_below (length index)).at i) });
}

-- the stations of the blocks, one after another
nodes_from : (t : List ℕ) (k : ℕ) → k < length t / 512 → drop k (nodes t) ≡ node_of (block_at t k) ∷ drop (k + 1) (nodes t)
unfolding nodes
nodes_from t k h = drop-map (blocks t) k ∙ rw (blocks_from t k h) (ap (λ (l : Line). node_of (block_at t k) ∷ l) (sym (drop-map (blocks t) (k + 1))))
  where
    drop-map : (l : List (List ℕ)) (i : ℕ) → drop i (map node_of l) ≡ map node_of (drop i l)
    drop-map l zero = refl
    drop-map [] (suc i) = refl
    drop-map (b ∷ l) (suc i) = drop-map l i

module _ {t index : List ℕ} {k : ℕ} {counts smallest : List ℕ} (so_far : CountedTo t index k counts smallest) where
  pub counted_room : Below 2000000 counts
  counted_room = record { at = λ i. omega (arith, so_far.below.at i, so_far.few) }

  -- block k - 1 is added
  pub counted_next : 0 < k → {b : List ℕ} → b ≡ block_at t (k - 1) → {counts' smallest' : List ℕ} → AddsNode (node_of b) (numbers_in index) counts smallest counts' smallest'
      → CountedTo t index (k - 1) counts' smallest'
  unfolding mentions holder_of
  counted_next h {b} read adds = record {
    within = omega (arith, so_far.within);
    few = so_far.few;
    tally =
        let last : k ≡ k - 1 + 1 = omega arith in
        rw (nodes_from t (k - 1) (omega (arith, so_far.within)), ← read) (adds.tallies _ _ (rw last at so_far.tally));
    below = record { at = λ i. omega (arith, (adds.grows _ so_far.below).at i, so_far.within) };
  }
