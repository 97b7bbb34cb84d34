-- The arrays of a table hold its line.
use Prim.Native.Nat.{ℕ, ◌-◌, ◌/◌, ◌≤◌, ◌<◌, ◌+◌}
use mathlib.Core.Path.{◌≡◌, refl, sym, ap, ◌∙◌}
use mathlib.Core.List.{List, map, map-map, []}
use native.Mathlib.Omega.{arith}
use lib.ListN.{length, get_or, take, replicate, length-map, length-append, length-replicate, get_or-append}
use Rattle.arrays.proofs.Lines.{slot_of, line_get}
use Rattle.lists.specs.Lists.{sort}
use Rattle.lists.specs.Places.{range}
use Rattle.lists.proofs.Elements.{map_at, map_same, range_length, range_at}
use Rattle.line.specs.declared.Message.{Message}
use Rattle.line.specs.Message.{precedes}
use Rattle.line.specs.Node.{Node, nobody, with_bag_in_order}
use Rattle.index.specs.Index.{slot_in, numbers_in}
use Rattle.index.proofs.Entries.{entry_slot}
use Rattle.block.specs.Layout.{station_of, node_of, blank, row_of}
use Rattle.block.proofs.PlaceLaws.{row_held}
use Rattle.table.specs.Blocks.{block_at, line_of}
use Rattle.table.specs.Index.{number_at, index_array, index_of}
use Rattle.table.proofs.Indexing.{block_entry, positions, position_within, index_order, index_part, index_length}
use Rattle.table.proofs.Lines.{block_node, ordered_count, line_order, line_numbers, position_at, slot_at}
use Rattle.arrays.specs.Arrays.{node_at, line_in}
use Rattle.arrays.specs.Reading.{filled, count_of, arrays_of, counts_of}
use Rattle.arrays.specs.Claims.{LineOfTable, NumbersOfTable}

module _ (t : List ℕ) where
  pub filled_length : {A : Type 0} (f : List ℕ → A) (e : A) → length t / 512 ≤ 64 → length (filled f e t) ≡ 64
  unfolding filled
  filled_length f e h = simp (length-append, length-map, length-replicate) (omega (arith, range_length 0 (length t / 512)))

  module _ (k : ℕ) (h : k < length t / 512) where
    pub filled_at : {A : Type 0} (f : List ℕ → A) (e d : A) → get_or (filled f e t) k d ≡ f (block_at t k)
    unfolding filled
    filled_at {A} f e d =
        let n = length t / 512 in
        let g : ℕ → A = λ j. f (block_at t j) in
        let z : 0 + k ≡ k = omega arith in
        get_or-append (map g (range 0 n)) (replicate (64 - n) e) d k (omega (arith, length-map (range 0 n) g, range_length 0 n))
        ∙ map_at g (range 0 n) k 0 d (omega (arith, range_length 0 n)) ∙ ap g (range_at 0 n k h ∙ z)

    -- what is read of block k is its node
    pub node_read : node_at (arrays_of t) k ≡ block_node t k
    unfolding with_bag_in_order node_of
    node_read =
        rw (filled_at station_of nobody.station nobody.station, filled_at row_of (replicate 32 blank) [], filled_at count_of 0 0)
        (ap (λ (l : List Message). record { station = station_of (block_at t k); bag = sort precedes l }) (row_held (block_at t k)))

  module _ (few : length t / 512 ≤ 64) where
    entries : take (length t / 512) (index_array t) ≡ map (block_entry t) (positions t)
    entries = index_part t (length t / 512) refl ∙ index_order t few

    line_held : line_in (arrays_of t) ≡ line_of t
    unfolding line_in
    line_held =
        ap (map (λ (e : ℕ). node_at (arrays_of t) (slot_in e))) entries ∙ map-map (λ (e : ℕ). node_at (arrays_of t) (slot_in e)) (block_entry t) (positions t)
        ∙ map_same (positions t) (λ k m.
        let h = position_within t m in
        ap (node_at (arrays_of t)) (entry_slot (number_at t k) k (omega arith)) ∙ node_read k h)
        ∙ sym (line_order t)

pub line_of_table : LineOfTable
line_of_table t few = line_held t few

pub numbers_of_table : NumbersOfTable
numbers_of_table t few = ap numbers_in (index_part t (length t / 512) refl) ∙ line_numbers t few

-- the count in each slot is that of its bag
pub tallied_table : (t : List ℕ) → length t / 512 ≤ 64 → (j : ℕ) → j < length t / 512 → get_or (counts_of t) (slot_of (arrays_of t) j) 0 ≡ length (get_or (line_in (arrays_of t)) j nobody).bag
tallied_table t few j h =
    let n = length t / 512 in
    let k = get_or (positions t) j 0 in
    let within = position_at t j h in
    let size : length (index_array t) ≡ 64 = length-append (index_of t) (replicate (64 - n) 0) ∙ omega (arith, index_length t, length-replicate {A = ℕ} (64 - n) 0) in
    let slot : slot_of (arrays_of t) j ≡ k = ap slot_in (get_or-append (index_of t) (replicate (64 - n) 0) 0 j (omega (arith, index_length t))) ∙ slot_at t few j h in
    let node : get_or (line_in (arrays_of t)) j nobody ≡ block_node t k = line_get (arrays_of t) (omega arith) j h nobody ∙ ap (node_at (arrays_of t)) slot ∙ node_read t k within in
    rw slot (filled_at t k within count_of 0 0) ∙ sym (ap (λ (s : Node). length s.bag) node ∙ ordered_count (block_at t k))
