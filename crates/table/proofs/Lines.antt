-- The line of an accepted table by its index: the station at each place of the index, and the block in which it stands.
use Prim.Native.Nat.{ℕ, ◌+◌, ◌/◌, ◌≤◌, ◌<◌}
use mathlib.Core.Path.{◌≡◌, refl, sym, ap, ◌∙◌}
use mathlib.Core.List.{List, [], ◌∷◌, map, map-map}
use native.Mathlib.Omega.{arith}
use lib.ListN.{length, get_or, take, drop, length-map, length-take, drop_of_length-le}
use borrow.Author.Tests.{leb-true}
use Rattle.lists.specs.Lists.{sort}
use Rattle.lists.specs.Places.{range}
use Rattle.lists.specs.Numbers.{Rising}
use Rattle.lists.proofs.Lists.{sort-map, sort-length}
use Rattle.lists.proofs.Elements.{map_at, map_same, member_at, drop_one}
use Rattle.line.specs.Message.{precedes}
use Rattle.line.specs.Node.{Node, number, numbers, nobody, lower, with_bag_in_order, in_written_order}
use Rattle.index.specs.Index.{slot_in, number_in, numbers_in}
use Rattle.index.proofs.Entries.{entry_number, entry_slot}
use Rattle.octets.specs.Bytes.{word}
use Rattle.block.specs.Layout.{station_of, node_of, messages}
use Rattle.block.proofs.FieldLaws.{no_fault_count}
use Rattle.block.proofs.PlaceLaws.{length_messages}
use Rattle.std.specs.Prelude.{Ok, Err}
use Rattle.line.specs.declared.Fault.{Fault}
use Rattle.line.specs.Answer.{fault_number}
use Rattle.table.specs.Blocks.{block_at, blocks, nodes, line_of}
use Rattle.table.specs.Fault.{fault_of}
use Rattle.table.specs.Index.{number_at, index_of, index_array, Inspects}
use Rattle.table.proofs.BlockLaws.{block_member}
use Rattle.table.proofs.FaultLaws.{accepted_passes, passes_clean, no_fault_of}
use Rattle.table.proofs.Indexing.{block_entry, positions, positions_length, position_within, index_order, index_part, index_length}
use Rattle.table.proofs.Accepting.{table_accepted}

-- the node of block k, its bag in written order
abbrev pub block_node : List ℕ → ℕ → Node
block_node t k = with_bag_in_order (node_of (block_at t k))

-- as many messages as the block counts
pub ordered_count : (b : List ℕ) → length (with_bag_in_order (node_of b)).bag ≡ word b 16
unfolding with_bag_in_order node_of
ordered_count b = sort-length precedes (messages b (word b 16)) ∙ length_messages b (word b 16)

-- the line of a table is what its blocks hold, in the order of their station numbers
pub line_order : (t : List ℕ) → line_of t ≡ map (block_node t) (positions t)
unfolding line_of nodes blocks in_written_order lower with_bag_in_order node_of station_of
line_order t =
    let r = range 0 (length t / 512) in
    ap (sort lower) (ap (map with_bag_in_order) (map-map node_of (block_at t) r) ∙ map-map with_bag_in_order (λ (k : ℕ). node_of (block_at t k)) r) ∙ sym (sort-map (block_node t) lower r)

pub line_size : (t : List ℕ) → length (line_of t) ≡ length t / 512
line_size t = ap length (line_order t) ∙ length-map (positions t) (block_node t) ∙ positions_length t

-- the index has the station numbers of the line
pub line_numbers : (t : List ℕ) → length t / 512 ≤ 64 → numbers_in (index_of t) ≡ numbers (line_of t)
unfolding with_bag_in_order node_of station_of
line_numbers t few =
    ap numbers_in (index_order t few) ∙ map-map number_in (block_entry t) (positions t)
    ∙ map_same (positions t) (λ k m. let h = position_within t m in entry_number (number_at t k) k (omega arith))
    ∙ sym (ap numbers (line_order t) ∙ map-map number (block_node t) (positions t))

-- the position of the block at place i, and that the entry of the index at i has it as its slot
module _ (t : List ℕ) where
  pub position_at : (i : ℕ) → i < length t / 512 → get_or (positions t) i 0 < length t / 512
  position_at i h = position_within t (member_at (positions t) i 0 (omega (arith, positions_length t)))

  pub slot_at : length t / 512 ≤ 64 → (i : ℕ) → i < length t / 512 → slot_in (get_or (index_of t) i 0) ≡ get_or (positions t) i 0
  slot_at few i h =
      let k = get_or (positions t) i 0 in
      ap (λ (l : List ℕ). slot_in (get_or l i 0)) (index_order t few) ∙ ap slot_in (map_at (block_entry t) (positions t) i 0 0 (omega (arith, positions_length t)))
      ∙ entry_slot (number_at t k) k (omega (arith, position_at i h))

-- A table without a fault has at most 64 blocks, and no block counts more than 32 messages.
module _ (t : List ℕ) (clean : fault_of t ≡ 0) where
  pub clean_few : length t / 512 ≤ 64
  clean_few = leb-true (length t / 512) 64 (accepted_passes t clean).few

  pub clean_count : (k : ℕ) → k < length t / 512 → {b : List ℕ} → b ≡ block_at t k → word b 16 ≤ 32
  clean_count k h e = rw e (no_fault_count (block_at t k) (no_fault_of (blocks t) (passes_clean t (accepted_passes t clean)) (block_member t k h)))

-- What the check hands on of an accepted table.
module _ {t index : List ℕ} (found : Inspects t (Ok index)) where
  pub inspected_clean : fault_of t ≡ 0
  inspected_clean = sym found.fault_is

  pub inspected_array : index ≡ index_array t
  inspected_array = found.index_is

  pub inspected_index : take (length t / 512) index ≡ index_of t
  inspected_index = rw inspected_array (index_part t (length t / 512) refl)

  pub inspected_size : length t / 512 ≡ length (take (length t / 512) index)
  inspected_size = sym (ap length inspected_index ∙ index_length t)

  pub inspected_long : length t / 512 ≤ length index
  inspected_long = omega (arith, inspected_size, length-take (length t / 512) index)

-- And of another one.
pub inspected_refused : {t : List ℕ} {f : Fault} → Inspects t (Err f) → fault_of t ≡ fault_number f
inspected_refused found = sym found.fault_is

-- The index of an accepted table.
module _ (t index : List ℕ) (clean : fault_of t ≡ 0) (is : index ≡ index_of t) where
  index_size : length index ≡ length t / 512
  index_size = rw is (index_length t)

  pub line_long : length (line_of t) ≡ length index
  line_long = line_size t ∙ sym index_size

  pub numbers_listed : numbers_in index ≡ numbers (line_of t)
  numbers_listed = ap numbers_in is ∙ line_numbers t (clean_few t clean)

  pub numbers_rise : Rising (numbers_in index)
  numbers_rise = rw numbers_listed (table_accepted t clean).2.rising

  pub line_end : (i : ℕ) → length index ≤ i → drop i (line_of t) ≡ []
  line_end i h = drop_of_length-le (line_of t) {i = i} (omega (arith, line_long))

  -- the station at place i stands in the block of its slot
  module _ (i : ℕ) (h : i < length index) where
    within : i < length t / 512
    within = omega (arith, index_size)

    slot_is : slot_in (get_or index i 0) ≡ get_or (positions t) i 0
    slot_is = rw is (slot_at t (clean_few t clean) i within)

    pub line_from : drop i (line_of t) ≡ get_or (line_of t) i nobody ∷ drop (i + 1) (line_of t)
    line_from = drop_one (line_of t) nobody i (omega (arith, line_long))

    pub slot_within : slot_in (get_or index i 0) < length t / 512
    slot_within = rw slot_is (position_at t i within)

    pub slot_count : {b : List ℕ} → b ≡ block_at t (slot_in (get_or index i 0)) → word b 16 ≤ 32
    slot_count e = clean_count t clean (slot_in (get_or index i 0)) slot_within e

    pub line_at : {b : List ℕ} → b ≡ block_at t (slot_in (get_or index i 0)) → get_or (line_of t) i nobody ≡ with_bag_in_order (node_of b)
    line_at e =
        ap (λ (l : List Node). get_or l i nobody) (line_order t) ∙ map_at (block_node t) (positions t) i 0 nobody (omega (arith, positions_length t, within))
        ∙ rw (e, slot_is)
