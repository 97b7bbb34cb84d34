-- Whether every station of a table stays and no removal waits in a bag, asked of the blocks in the order of the index.
use Prim.Native.Nat.{ℕ, ◌+◌, ◌≤◌, ◌<◌}
use mathlib.Core.Path.{◌≡◌, sym, ap, ◌∙◌}
use mathlib.Core.Bool.{Bool, true, false, ◌&&◌}
use mathlib.Core.List.{List}
use lib.ListN.{length, get_or, drop}
use Rattle.lists.specs.Lists.{all}
use Rattle.lists.proofs.Lists.{all_both, sort-any}
use Rattle.line.specs.Message.{is_removal, precedes}
use Rattle.line.specs.Node.{Node, nobody, with_bag_in_order}
use Rattle.line.specs.InLine.{is_quiet, stays}
use Rattle.index.specs.Index.{slot_in}
use Rattle.block.specs.Layout.{node_of}
use Rattle.table.specs.Blocks.{block_at, line_of}
use Rattle.table.specs.Fault.{fault_of}
use Rattle.table.specs.Index.{index_of}
use Rattle.table.proofs.Lines.{line_from, line_end, line_at}

-- both of one station
abbrev pub is_settled : Node → Bool
is_settled s = is_quiet s && stays s

-- the order of a bag plays no part
settled_in_order : (s : Node) → is_settled (with_bag_in_order s) ≡ is_settled s
unfolding is_quiet with_bag_in_order
settled_in_order s = rw (sort-any precedes is_removal s.bag)

-- the stations before place i are settled: whether all are is what is left to test
pub record SettledTo (t : List ℕ) (i : ℕ) : Type 0 where
  pub is : (all is_quiet (line_of t) && all stays (line_of t)) ≡ all is_settled (drop i (line_of t))

pub settled_none : (t : List ℕ) → SettledTo t 0
settled_none t = record { is = all_both is_quiet stays (line_of t) }

module _ (t index : List ℕ) (clean : fault_of t ≡ 0) (listed : index ≡ index_of t) where
  module _ {i : ℕ} (so_far : SettledTo t i) where
    -- x, whether the station at place i is settled
    module _ (h : i < length index) {b : List ℕ} (read : b ≡ block_at t (slot_in (get_or index i 0))) {x : Bool} (tells : x ≡ is_settled (node_of b)) where
      here : is_settled (get_or (line_of t) i nobody) ≡ x
      here = ap is_settled (line_at t index clean listed i h read) ∙ settled_in_order (node_of b) ∙ sym tells

      next : (all is_quiet (line_of t) && all stays (line_of t)) ≡ (x && all is_settled (drop (i + 1) (line_of t)))
      unfolding all
      next = so_far.is ∙ rw (line_from t index clean listed i h, here)

      pub settled_next : x ≡ true → SettledTo t (i + 1)
      settled_next y = record { is = next ∙ rw y }

      pub settled_not : x ≡ false → false ≡ (all is_quiet (line_of t) && all stays (line_of t))
      settled_not y = sym (next ∙ rw y)

    pub settled_all : length index ≤ i → true ≡ (all is_quiet (line_of t) && all stays (line_of t))
    unfolding all
    settled_all h = sym (so_far.is ∙ rw (line_end t index clean listed i h))
