-- Whether the neighbours of a table are in line: its stations one after another in the order of the index, each beside the one before and the
-- one after.
use Prim.Native.Nat.{ℕ, ◌+◌, ◌≤◌, ◌<◌}
use Rattle.std.specs.Prelude.{Some, None}
use Rattle.line.specs.Types.{Neighbour}
use mathlib.Core.Path.{◌≡◌, refl, sym, ap, ◌∙◌}
use mathlib.Core.Bool.{Bool, true, false, ◌&&◌, and_assoc}
use mathlib.Core.List.{List}
use lib.ListN.{length, get_or, drop}
use Rattle.line.specs.declared.Station as declared
use Rattle.line.specs.Node.{Node, number, with_bag_in_order}
use Rattle.line.specs.InLine.{is_same, first, neighbours_after, neighbours_in_line}
use Rattle.line.proofs.Places.{place}
use Rattle.index.specs.Index.{slot_in}
use Rattle.block.specs.Layout.{station_of, node_of}
use Rattle.table.specs.Blocks.{block_at, line_of}
use Rattle.table.specs.Fault.{fault_of}
use Rattle.table.specs.Index.{index_of}
use Rattle.table.proofs.Lines.{line_from, line_end, line_at}

-- the stations before place i stand, and `before` is the last of them: whether the neighbours are in line is what is left to test
pub record StandTo (t : List ℕ) (before : Neighbour) (i : ℕ) : Type 0 where
  pub is : neighbours_in_line (line_of t) ≡ neighbours_after before (drop i (line_of t))

pub stand_none : (t : List ℕ) → StandTo t None 0
unfolding neighbours_in_line
stand_none t = record { is = refl }

module _ (t index : List ℕ) (clean : fault_of t ≡ 0) (listed : index ≡ index_of t) where
  -- the station at place i, or none behind the last
  pub present_some : (i : ℕ) → i < length index → {n : ℕ} → n ≡ number (node_of (block_at t (slot_in (get_or index i 0)))) → Some n ≡ first (drop i (line_of t))
  unfolding first with_bag_in_order
  present_some i h e = rw (line_from t index clean listed i h, line_at t index clean listed i h refl, e)

  pub present_none : (i : ℕ) → length index ≤ i → None ≡ first (drop i (line_of t))
  unfolding first
  present_none i h = rw (line_end t index clean listed i h)

  module _ {before : Neighbour} {i : ℕ} (so_far : StandTo t before i) where
    -- x, whether the station at place i stands
    module _ (h : i < length index) {b : List ℕ} (read : b ≡ block_at t (slot_in (get_or index i 0))) {s : declared.Station} (station : s ≡ station_of b)
        {after : Neighbour} (behind : after ≡ first (drop (i + 1) (line_of t))) {x : Bool} (tells : x ≡ (is_same s.left before && is_same s.right after)) where
      here : (place (line_of t) i).station ≡ s
      unfolding with_bag_in_order node_of
      here = ap (λ (z : Node). z.station) (line_at t index clean listed i h read) ∙ sym station

      next : neighbours_in_line (line_of t) ≡ (x && neighbours_after (Some s.number) (drop (i + 1) (line_of t)))
      unfolding neighbours_after
      next =
          let n : number (place (line_of t) i) ≡ s.number = ap (λ (z : declared.Station). z.number) here in
          so_far.is ∙ rw (line_from t index clean listed i h, here, n, ← behind, tells, and_assoc)

      pub stand_next : x ≡ true → StandTo t (Some s.number) (i + 1)
      stand_next y = record { is = next ∙ rw y }

      pub stand_not : x ≡ false → false ≡ neighbours_in_line (line_of t)
      stand_not y = sym (next ∙ rw y)

    pub stand_all : length index ≤ i → true ≡ neighbours_in_line (line_of t)
    unfolding neighbours_after
    stand_all h = sym (so_far.is ∙ rw (line_end t index clean listed i h))
