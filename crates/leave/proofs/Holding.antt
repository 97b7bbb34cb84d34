-- Who holds a station, asked of the blocks in the order of the index.
use Prim.Native.Nat.{ℕ, ◌+◌, ◌≤◌, ◌<◌}
use mathlib.Core.Path.{◌≡◌, sym, ap, ◌∙◌}
use mathlib.Core.Bool.{Bool, true, false}
use mathlib.Core.List.{List}
use native.Mathlib.Omega.{arith}
use lib.ListN.{length, get_or}
use Rattle.lists.specs.Places.{first_at}
use Rattle.lists.proofs.Lists.{sort-any}
use Rattle.line.specs.Message.{introduction, same, precedes}
use Rattle.line.specs.Node.{Node, with_bag_in_order, nobody}
use Rattle.line.specs.Nidec.{names}
use Rattle.line.specs.Leave.{is_holder}
use Rattle.block.specs.Layout.{node_of}
use Rattle.index.specs.Index.{slot_in}
use Rattle.table.specs.Blocks.{block_at, line_of}
use Rattle.table.specs.Fault.{fault_of}
use Rattle.table.specs.Index.{index_of}
use Rattle.table.proofs.Lines.{line_long, line_at}
use Rattle.moves.proofs.Holding.{NoneTo, none_next, holder_found, none_holds}

-- the order of a bag plays no part
holds_in_order : (p : ℕ) (s : Node) → is_holder p (with_bag_in_order s) ≡ is_holder p s
unfolding names with_bag_in_order
holds_in_order p s = rw (sort-any precedes (same (introduction p)) s.bag)

-- None of the first j stations of an accepted table holds p.
module _ (t index : List ℕ) (clean : fault_of t ≡ 0) (listed : index ≡ index_of t) {p j : ℕ} (so_far : NoneTo p (line_of t) j) where
  -- the block of the station at place j is asked
  module _ (h : j < length index) {b : List ℕ} (read : b ≡ block_at t (slot_in (get_or index j 0))) {x : Bool} (tells : x ≡ is_holder p (node_of b)) where
    holds_here : is_holder p (get_or (line_of t) j nobody) ≡ x
    holds_here = ap (is_holder p) (line_at t index clean listed j h read) ∙ holds_in_order p (node_of b) ∙ sym tells

    pub block_passed : x ≡ false → NoneTo p (line_of t) (j + 1)
    block_passed e = none_next so_far (omega (arith, line_long t index clean listed)) (holds_here ∙ e)

    pub block_holds : x ≡ true → j ≡ first_at (is_holder p) (line_of t)
    block_holds e = holder_found so_far (omega (arith, line_long t index clean listed)) (holds_here ∙ e)

  pub no_block_holds : length index ≤ j → length index ≡ first_at (is_holder p) (line_of t)
  no_block_holds h =
      let w = so_far.within in
      let long = line_long t index clean listed in
      let e : length index ≡ j = omega arith in
      e ∙ none_holds so_far (omega arith)
