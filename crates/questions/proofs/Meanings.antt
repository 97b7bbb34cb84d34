-- A question is asked of the line in written order, and answers what the statement of the paper says of the blocks in stored order, because
-- both lines are alike. So it is of In line.
use Prim.Native.Nat.{ℕ}
use Rattle.std.specs.Prelude.{Ok, Err}
use mathlib.Core.Path.{◌≡◌, refl, sym, ap}
use mathlib.Core.Logic.{◌↔◌}
use mathlib.Core.Bool.{Bool, true, false}
use mathlib.Core.List.Memᴰ
use mathlib.Core.List.{List}
use mathlib.Core.List.{Memᴰ as Member}
use native.Mathlib.Omega.{arith}
use borrow.Author.Tests.{eq-eqb}
use Rattle.line.specs.declared.Message.{Message}
use Rattle.line.specs.declared.Marks.{Marks}
use Rattle.line.specs.declared.Side.{Side}
use Rattle.line.specs.declared.Side.TheVariants.{Left, Right}
use Rattle.line.specs.Message.{same}
use Rattle.line.specs.Node.{Node, Line, number, neighbour}
use Rattle.line.specs.Alike.{AlikeNodes, Alike}
use Rattle.line.specs.InLine.{InLine, in_line}
use Rattle.lists.proofs.Lists.{clash, counts_one, counted, mem-map}
use Rattle.line.proofs.Changes.{node_of_lem}
use Rattle.line.proofs.Messages.{same_true, same_refl}
use Rattle.line.proofs.InLineTest.{in_line_tested}
use Rattle.line.proofs.InLineKept.{in_line_kept}
use Rattle.line.proofs.WrittenOrder.{written_order_keeps}
use Rattle.table.specs.Blocks.{nodes, line_of}
use Rattle.table.specs.Fault.{fault_of}
use Rattle.table.proofs.Accepting.{table_accepted}
use Rattle.questions.specs.Told.{yes_no, asked, is_in_line}
use Rattle.questions.specs.Claims.{InLineMeans}

-- alike nodes are alike either way round
pub nodes_back : {s t : Node} → AlikeNodes s t → AlikeNodes t s
nodes_back h = record { left = sym h.left; right = sym h.right; marks = sym h.marks; bag = λ m. sym (h.bag m) }

-- so are alike lines
pub alike_back : {a b : Line} → Alike a b → Alike b a
alike_back h = record {
  stations = λ n. ((h.stations n).1, (h.stations n).0);
  nodes = λ s t m k e. nodes_back (h.nodes t s k m (sym e));
}

-- Of alike nodes:
module _ {s t : Node} (h : AlikeNodes s t) where
  -- the neighbours are the same
  pub same_neighbour : (d : Side) → neighbour d s.station ≡ neighbour d t.station
  same_neighbour Left = h.left
  same_neighbour Right = h.right

  -- what is in one bag is in the other
  pub same_messages : {m : Message} → Member m s.bag → Member m t.bag
  same_messages {m} k =
      let w = counted (same m) t.bag (rw (← (h.bag m)) (counts_one (same m) k (same_refl m))) in
      Memᴰ.cast (same_true m w.0 w.2) w.1

-- a node of a line that is alike to a node of another
pub record Partner (line : Line) (s : Node) : Type 0 where
  pub node : Node
  pub member : Member node line
  pub named : number s ≡ number node
  pub alike : AlikeNodes s node

-- Of alike lines:
module _ (a b : Line) (h : Alike a b) where
  -- each node of one has an alike node in the other
  pub partner : (t : Node) → Member t b → Partner a t
  partner t m =
      let w = node_of_lem a ((h.stations (number t)).1 (mem-map number m)) in
      record { node = w.0; member = w.1; named = w.2; alike = nodes_back (h.nodes w.0 t w.1 m (sym w.2)) }

  -- and stands for it in all that In line looks at, so one is in line where the other is
  in_line_alike : InLine a → InLine b
  in_line_alike l = in_line_kept a b h.stations (λ t m.
      let p = partner t m in
      record {
        node = p.node;
        member = p.member;
        named = p.named;
        sides = same_neighbour p.alike;
        mark = ap (λ (x : Marks). x.leaving) p.alike.marks;
        removals = λ d k. same_messages p.alike k;
      }) l

-- the blocks in stored order are alike to the line in written order
pub reading_alike : (t : List ℕ) → fault_of t ≡ 0 → Alike (nodes t) (line_of t)
unfolding line_of
reading_alike t h = (written_order_keeps (nodes t) (table_accepted t h).0).2

-- a question of an accepted table gets its answer
pub answered : (t : List ℕ) {A : Type 0} (refuse : ℕ → A) (x : A) → fault_of t ≡ 0 → asked t refuse x ≡ x
answered t refuse x h = rw (eq-eqb (fault_of t) 0 h) refl

-- which is yes exactly when the test holds
yes_means : (b : Bool) → (yes_no b ≡ Ok true) ↔ (b ≡ true)
yes_means true = (λ e. refl, λ e. refl)
yes_means false = (λ e. absurd (let z : ◌≡◌ {A = ℕ} 0 1 = cc in omega arith), λ e. clash e refl)

-- the question tests the written order, and being in line is that of the stored order
pub in_line_means : InLineMeans
unfolding is_in_line
in_line_means t h =
    let a = reading_alike t h in
    let yes = yes_means (in_line (line_of t)) in
    let tested = in_line_tested (line_of t) (table_accepted t h).2.rising in
    rw (answered t Err (yes_no (in_line (line_of t))) h) (
      λ e. in_line_alike (line_of t) (nodes t) (alike_back a) (tested.0 (yes.0 e)),
      λ l. yes.1 (tested.1 (in_line_alike (nodes t) (line_of t) a l)),
    )
