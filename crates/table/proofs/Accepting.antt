-- The stations of an accepted table are an accepted line, and alike tables have one line.
use mathlib.Core.Path.{◌≡◌}
use mathlib.Core.Bool.{true}
use mathlib.Core.List.{List}
use Prim.Native.Nat.{ℕ, ◌≤◌, ◌/◌}
use lib.ListN.{length}
use borrow.Author.Tests.{leb-true}
use Rattle.line.specs.Marks.{marks_hold}
use Rattle.line.specs.Node.{number, numbers}
use Rattle.line.specs.Message.{capacity}
use Rattle.line.specs.Accepted.{Accepted, in_range, has_sides, names_present}
use Rattle.lists.proofs.Lists.{all_true, map-mem}
use Rattle.line.proofs.MarkWords.{words_hold}
use Rattle.line.proofs.AcceptedTest.{in_range_lem, has_sides_lem, names_present_lem}
use Rattle.lists.proofs.Distinct.{are_distinct_lem}
use Rattle.line.proofs.WrittenOrder.{alike_agree, written_order_keeps}
use Rattle.octets.specs.Bytes.{word}
use Rattle.block.specs.Layout.{fields_hold, node_of, station_of}
use Rattle.block.proofs.FieldLaws.{field_facts}
use Rattle.block.proofs.PlaceLaws.{length_messages}
use Rattle.table.specs.Blocks.{blocks, nodes, line_of}
use Rattle.table.specs.Claims.{TableAccepted, AlikeTables}
use Rattle.table.proofs.BlockLaws.{nodes_length}
use Rattle.table.proofs.FaultLaws.{Passes, accepted_passes}

-- what a block with good fields says of its node
number_ranged : (b : List ℕ) → fields_hold b ≡ true → in_range (number (node_of b)) ≡ true
unfolding node_of station_of
number_ranged b h = (field_facts b h).number

marks_held : (b : List ℕ) → fields_hold b ≡ true → marks_hold (node_of b).station.marks ≡ true
unfolding node_of station_of
marks_held b h = words_hold (word b 2) (word b 18) (field_facts b h).flag (field_facts b h).site

bag_small : (b : List ℕ) → fields_hold b ≡ true → length (node_of b).bag ≤ capacity
unfolding node_of
bag_small b h = rw (length_messages b (word b 16)) (field_facts b h).count

pub nodes_accepted : (t : List ℕ) → Passes t → Accepted (nodes t)
unfolding nodes
nodes_accepted t p = record {
  few = rw (nodes_length t) (leb-true (length t / 512) 64 p.few);
  ranged = λ s m. let w = map-mem node_of (blocks t) m in (in_range_lem (number s)).0 (rw w.2 (number_ranged w.0 (all_true fields_hold p.fields w.1)));
  marked = λ s m. let w = map-mem node_of (blocks t) m in rw w.2 (marks_held w.0 (all_true fields_hold p.fields w.1));
  small = λ s m. let w = map-mem node_of (blocks t) m in rw w.2 (bag_small w.0 (all_true fields_hold p.fields w.1));
  sided = λ s m. (has_sides_lem s).0 (all_true has_sides p.sides m);
  distinct = (are_distinct_lem (numbers (nodes t))).0 p.distinct;
  known = λ s m. (names_present_lem (nodes t) s).0 (all_true (names_present (nodes t)) p.names m);
}

pub table_accepted : TableAccepted
unfolding line_of
table_accepted t h =
    let a = nodes_accepted t (accepted_passes t h) in
    let w = written_order_keeps (nodes t) a in
    (a, w.0, w.1)

pub alike_tables : AlikeTables
unfolding line_of
alike_tables t u h k a = alike_agree (nodes t) (nodes u) (nodes_accepted t (accepted_passes t h)) (nodes_accepted u (accepted_passes u k)) a
