-- Closing the circle: the table of an accepted line in written order is accepted and read back as that line, and an accepted table in
-- written order is written as it was.
use mathlib.Core.Path.{◌≡◌, refl, sym, ap, ◌∙◌}
use mathlib.Core.Bool.{Bool, true, false}
use mathlib.Core.List.Memᴰ.{head as here}
use mathlib.Core.List.Memᴰ.{tail as there}
use mathlib.Core.List.{List, [], ◌∷◌, map, map-map, Memᴰ as Member}
use Prim.Native.Nat.{ℕ, zero, suc, ◌+◌, ◌*◌, ◌/◌, ◌%◌, ◌<◌}
use native.Mathlib.Omega.{arith}
use lib.Dec.{ltb}
use lib.ListN.{length, get_or, take, drop, length-append, length-take, length-drop, take-append-drop, get_or-eq_default}
use lib.Seq.{length-take-le, get_or-take, get_or-drop}
use borrow.Author.Tests.{eqb-true, eq-eqb, le-leb, ltb-true, ltb-false}
use Rattle.lists.specs.Lists.{all}
use Rattle.line.specs.Node.{Node, Line, numbers, Present}
use Rattle.line.specs.Links.{by_neighbour, by_introduction}
use Rattle.line.specs.Accepted.{Accepted, has_sides, names_present}
use Rattle.lists.proofs.Lists.{true_all, map-mem, map_self}
use Rattle.line.proofs.AcceptedTest.{has_sides_lem, names_present_lem}
use Rattle.lists.proofs.Distinct.{are_distinct_lem}
use Rattle.line.proofs.Changes.{node_of_lem}
use Rattle.line.proofs.WrittenOrder.{written_order_stays}
use Rattle.octets.specs.Bytes.{AreBytes}
use Rattle.block.specs.Layout.{check_holds, fields_hold, node_of}
use Rattle.writing.specs.Encoding.{encode}
use Rattle.writing.specs.Claims.{Ranged, Writable}
use Rattle.block.proofs.FieldLaws.{no_fault}
use Rattle.writing.proofs.ReadBack.{written_length, written_reads_back}
use Rattle.writing.proofs.Rewritten.{rewritten_same as same_block}
use Rattle.block.specs.Layout as block
use Rattle.table.specs.Blocks.{blocks, nodes, line_of, bytes_of}
use Rattle.table.specs.Fault.{fault_of}
use Rattle.table.specs.Claims.{WrittenAccepted, RewrittenSame}
use Rattle.table.proofs.BlockLaws.{blocks_none, blocks_cons}
use Rattle.table.proofs.FaultLaws.{no_fault_of, Passes, accepted_passes, passes_accepted, passes_clean}

-- The table of a line, node by node.
abbrev Blocks512 : Line → Type 0
Blocks512 line = (s : Node) → Member s line → length (encode s) ≡ 512

bytes_length : (line : Line) → Blocks512 line → length (bytes_of line) ≡ 512 * length line
unfolding bytes_of
bytes_length [] h = refl
bytes_length (s ∷ line) h = omega (arith, length-append (encode s) (bytes_of line), h s (here refl), bytes_length line (λ x m. h x (there m)))

written_blocks : (line : Line) → Blocks512 line → blocks (bytes_of line) ≡ map encode line
unfolding bytes_of
written_blocks [] h = blocks_none
written_blocks (s ∷ line) h = blocks_cons (encode s) (bytes_of line) (h s (here refl)) ∙ ap (λ (l : List (List ℕ)). encode s ∷ l) (written_blocks line (λ x m. h x (there m)))

-- An accepted line names stations with a block alone, whose numbers are in range; so every node of it can be written.
module _ (line : Line) (a : Accepted line) where
  present_ranged : (q : ℕ) → Present line q → Ranged q
  present_ranged q m = let w = node_of_lem line m in rw w.2 (a.ranged w.0 w.1)

  writable : (s : Node) → Member s line → Writable s
  writable s m = record {
    numbered = a.ranged s m;
    neighbours = λ d q e. present_ranged q (a.known s m q (by_neighbour d e));
    introduced = λ q k. present_ranged q (a.known s m q (by_introduction k));
    marked = a.marked s m;
    small = a.small s m;
    sided = (has_sides_lem s).1 (a.sided s m);
  }

  full : Blocks512 line
  full s m = written_length s (a.small s m)

  read_back : nodes (bytes_of line) ≡ line
  unfolding nodes
  read_back =
      ap (map node_of) (written_blocks line full)
      ∙ map-map node_of encode line
      ∙ map_self (λ (s : Node). node_of (encode s)) line (λ s m. (written_reads_back s (writable s m)).1)

  -- a test that every block without a fault passes
  every_block : (f : List ℕ → Bool) → ((b : List ℕ) → block.fault_of b ≡ 0 → f b ≡ true) → all f (blocks (bytes_of line)) ≡ true
  every_block f h =
      rw (written_blocks line full)
      (true_all f (map encode line) (λ b m. let w = map-mem encode line m in rw w.2 (h (encode w.0) (written_reads_back w.0 (writable w.0 w.1)).0)))

  written_passes : Passes (bytes_of line)
  written_passes =
      let n = bytes_length line full in
      record {
        whole = eq-eqb (length (bytes_of line) % 512) 0 (omega arith);
        few = le-leb (length (bytes_of line) / 512) 64 (omega (arith, a.few));
        checks = every_block check_holds (λ b e. (no_fault b e).0);
        fields = every_block fields_hold (λ b e. (no_fault b e).1);
        sides = rw read_back (true_all has_sides line (λ s m. (has_sides_lem s).1 (a.sided s m)));
        distinct = rw read_back ((are_distinct_lem (numbers line)).1 a.distinct);
        names = rw read_back (true_all (names_present line) line (λ s m. (names_present_lem line s).1 (a.known s m)));
      }

  -- the table of a line in any order
  pub stored_blocks : blocks (bytes_of line) ≡ map encode line
  stored_blocks = written_blocks line full

  pub stored_accepted : (fault_of (bytes_of line) ≡ 0) × (nodes (bytes_of line) ≡ line)
  stored_accepted = (passes_accepted (bytes_of line) written_passes, read_back)

pub written_accepted : WrittenAccepted
unfolding line_of
written_accepted line a w =
    let stored = stored_accepted line a in
    (stored.0, stored.1, rw stored.1 (written_order_stays line w))

-- Rewriting, block by block.
bytes_take : (t : List ℕ) (n : ℕ) → AreBytes t → AreBytes (take n t)
bytes_take t n h i = go (ltb i n) refl
  where
    go : (b : Bool) → ltb i n ≡ b → get_or (take n t) i 0 < 256
    go true e = rw (get_or-take n t i 0 (ltb-true i n e)) (h i)
    go false e = rw (get_or-eq_default (take n t) 0 {n = i} (omega (arith, length-take n t, ltb-false i n e))) (omega arith)

rewritten : (n : ℕ) (t : List ℕ) → length t ≡ 512 * n → AreBytes t → ((b : List ℕ) → Member b (blocks t) → block.fault_of b ≡ 0) → bytes_of (nodes t) ≡ t
unfolding nodes bytes_of
rewritten zero [] e h f = rw blocks_none
rewritten zero (x ∷ t) e h f = absurd (omega arith)
rewritten (suc n) t e h f =
    let b = take 512 t in
    let rest = drop 512 t in
    let size : length b ≡ 512 = length-take-le 512 t (omega arith) in
    let parts : blocks t ≡ b ∷ blocks rest = ap blocks (sym (take-append-drop 512 t)) ∙ blocks_cons b rest size in
    let first = same_block b size (bytes_take t 512 h) (f b (rw parts (here refl))) in
    let others = rewritten n rest (omega (arith, length-drop 512 t)) (λ i. rw (get_or-drop 512 t i 0) (h (512 + i))) (λ c m. f c (rw parts (there m))) in
    rw (parts, first, others, take-append-drop 512 t)

-- an accepted table is that of its stations as they are stored
pub stored_same : (t : List ℕ) → AreBytes t → fault_of t ≡ 0 → bytes_of (nodes t) ≡ t
stored_same t h e =
    let p = accepted_passes t e in
    let whole = eqb-true (length t % 512) 0 p.whole in
    rewritten (length t / 512) t (omega arith) h (λ b m. no_fault_of (blocks t) (passes_clean t p) m)

pub rewritten_same : RewrittenSame
unfolding line_of
rewritten_same t h e w = rw (written_order_stays (nodes t) w) (stored_same t h e)
