-- The same of tables: a run writes the codes that it reads, and a table with all codes taken out is run alike.
use Prim.Native.Nat.{ℕ, ◌-◌, ◌%◌, ◌≤◌}
use Rattle.std.specs.Prelude.{Ok}
use mathlib.Core.Path.{◌≡◌, refl, sym, ap, ◌∙◌}
use mathlib.Core.Bool.{Bool, true, false, cond}
use mathlib.Core.List.Memᴰ
use mathlib.Core.List.{List, [], ◌∷◌, map, flat_map}
use mathlib.Core.List.Memᴰ.{head as here}
use mathlib.Core.List.Memᴰ.{tail as there}
use mathlib.Core.List.{Memᴰ as Member}
use native.Mathlib.Omega.{arith}
use lib.Dec.{eqb}
use lib.ListN.{length, take}
use lib.Seq.{take_at}
use Rattle.line.specs.declared.Marks.{Marks}
use Rattle.line.specs.Message.{capacity}
use Rattle.line.specs.Marks.{marks_hold}
use Rattle.line.specs.Node.{Node, Line, number, numbers, site, at_site}
use Rattle.line.specs.Links.{Linked, by_neighbour, by_introduction}
use Rattle.line.specs.Accepted.{Sided, Accepted}
use Rattle.line.specs.Run as machine
use Rattle.lists.proofs.Lists.{both_and, mem-map, map-mem, map-length}
use Rattle.line.proofs.MarkWords.{flags_hold_lem}
use Rattle.line.proofs.Changes.{node_of_lem}
use Rattle.line.proofs.Runs.{marks_kept}
use Rattle.line.proofs.WrittenOrder.{written_order_keeps}
use Rattle.octets.specs.Bytes.{word, quad, le16, sum_words, overwrite, AreBytes}
use Rattle.block.specs.Layout.{station_of, node_of}
use Rattle.writing.specs.Encoding.{header, encode}
use Rattle.writing.proofs.WritingLaws.{rest_zeros, body, encoded, length_body}
use Rattle.table.specs.Blocks.{blocks, nodes, line_of, bytes_of}
use Rattle.table.specs.Fault.{fault_of}
use Rattle.table.proofs.BlockLaws.{blocks_none}
use Rattle.table.proofs.Accepting.{table_accepted}
use Rattle.table.proofs.Circle.{stored_blocks, stored_accepted, stored_same}
use Rattle.steps.specs.Steps.{steps_of}
use Rattle.finishing.specs.Ended.{Outcome, run_of, ended_with}
use Rattle.engine.specs.Ran.{fault_before, refused_with, outcome, table_in}
use Rattle.engine.proofs.WholeLists.{table_fault, after_sound, table_in_ended, table_length, same_fault}
use Rattle.engine.proofs.Written.{either}
use Rattle.sites.specs.Sites.{without_sites, run_without_sites, block_without_site, table_without_sites}
use Rattle.sites.specs.Claims.{SitesKept, SameWithoutSites, TablesWithoutSites}
use Rattle.sites.proofs.Stations.{looks}
use Rattle.sites.proofs.Lines.{sites_play_no_part}

-- a block of the table has this number and this code
abbrev Sited : List ℕ → ℕ → ℕ → Type 0
Sited t n c = (b : List ℕ) × Member b (blocks t) × (quad b 4 ≡ n) × (word b 18 ≡ c)

-- a station of the line read is a block of the table, with its number and its marks
stored_site : (t : List ℕ) → fault_of t ≡ 0 → (s : Node) → Member s (line_of t) → Sited t (number s) (site s)
unfolding line_of nodes node_of station_of
stored_site t clean s m =
    let alike = (written_order_keeps (nodes t) (table_accepted t clean).0).2 in
    let v = node_of_lem (nodes t) ((alike.stations (number s)).1 (mem-map number m)) in
    let same = alike.nodes v.0 s v.1 m (sym v.2) in
    let w = map-mem node_of (blocks t) v.1 in
    (w.0, w.1, ap number (sym w.2) ∙ sym v.2, ap site (sym w.2) ∙ ap (λ (z : Marks). z.site) same.marks)

written_site : (t steps : List ℕ) → fault_of t ≡ 0 → (c : List ℕ) → Member c (blocks (bytes_of (run_of t steps).line)) → Sited t (quad c 4) (word c 18)
unfolding nodes node_of station_of
written_site t steps clean c m =
    let back = (stored_accepted (run_of t steps).line (after_sound t steps clean).0).1 in
    let w = marks_kept (line_of t) (steps_of steps) (table_accepted t clean).1 (node_of c) (rw back at (mem-map node_of m)) in
    let v = stored_site t clean w.0 w.1 in
    (v.0, v.1, v.2 ∙ w.2, v.3 ∙ ap (λ (z : Marks). z.site) w.3)

pub sites_kept : SitesKept
sites_kept t steps room c =
    either (λ (o : Outcome). Member c (blocks (table_in o)) → Sited t (quad c 4) (word c 18)) t steps room
    (λ e m. let clean = table_fault t steps room e in written_site t steps clean c (rw (table_in_ended t steps room clean) at m))
    (λ m. absurd (Memᴰ.not-nil (rw blocks_none at m)))

-- Codes taken out: what is accepted stays accepted.
bare_numbers : (line : Line) → numbers (without_sites line) ≡ numbers line
unfolding at_site
bare_numbers line = go line
  where
    go : (l : Line) → numbers (without_sites l) ≡ numbers l
    go [] = refl
    go (s ∷ l) = rw (go l)

bare_links : (s : Node) {q : ℕ} → Linked (at_site 0 s) q → Linked s q
unfolding at_site
bare_links s (by_neighbour d e) = by_neighbour d (sym (looks d s.station) ∙ e)
bare_links s (by_introduction m) = by_introduction m

bare_sided : (s : Node) → Sided s → Sided (at_site 0 s)
unfolding at_site
bare_sided s h d q e = h d q (sym (looks d s.station) ∙ e)

bare_accepted : (line : Line) → Accepted line → Accepted (without_sites line)
unfolding at_site marks_hold
bare_accepted line a = record {
  few = omega (arith, a.few, map-length (at_site 0) line);
  ranged = λ s m. let w = map-mem (at_site 0) line m in rw w.2 (a.ranged w.0 w.1);
  marked = λ s m. let w = map-mem (at_site 0) line m in rw w.2 (both_and (flags_hold_lem w.0.station.marks (a.marked w.0 w.1)) refl);
  small = λ s m. let w = map-mem (at_site 0) line m in rw w.2 (a.small w.0 w.1);
  sided = λ s m. let w = map-mem (at_site 0) line m in rw w.2 (bare_sided w.0 (a.sided w.0 w.1));
  distinct = rw (bare_numbers line) a.distinct;
  known = λ s m q l. let w = map-mem (at_site 0) line m in rw (bare_numbers line) (a.known w.0 w.1 q (bare_links w.0 (rw w.2 at l)));
}

-- Bytes 18-19 of a block are its code, and no other byte before the check word hangs on it.
cleared_front : (s : Node) (b : List ℕ) → take 510 b ≡ body s → block_without_site b ≡ encode (at_site 0 s)
unfolding encode overwrite body rest_zeros header at_site
cleared_front s b e = rw e

cleared_block : (s : Node) → length s.bag ≤ capacity → block_without_site (encode s) ≡ encode (at_site 0 s)
cleared_block s small =
    let rest = le16 (65535 - sum_words (body s) % 65536) in
    cleared_front s (encode s) (ap (take 510) (encoded s) ∙ take_at (body s) rest 510 (length_body s small))

cleared_blocks : (line : Line) → ((s : Node) → Member s line → length s.bag ≤ capacity) → flat_map block_without_site (map encode line) ≡ bytes_of (without_sites line)
unfolding flat_map bytes_of
cleared_blocks [] h = refl
cleared_blocks (s ∷ line) h = rw (cleared_block s (h s (here refl)), cleared_blocks line (λ x m. h x (there m)))

cleared_stored : (line : Line) → Accepted line → table_without_sites (bytes_of line) ≡ bytes_of (without_sites line)
cleared_stored line a = ap (flat_map block_without_site) (stored_blocks line a) ∙ cleared_blocks line a.small

module _ (t : List ℕ) (clean : fault_of t ≡ 0) where
  abbrev bare : List ℕ
  bare = bytes_of (without_sites (nodes t))

  cleared : AreBytes t → table_without_sites t ≡ bare
  cleared h = ap table_without_sites (sym (stored_same t h clean)) ∙ cleared_stored (nodes t) (table_accepted t clean).0

  bare_stored : (fault_of bare ≡ 0) × (nodes bare ≡ without_sites (nodes t))
  bare_stored = stored_accepted (without_sites (nodes t)) (bare_accepted (nodes t) (table_accepted t clean).0)

  bare_line : line_of bare ≡ without_sites (line_of t)
  unfolding line_of
  bare_line = rw bare_stored.1 (sites_play_no_part.order (nodes t))

  bare_length : length t ≡ length bare
  bare_length = omega (arith, table_length t clean, table_length bare bare_stored.0, ap length bare_line, map-length (at_site 0) (line_of t))

  bare_run : (steps : List ℕ) → run_of bare steps ≡ run_without_sites (run_of t steps)
  bare_run steps = rw bare_line (sites_play_no_part.runs (line_of t) (steps_of steps))

  bare_ended : (steps room room' : List ℕ) → SameWithoutSites (ended_with (run_of t steps) room) (ended_with (run_of bare steps) room')
  bare_ended steps room room' =
      let line = (run_of t steps).line in
      let e = bare_run steps in
      record {
        answer = ap (λ (r : machine.Run). Ok r.ending) (sym e);
        done = ap (λ (r : machine.Run). r.steps) (sym e);
        stations = sym (map-length (at_site 0) line) ∙ ap (λ (r : machine.Run). length r.line) (sym e);
        written =
            ap table_without_sites (table_in_ended t steps room clean)
            ∙ cleared_stored line (after_sound t steps clean).0
            ∙ ap (λ (r : machine.Run). bytes_of r.line) (sym e)
            ∙ sym (table_in_ended bare steps room' bare_stored.0);
      }

bare_nothing : (n : ℕ) (room room' : List ℕ) → SameWithoutSites (refused_with n room) (refused_with n room')
unfolding flat_map
bare_nothing n room room' = record { answer = refl; done = refl; stations = refl; written = rw blocks_none }

pub tables_without_sites : TablesWithoutSites
unfolding outcome
tables_without_sites t steps room room' bytes h l =
    let stored = bare_stored t h in
    let f = same_fault t (bare t h) steps room room' h stored.0 (bare_length t h) l in
    rw (cleared t h bytes) (stored.0, rw f (go (eqb (fault_before (bare t h) steps room') 0)))
  where
    go : (b : Bool)
        → SameWithoutSites (cond b (ended_with (run_of t steps) room) (refused_with (fault_before (bare t h) steps room') room))
        (cond b (ended_with (run_of (bare t h) steps) room') (refused_with (fault_before (bare t h) steps room') room'))
    go true = bare_ended t h steps room room'
    go false = bare_nothing (fault_before (bare t h) steps room') room room'
