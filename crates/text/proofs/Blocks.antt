-- The blocks of a table without a fault, one after another: each can be printed, and its line stands behind those of the blocks before it.
use mathlib.Core.Path.{◌≡◌, refl, ap, ◌∙◌}
use Rattle.line.specs.Types.{Answered}
use mathlib.Core.Bool.{Bool, true}
use mathlib.Core.List.{List, ◌++◌}
use Prim.Native.Nat.{ℕ, ◌+◌, ◌*◌, ◌/◌, ◌≤◌, ◌<◌}
use native.Mathlib.Numerals.{add-one}
use native.Mathlib.Omega.{arith}
use borrow.Author.Tests.{leb-true}
use lib.ListN.{length, get_or, take, get_or-map}
use lib.Seq.{take-suc, take-length}
use Rattle.line.specs.Answer.{answer_number}
use Rattle.block.specs.Layout.{node_of}
use Rattle.table.specs.Blocks.{block_at, blocks, nodes}
use Rattle.table.specs.Fault.{fault_of}
use Rattle.table.proofs.BlockLaws.{nodes_length, block_at_lem}
use Rattle.table.proofs.FaultLaws.{accepted_passes}
use Rattle.words.specs.Writing.{Wrote}
use Rattle.words.proofs.Written.{wrote_none, wrote_length, wrote_next}
use Rattle.text.specs.Listing.{station_text, stations_text, prints_stations}
use Rattle.text.proofs.Lines.{stations_more}

-- the line of block k behind those of the blocks before it
lines_more : (t : List ℕ) (k : ℕ) → k < length t / 512 → stations_text (take k (nodes t)) ++ station_text (node_of (block_at t k)) ≡ stations_text (take (k + 1) (nodes t))
unfolding nodes
lines_more t k h =
    let node = node_of (block_at t 0) in
    let is : get_or (nodes t) k node ≡ node_of (block_at t k) = get_or-map node_of (blocks t) k (block_at t 0) ∙ ap node_of (block_at_lem t k h) in
    rw (add-one k, take-suc (nodes t) k node (omega (arith, nodes_length t)), is) (stations_more (take k (nodes t)) (node_of (block_at t k)))

-- the lines of the first k blocks are in
pub record LinesTo (l : List ℕ) (at : ℕ) (t : List ℕ) (k end : ℕ) (m : List ℕ) : Type 0 where
  pub within : k ≤ length t / 512
  pub near : end ≤ at + 435 * k
  pub size : length m ≡ length l
  pub wrote : Wrote l at (stations_text (take k (nodes t))) end m

pub lines_none : {l t : List ℕ} {at : ℕ} → at + 435 * (length t / 512) ≤ length l → LinesTo l at t 0 at l
unfolding stations_text
lines_none h = record { within = omega arith; near = omega arith; size = refl; wrote = wrote_none (omega arith) }

module _ {l t m : List ℕ} {at k end : ℕ} (so_far : LinesTo l at t k end m) where
  pub lines_next : k < length t / 512 → {b : List ℕ} → b ≡ block_at t k → {o : List ℕ} {r : ℕ} → Wrote m end (station_text (node_of b)) r o → r ≤ end + 435 → LinesTo l at t (k + 1) r o
  lines_next h e a g =
      let text = wrote_next so_far.wrote (rw e at a) in
      record { within = omega arith; near = omega (arith, so_far.near); size = wrote_length text; wrote = rw (lines_more t k h) at text }

  pub lines_all : length t / 512 ≤ k → Wrote l at (stations_text (nodes t)) end m
  lines_all h = let e : k ≡ length (nodes t) = omega (arith, so_far.within, nodes_length t) in rw (e, take-length (nodes t)) at so_far.wrote

-- where the stations are printed the table has no fault, and room for 64 lines is enough
module _ (answer : Answered) (t : List ℕ) (clean : prints_stations (answer_number answer) ≡ true → fault_of t ≡ 0) {number : ℕ} (is : number ≡ answer_number answer) {prints : Bool}
    (told : prints ≡ prints_stations number) (h : prints ≡ true) where
  pub prints_clean : fault_of t ≡ 0
  prints_clean = clean (rw (← is, ← told) h)

  pub prints_room : {l m w : List ℕ} {k : ℕ} → 40000 ≤ length l → Wrote l 0 w k m → k ≤ 73 → k + 435 * (length t / 512) ≤ length m
  prints_room r a g = omega (arith, wrote_length a, leb-true (length t / 512) 64 (accepted_passes t prints_clean).few)
