-- Whether a station may leave: its own block counts its messages, and the first who holds it is sought; the station is looked up in the index.
use Prim.Native.Nat.{ℕ, ◌≤◌, ◌<◌}
use Rattle.std.specs.Prelude.{Ok, Err}
use Rattle.line.specs.Types.{Leave}
use mathlib.Core.Path.{◌≡◌, refl, sym, ap, ◌∙◌}
use mathlib.Core.List.{List}
use native.Mathlib.Omega.{arith}
use lib.Dec.{eqb}
use lib.ListN.{length, get_or, length-map, get_or-map}
use Rattle.lists.specs.Places.{first_at}
use Rattle.lists.proofs.Numbers.{found_member, found_there}
use Rattle.line.specs.declared.Reason.TheVariants.{OwnBag}
use Rattle.line.specs.Node.{number, numbers, nobody, with_bag_in_order}
use Rattle.line.specs.Leave.{is_holder, leave_of}
use Rattle.line.specs.Step.{find}
use Rattle.line.proofs.Changes.{find_nowhere}
use Rattle.line.proofs.Places.{place, find_at}
use Rattle.index.specs.Index.{slot_in, number_in, numbers_in}
use Rattle.octets.specs.Bytes.{word}
use Rattle.block.specs.Layout.{node_of}
use Rattle.table.specs.Blocks.{block_at, line_of}
use Rattle.table.specs.Fault.{fault_of}
use Rattle.table.specs.Index.{index_of}
use Rattle.table.proofs.Accepting.{table_accepted}
use Rattle.table.proofs.Lines.{ordered_count, line_long, numbers_listed, line_at}
use Rattle.moves.specs.Holders.{leave_from}
use Rattle.moves.proofs.Holding.{leave_counted_lem, entry_ranged, from_bag}
use Rattle.leave.specs.Leave.{leave_at}

module _ (t index : List ℕ) (clean : fault_of t ≡ 0) (listed : index ≡ index_of t) where
  -- what the index tells of the holder is a station number
  pub holder_fits : (j : ℕ) → j < length index → number_in (get_or index j 0) ≤ 999999
  holder_fits = entry_ranged (line_of t) index (table_accepted t clean).1 (numbers_listed t index clean listed)

  -- A station stands at place i, in a block that counts c messages.
  module _ (i : ℕ) (h : i < length index) {b : List ℕ} (read : b ≡ block_at t (slot_in (get_or index i 0))) {c : ℕ} (counts : c ≡ word b 16) where
    -- the first who holds it is at j
    told : (j : ℕ) → j ≡ first_at (is_holder (number (place (line_of t) i))) (line_of t) → leave_from (numbers_in index) c j ≡ leave_of (line_of t) (place (line_of t) i)
    told j first =
        let own : length (place (line_of t) i).bag ≡ c = rw (line_at t index clean listed i h read) (ordered_count b ∙ sym counts) in
        rw (numbers_listed t index clean listed) (leave_counted_lem (line_of t) (place (line_of t) i) (table_accepted t clean).2.rising c j (sym own) first)

    -- its bag is not empty, whoever holds it
    pub leave_unread : (c ≡ 0 → ⊥) → Err OwnBag ≡ leave_of (line_of t) (place (line_of t) i)
    leave_unread z = let j = first_at (is_holder (number (place (line_of t) i))) (line_of t) in from_bag index c j z ∙ told j refl

    pub leave_told : {q j : ℕ} {l : Leave} → q ≡ number (node_of (block_at t (slot_in (get_or index i 0)))) → j ≡ first_at (is_holder q) (line_of t) → l ≡ leave_from (numbers_in index) c j
        → l ≡ leave_of (line_of t) (place (line_of t) i)
    unfolding with_bag_in_order
    leave_told {q} {j} named first e =
        e ∙ told j (first ∙ ap (λ (n : ℕ). first_at (is_holder n) (line_of t)) (named ∙ sym (ap number (line_at t index clean listed i h refl))))

  -- Station q is looked up.
  module _ (q : ℕ) {i : ℕ} (at : i ≡ first_at (eqb q) (numbers_in index)) where
    among : i ≡ first_at (eqb q) (numbers (line_of t))
    among = at ∙ ap (first_at (eqb q)) (numbers_listed t index clean listed)

    -- it stands nowhere
    pub leave_absent : length index ≤ i → Err 11 ≡ leave_at (line_of t) (find q (line_of t))
    leave_absent h = rw (find_nowhere q (line_of t) (λ m. omega (arith, (found_member (numbers (line_of t)) q).1 m, length-map (line_of t) number, among, line_long t index clean listed, h)))

    -- it stands at place i
    pub leave_there : i < length index → {l : Leave} → l ≡ leave_of (line_of t) (place (line_of t) i) → Ok l ≡ leave_at (line_of t) (find q (line_of t))
    leave_there h e =
        let l = length-map (line_of t) number in
        let named : number (place (line_of t) i) ≡ q = sym (get_or-map number (line_of t) i nobody) ∙ rw among (found_there (numbers (line_of t)) q (omega (arith, among, line_long t index clean listed))) in
        rw (find_at q (line_of t) i nobody (table_accepted t clean).2.rising (omega (arith, line_long t index clean listed)) named, e)
