-- A roll that is read from a table answers for every station what the leave question answers.
use Prim.Native.Nat.{ℕ, ◌/◌, ◌≤◌, ◌<◌}
use Rattle.std.specs.Prelude.{Result, Ok, Err}
use Rattle.line.specs.declared.Fault.{Fault}
use mathlib.Core.Path.{◌≡◌, refl, sym, ap, ◌∙◌}
use mathlib.Core.Bool.{Bool, true, false, cond}
use mathlib.Core.List.{List, ◌++◌}
use mathlib.Core.List.{Memᴰ as Member}
use native.Mathlib.Omega.{arith}
use lib.Dec.{eqb, ltb}
use lib.ListN.{length, get_or, take, replicate, length-map, length-replicate, get_or-map, get_or-append}
use lib.Seq.{get_or-take}
use borrow.Author.Tests.{ltb-true, ltb-false}
use Rattle.lists.specs.Places.{first_at}
use Rattle.lists.proofs.Lists.{mem-map}
use Rattle.lists.proofs.Numbers.{found_there}
use Rattle.lists.proofs.Elements.{map_at, taken_length}
use Rattle.line.specs.Node.{Node, number, nobody, with_bag_in_order}
use Rattle.line.specs.Leave.{holder_of, leave_of}
use Rattle.line.proofs.LeaveTest.{leave_tested}
use Rattle.octets.specs.Bytes.{word}
use Rattle.octets.proofs.Zeros.{take-replicate}
use Rattle.index.specs.Index.{slot_in, numbers_in}
use Rattle.index.proofs.Entries.{numbers_length}
use Rattle.block.specs.Layout.{node_of}
use Rattle.block.proofs.PlaceLaws.{length_messages}
use Rattle.table.specs.Blocks.{block_at, nodes, line_of}
use Rattle.table.specs.Fault.{fault_of}
use Rattle.table.specs.Index.{Inspects, index_of}
use Rattle.table.proofs.BlockLaws.{block_member}
use Rattle.table.proofs.Lines.{line_size, line_long, numbers_listed, numbers_rise, slot_within, line_at, clean_few, inspected_clean, inspected_index, inspected_size, inspected_long}
use Rattle.arrays.specs.Reading.{count_of, counts_of}
use Rattle.arrays.proofs.Tables.{filled_at}
use Rattle.leave.specs.Leave.{may_leave}
use Rattle.leave.proofs.Asking.{leave_accepted}
use Rattle.leave.proofs.Leaving.{leave_absent}
use Rattle.leave.proofs.Meanings.{may_leave_means}
use Rattle.mentions.specs.Mentions.{mentions}
use Rattle.mentions.specs.Tally.{lowest, TallyOf}
use Rattle.rolls.specs.declared.Roll.{Roll}
use Rattle.rolls.specs.Roll.{Kept, leave_counted, leave_in, told_at, told_in}
use Rattle.roll_call.specs.RollCall.{Rolls}
use Rattle.roll_call.proofs.Counts.{counts_tell}

-- the station of a block is told of from its counts
block_told : (t : List ℕ) (s : Node) → fault_of t ≡ 0 → Member s (nodes t)
    → Ok (leave_counted (length s.bag) (mentions (number s) (nodes t)) (lowest (holder_of (number s) (nodes t)))) ≡ may_leave t (number s)
block_told t s clean m = rw (counts_tell (nodes t) s) (sym ((may_leave_means t s (leave_of (nodes t) s) clean m).1 ((leave_tested (nodes t) s (leave_of (nodes t) s)).0 refl)))

-- Of a table that is accepted, and of its index:
module _ (t index : List ℕ) (clean : fault_of t ≡ 0) (listed : index ≡ index_of t) {counts smallest : List ℕ} (tally : TallyOf (numbers_in (index_of t)) counts smallest (nodes t)) where
  -- a station stands at place i
  module _ (i : ℕ) (h : i < length index) where
    abbrev slot : ℕ
    slot = slot_in (get_or index i 0)

    abbrev s : Node
    s = node_of (block_at t slot)

    counted_there : get_or counts i 0 ≡ mentions (get_or (numbers_in index) i 0) (nodes t)
    counted_there = rw (tally.counted, ← listed) (map_at (λ (m : ℕ). mentions m (nodes t)) (numbers_in index) i 0 0 (omega (arith, numbers_length index)))

    least_there : get_or smallest i 0 ≡ lowest (holder_of (get_or (numbers_in index) i 0) (nodes t))
    least_there = rw (tally.least, ← listed) (map_at (λ (m : ℕ). lowest (holder_of m (nodes t))) (numbers_in index) i 0 0 (omega (arith, numbers_length index)))

    named : get_or (numbers_in index) i 0 ≡ number s
    unfolding with_bag_in_order
    named =
        ap (λ (l : List ℕ). get_or l i 0) (numbers_listed t index clean listed) ∙ get_or-map number (line_of t) i nobody
        ∙ ap number (line_at t index clean listed i h refl)

    full : get_or (counts_of t) slot 0 ≡ length s.bag
    unfolding node_of
    full = filled_at t slot (slot_within t index clean listed i h) count_of 0 0 ∙ sym (length_messages (block_at t slot) (word (block_at t slot) 16))

    told_there : Ok (leave_counted (get_or (counts_of t) slot 0) (get_or counts i 0) (get_or smallest i 0)) ≡ may_leave t (get_or (numbers_in index) i 0)
    unfolding nodes
    told_there = rw (counted_there, least_there, full, named) (block_told t s clean (mem-map node_of (block_member t slot (slot_within t index clean listed i h))))

    -- in an array of which the counts are the front
    leave_there : (r : Roll) → take (length t / 512) r.index ≡ index → r.messages ≡ counts_of t → (a b : List ℕ) → r.mentions ≡ counts ++ a → r.smallest ≡ smallest ++ b
        → Ok (leave_in r i) ≡ may_leave t (get_or (numbers_in index) i 0)
    unfolding leave_in
    leave_there r front full' a b c l =
        let size : length index ≡ length t / 512 = sym (line_long t index clean listed) ∙ line_size t in
        let entry : get_or r.index i 0 ≡ get_or index i 0 = sym (get_or-take (length t / 512) r.index i 0 (omega arith)) ∙ ap (λ (x : List ℕ). get_or x i 0) front in
        let more : get_or (counts ++ a) i 0 ≡ get_or counts i 0 = get_or-append counts a 0 i (omega (arith, ap length tally.counted, length-map (numbers_in (index_of t)) (λ (m : ℕ). mentions m (nodes t)), numbers_length (index_of t), ap length listed)) in
        let less : get_or (smallest ++ b) i 0 ≡ get_or smallest i 0 = get_or-append smallest b 0 i (omega (arith, ap length tally.least, length-map (numbers_in (index_of t)) (λ (m : ℕ). lowest (holder_of m (nodes t))), numbers_length (index_of t), ap length listed)) in
        rw (c, l, full', entry, more, less) told_there

-- What is read of an accepted table is its roll.
module _ {t place : List ℕ} (is : Inspects t (Ok place)) where
  roll_kept : (r : Roll) → r.count ≡ length t / 512 → r.index ≡ place → Kept r
  roll_kept r c e =
      let clean = inspected_clean is in
      record {
        few = omega (arith, clean_few t clean);
        within = rw e (omega (arith, inspected_long is));
        rising = rw (c, e, inspected_index is) (numbers_rise t (index_of t) clean refl);
      }

  roll_told : {counts smallest : List ℕ} → TallyOf (numbers_in (index_of t)) counts smallest (nodes t) → (r : Roll) → r.count ≡ length t / 512 → r.index ≡ place → r.messages ≡ counts_of t
      → (a b : List ℕ) → r.mentions ≡ counts ++ a → r.smallest ≡ smallest ++ b → (q : ℕ) → told_in r q ≡ may_leave t q
  unfolding told_at leave_in
  roll_told tally r c e m a b x y q =
      let clean = inspected_clean is in
      let front : take (length t / 512) r.index ≡ index_of t = rw e (inspected_index is) in
      let size : length (index_of t) ≡ length t / 512 = sym (line_long t (index_of t) clean refl) ∙ line_size t in
      rw (c, front) (go clean front size (first_at (eqb q) (numbers_in (index_of t))) refl (ltb (first_at (eqb q) (numbers_in (index_of t))) (length t / 512)) refl)
    where
      go : fault_of t ≡ 0 → take (length t / 512) r.index ≡ index_of t → length (index_of t) ≡ length t / 512 → (i : ℕ) → i ≡ first_at (eqb q) (numbers_in (index_of t))
          → (b : Bool) → ltb i (length t / 512) ≡ b → cond b (Ok (leave_in r i)) (Err 11) ≡ may_leave t q
      go clean front size i at true f =
          let within : i < length (index_of t) = omega (arith, ltb-true i (length t / 512) f) in
          leave_there t (index_of t) clean refl tally i within r front m a b x y ∙ ap (may_leave t) (rw at (found_there (numbers_in (index_of t)) q (omega (arith, at, numbers_length (index_of t)))))
      go clean front size i at false f =
          leave_accepted q is (leave_absent t (index_of t) clean refl q at (omega (arith, ltb-false i (length t / 512) f)))

  pub roll_read : {counts smallest : List ℕ} → TallyOf (numbers_in (index_of t)) counts smallest (nodes t) → {messages : List ℕ} → messages ≡ counts_of t → (a b : List ℕ)
      → Rolls t (Ok (record { count = length t / 512; index = place; messages = messages; mentions = counts ++ a; smallest = smallest ++ b }))
  roll_read {counts} {smallest} tally {messages} m a b =
      let r : Roll = record { count = length t / 512; index = place; messages = messages; mentions = counts ++ a; smallest = smallest ++ b } in
      record { fault_is = is.fault_is; tells = record { kept = roll_kept r refl refl; told = roll_told tally r refl refl m a b refl refl } }

-- A table that is refused has no roll.
pub roll_refused : (t : List ℕ) {f : Fault} → Inspects t (Err f) → {r : Result Roll Fault} → r ≡ Err f → Rolls t r
roll_refused t is e = rw e (record { fault_is = is.fault_is; tells = tt })

-- The arrays of 64 equal numbers that are lent for the counts.
module _ {t place : List ℕ} (is : Inspects t (Ok place)) (x : ℕ) where
  pub lent_within : length t / 512 ≤ length (replicate 64 x)
  lent_within = omega (arith, length-replicate 64 x, clean_few t (inspected_clean is))

  pub lent_size : length t / 512 ≡ length (take (length t / 512) (replicate 64 x))
  lent_size = taken_length (length t / 512) (replicate 64 x) lent_within

  pub lent_equal : take (length t / 512) (replicate 64 x) ≡ replicate (length (take (length t / 512) place)) x
  lent_equal = rw (← inspected_size is) (take-replicate (length t / 512) 64 x (clean_few t (inspected_clean is)))
