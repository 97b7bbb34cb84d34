-- One step over the arrays: what its stores make of the line.
use Prim.Native.Nat.{ℕ, ◌<◌}
use Rattle.std.specs.Prelude.{Ok, Option, Some, None, Result, is_some}
use Rattle.line.specs.Types.{Leave}
use mathlib.Core.Path.{◌≡◌, refl, sym, ap, ◌∙◌}
use mathlib.Core.Bool.{true, false, cond}
use mathlib.Core.List.Memᴰ.{head as here}
use mathlib.Core.List.{List}
use native.Mathlib.Omega.{arith}
use lib.Dec.{eqb}
use lib.ListN.{length, get_or, take, set}
use Rattle.lists.specs.Places.{remove_at, first_at}
use Rattle.line.specs.declared.Message.{Message}
use Rattle.line.specs.declared.Step.{Step}
use Rattle.line.specs.Answer.{done}
use Rattle.line.specs.Node.{Node, Line, number, nobody}
use Rattle.line.specs.Step.{step}
use Rattle.line.proofs.Whole.{step_sound}
use Rattle.line.proofs.Places.{place, with_bag}
use Rattle.line.specs.declared.Refusal.{Refusal}
use Rattle.bag.specs.declared.Bag.{Bag}
use Rattle.bag.specs.Held.{ordered}
use Rattle.index.specs.Index.{numbers_in}
use Rattle.arrays.specs.declared.Arrays.{Arrays}
use Rattle.arrays.specs.Arrays.{node_at, line_in}
use Rattle.arrays.proofs.Lines.{slot_of, shortened}
use Rattle.rules.specs.declared.Sending.{Sending}
use Rattle.rules.specs.declared.Decision.{Decision}
use Rattle.rules.specs.Decided.{rest}
use Rattle.moves.specs.declared.Plan.{Plan}
use Rattle.moves.specs.Holders.{is_exit, leave_from}
use Rattle.moves.specs.Sends.{Plans, BagAfter}
use Rattle.moves.proofs.Sending.{sent_fits}
use Rattle.effects.proofs.Posting.{arrived}
use Rattle.effects.proofs.Working.{step_stays, step_leaves, first_unmoved, second_unmoved, named, unfound}
use Rattle.effects.proofs.Stores.{Consistent, BetweenSteps, bag_at, Arrived, SameIndex, own_index, arrived_index, consistent_bag, consistent_count, stored_line, stored_consistent, arrived_line, arrived_consistent, Dropped, dropped_line, dropped_numbered, dropped_consistent, OwnStored, with_station, station_line, station_consistent}
use Rattle.effects.proofs.Asked.{Asking, WalkEnded, asked_leave}
use Rattle.effects.proofs.Judging.{Judged, tidy, receiver, receiver_bound, first_slot, second_slot, first_count, second_count, decided, rooms, fits}

-- Everything that is read and worked out before the first store.
pub record Planned (a : Arrays) (x : Step) (i : ℕ) (taken : Option Bag) (r : Result Plan Refusal) : Type 0 where
  pub judged : Judged a x i (is_some taken) r
  pub bag : BagAfter x.action (bag_at a (slot_of a i)) taken

pub planned_by : {a : Arrays} {taken : Option Bag} {r : Result Plan Refusal} {asked j : ℕ} {l : Leave} (x : Step) (i : ℕ) → BetweenSteps a → i < a.n → i ≡ first_at (eqb x.station) (numbers_in (take a.n a.index))
    → asked ≡ cond (is_exit x.action) a.n 0 → Asking a (number (node_at a (slot_of a i))) asked j → WalkEnded a (number (node_at a (slot_of a i))) asked j
    → l ≡ leave_from (numbers_in (take a.n a.index)) (get_or a.counts (slot_of a i) 0) j → BagAfter x.action (bag_at a (slot_of a i)) taken
    → Plans (take a.n a.index) a.counts i l (is_some taken) (get_or a.stations (slot_of a i) nobody.station) x.action r
    → Planned a x i taken r
planned_by x i b h f e k came g t p = record { judged = record { leave = _; between = b; within = h; found = f; asked = λ w. g ∙ asked_leave i h x.action w e k came; holds = t.found_is; plans = p }; bag = t }

-- the step is done
module _ {a : Arrays} {x : Step} {i : ℕ} {taken : Option Bag} {plan : Plan} (k : Planned a x i taken (Ok plan)) where
  abbrev j : Judged a x i (is_some taken) (Ok plan)
  j = k.judged

  abbrev line : Line
  line = line_in a

  abbrev d : Decision
  d = plan.decision

  abbrev one : Option Sending
  one = d.sendings.first

  abbrev two : Option Sending
  two = d.sendings.second

  -- the station is stored, and its own bag where a message was taken out of it
  module _ (a₁ : Arrays) (own-stored : OwnStored taken (slot_of a i) (with_station a (slot_of a i) d.station) a₁) where
    own_bag : (b : Bag) → taken ≡ Some b → ordered b ≡ rest x.action (place line i).bag
    own_bag b e = (rw e at k.bag.ordered_is) ∙ ap (rest x.action) (consistent_bag (tidy j) i j.within)

    abbrev line₁ : Line
    line₁ = set line i (record { station = d.station; bag = rest x.action (place line i).bag })

    own_result : (line_in a₁ ≡ line₁) × Consistent a₁
    own_result = go taken refl own-stored
      where
        go : (o : Option Bag) → taken ≡ o → OwnStored o (slot_of a i) (with_station a (slot_of a i) d.station) a₁ → (line_in a₁ ≡ line₁) × Consistent a₁
        go (Some b) e p =
            rw p (
              stored_line (tidy j) i j.within d.station b.messages b.count ∙ ap (λ (b : List Message). set line i (record { station = d.station; bag = b })) (own_bag b e),
              stored_consistent (tidy j) i j.within d.station b.messages b.count (named (decided j)) ((rw e at k.bag.counted) (consistent_count (tidy j) i j.within)),
            )
        go None e p =
            let same : rest x.action (place line i).bag ≡ (place line i).bag =
            unfound (decided j) (rw (consistent_bag (tidy j) i j.within) at (sym k.bag.found_is ∙ ap is_some e)) in
            rw (p, same) (station_line (tidy j) i j.within d.station, station_consistent (tidy j) i j.within d.station (named (decided j)))

    own_line : line_in a₁ ≡ line₁
    own_line = own_result.0

    own_consistent : Consistent a₁
    own_consistent = own_result.1

    own_entries : SameIndex a a₁
    own_entries =
        let same = own_index taken (slot_of a i) (with_station a (slot_of a i) d.station) own-stored in
        record { size = same.size; is = same.is }

    own_receiver : (y : Option Sending) → receiver j y < a₁.n
    own_receiver y = omega (arith, own_entries.size, receiver_bound j y)

    own_slot : plan.first ≡ slot_of a₁ (receiver j one)
    own_slot = rw own_entries.is (first_slot j)

    -- the first receiver's bag has room
    pub first_room : (y : Sending) → one ≡ Some y → (plan.first < 64) × (get_or a₁.counts plan.first 0 < 32)
    first_room y e =
        let same : place line₁ (receiver j one) ≡ place line (receiver j one) = first_unmoved (decided j) (record { to = y.to; message = y.message }) (rw e (here refl)) in
        let count-is =
        ap (λ (s : ℕ). get_or a₁.counts s 0) own_slot ∙ own_consistent.tallied (receiver j one) (own_receiver one) ∙ ap (λ (l : Line). length (place l (receiver j one)).bag) own_line ∙ ap (λ (t : Node). length t.bag) same ∙ sym (first_count j) in
        (omega (arith, first_slot j), omega (arith, count-is, sent_fits one _ y e (fits j).0))

    -- the first message is stored, where one is sent
    module _ (a₂ : Arrays) (first-arrived : Arrived one plan.first a₁ a₂) where
      abbrev line₂ : Line
      line₂ = with_bag line₁ (receiver j one) (arrived one (place line₁ (receiver j one)).bag)

      at_first : Arrived one (slot_of a₁ (receiver j one)) a₁ a₂
      at_first = rw own_slot at first-arrived

      first_line : line_in a₂ ≡ line₂
      first_line = rw own_line at (arrived_line own_consistent (receiver j one) (own_receiver one) one a₂ at_first)

      first_consistent : Consistent a₂
      first_consistent = arrived_consistent own_consistent (receiver j one) (own_receiver one) one a₂ at_first

      first_entries : SameIndex a₁ a₂
      first_entries = arrived_index one plan.first a₁ first-arrived

      first_receiver : (y : Option Sending) → receiver j y < a₂.n
      first_receiver y = omega (arith, first_entries.size, own_receiver y)

      next_slot : plan.second ≡ slot_of a₂ (receiver j two)
      next_slot = rw (first_entries.is, own_entries.is) (second_slot j)

      -- the second receiver's bag has room
      pub second_room : (y : Sending) → two ≡ Some y → (plan.second < 64) × (get_or a₂.counts plan.second 0 < 32)
      second_room y e =
          let same : place line₂ (receiver j two) ≡ place line (receiver j two) = second_unmoved (decided j) (record { to = y.to; message = y.message }) (rw e (here refl)) in
          let count-is =
          ap (λ (s : ℕ). get_or a₂.counts s 0) next_slot ∙ first_consistent.tallied (receiver j two) (first_receiver two) ∙ ap (λ (l : Line). length (place l (receiver j two)).bag) first_line ∙ ap (λ (t : Node). length t.bag) same ∙ sym (second_count j) in
          (omega (arith, second_slot j), omega (arith, count-is, sent_fits two _ y e (fits j).1))

      -- the second message is stored, where one is sent
      module _ (a₃ : Arrays) (second-arrived : Arrived two plan.second a₂ a₃) where
        abbrev line₃ : Line
        line₃ = with_bag line₂ (receiver j two) (arrived two (place line₂ (receiver j two)).bag)

        at_second : Arrived two (slot_of a₂ (receiver j two)) a₂ a₃
        at_second = rw next_slot at second-arrived

        second_line : line_in a₃ ≡ line₃
        second_line = rw first_line at (arrived_line first_consistent (receiver j two) (first_receiver two) two a₃ at_second)

        second_consistent : Consistent a₃
        second_consistent = arrived_consistent first_consistent (receiver j two) (first_receiver two) two a₃ at_second

        -- no entry has come or gone
        pub entries_stay : (a₃.n ≡ a.n) × (i < a₃.n)
        entries_stay =
            let e : a₃.n ≡ a.n = (arrived_index two plan.second a₂ second-arrived).size ∙ first_entries.size ∙ own_entries.size in
            (e, omega (arith, j.within))

        -- the station stays
        pub stays : d.gone ≡ false → (step line x ≡ done (line_in a₃)) × BetweenSteps a₃
        stays stay =
            let is = step_stays (decided j) _ _ (first_count j) (second_count j) (rooms j) stay ∙ ap done (sym second_line) in
            (is, record { consistent = second_consistent; sound = step_sound line x j.between.sound is })

        -- the station goes
        pub leaves : d.gone ≡ true → {index : List ℕ} → Dropped a₃.n i a₃.index index → (step line x ≡ done (line_in (shortened a₃ index))) × BetweenSteps (shortened a₃ index)
        leaves leave dropped =
            let is =
            step_leaves (decided j) _ _ (first_count j) (second_count j) (rooms j) leave ∙ ap done (ap (remove_at i) (sym second_line) ∙ sym (dropped_line second_consistent i dropped)) in
            let after = step_sound line x j.between.sound is in
            (is, record { consistent = dropped_consistent second_consistent i dropped (rw (dropped_numbered second_consistent i dropped) after.written.rising); sound = after })
