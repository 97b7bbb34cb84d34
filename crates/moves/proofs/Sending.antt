-- One law for each way through the code of what is sent.
use Prim.Native.Nat.{ℕ, ◌≤◌, ◌<◌}
use Rattle.std.specs.Prelude.{Ok, Err, Option, Some, None, Result}
use Rattle.std.specs.Bool.{then_some}
use Rattle.line.specs.Types.{Ending, Leave}
use mathlib.Core.Path.{◌≡◌, refl, sym, ap, ◌∙◌}
use mathlib.Core.Logic.{◌⊎◌, inl, inr}
use mathlib.Core.Bool.{Bool, true, false, ◌&&◌}
use mathlib.Core.List.{List}
use lib.Dec.{eqb, ltb}
use lib.ListN.{length, get_or, set}
use borrow.Author.Tests.{lt-ltb, le-ltb, ltb-true, ltb-false}
use Rattle.lists.specs.Places.{first_at}
use Rattle.lists.proofs.Firsts.{any_first, remove_none}
use Rattle.line.specs.declared.Action.{Action}
use Rattle.line.specs.declared.Action.TheVariants.{Timeout, Deliver, Exit}
use Rattle.line.specs.declared.Message.{Message}
use Rattle.line.specs.declared.Refusal.{Refusal}
use Rattle.line.specs.declared.Refusal.TheVariants.{Full}
use Rattle.line.specs.declared.Station as declared
use Rattle.line.specs.Message.{same, holds, remove}
use Rattle.bag.specs.declared.Bag.{Bag}
use Rattle.bag.specs.declared.Taken.{Taken}
use Rattle.bag.specs.Held.{ordered}
use Rattle.bag.specs.Changes.{Put, Took}
use Rattle.index.specs.Index.{slot_in, numbers_in}
use Rattle.index.proofs.Entries.{numbers_length}
use Rattle.rules.specs.declared.Sending.{Sending}
use Rattle.rules.specs.declared.Decision.{Decision}
use Rattle.rules.specs.Decided.{is_found, rest, Decides}
use Rattle.moves.specs.declared.Plan.{Plan}
use Rattle.moves.specs.Sends.{receiver_of, room_for, verdict_in, verdict_of, slot_for, unless_refused, planned, Plans, BagAfter, PutIn}

-- who receives
module _ (index : List ℕ) (x : Option Sending) (i : ℕ) where
  abbrev slot : ℕ
  slot = slot_in (get_or index (receiver_of (numbers_in index) x i) 0)

  pub receiver_none : x ≡ None → slot_in (get_or index i 0) ≡ slot
  receiver_none e = rw e

  module _ (q : ℕ) (m : Message) (e : x ≡ Some (record { to = q; message = m })) {j : ℕ} (f : j ≡ first_at (eqb q) (numbers_in index)) where
    pub receiver_found : j < length index → slot_in (get_or index j 0) ≡ slot
    receiver_found h = rw (e, ← f, numbers_length index, lt-ltb j (length index) h)

    pub receiver_absent : length index ≤ j → slot_in (get_or index i 0) ≡ slot
    receiver_absent h = rw (e, ← f, numbers_length index, le-ltb j (length index) h)

-- whether there is room
pub room_none : (x : Option Sending) (c : ℕ) → x ≡ None → true ≡ room_for x c
room_none x c e = rw e

pub room_sent : (x : Option Sending) (c : ℕ) (y : Sending) → x ≡ Some y → ltb c 32 ≡ room_for x c
room_sent x c y e = rw e

pub sent_fits : (x : Option Sending) (c : ℕ) (y : Sending) → x ≡ Some y → room_for x c ≡ true → c < 32
sent_fits x c y e h = ltb-true c 32 (room_sent x c y e ∙ h)

-- whether both receivers have room
module _ (d : Decision) (a b : ℕ) {s t : Bool} (f : s ≡ room_for d.sendings.first a) (g : t ≡ room_for d.sendings.second b) where
  pub verdict_by : {u : Bool} → (s && t) ≡ u → verdict_in u ≡ verdict_of d a b
  verdict_by h = rw (← f, ← g, h)

-- the step worked out
module _ {index counts : List ℕ} {i : ℕ} {l : Leave} {found : Bool} {s : declared.Station} {a : Action} where
  -- the station refuses
  pub plan_refused : (e : Refusal) → ((b : List Message) → found ≡ is_found a b → Decides l s b a (Err e)) → Plans index counts i l found s a (Err e)
  plan_refused e h = record { decision = Err e; decides = h; is = refl }

  -- it does not, and who receives is found
  module _ (d : Decision) (decides : (b : List Message) → found ≡ is_found a b → Decides l s b a (Ok d)) (x y : ℕ) (first : x ≡ slot_for index d.sendings.first i)
      (second : y ≡ slot_for index d.sendings.second i) where
    plan_by : (v : Ending) → v ≡ verdict_of d (get_or counts x 0) (get_or counts y 0) → Plans index counts i l found s a (unless_refused v (record { decision = d; first = x; second = y }))
    plan_by v e = record { decision = Ok d; decides = decides; is = rw (e, first, second) }

    pub plan_full : (e : Refusal) → Err e ≡ verdict_of d (get_or counts x 0) (get_or counts y 0) → Plans index counts i l found s a (Err e)
    plan_full e v = plan_by (Err e) v

    pub plan_whole : Ok tt ≡ verdict_of d (get_or counts x 0) (get_or counts y 0) → Plans index counts i l found s a (Ok (record { decision = d; first = x; second = y }))
    plan_whole v = plan_by (Ok tt) v

-- what a plan p rests on: the station decides and does not refuse, those who receive are at their slots, and both have room
pub record Whole (index counts : List ℕ) (i : ℕ) (r : Result Decision Refusal) (p : Plan) : Type 0 where
  pub decision : r ≡ Ok p.decision
  pub first : p.first ≡ slot_for index p.decision.sendings.first i
  pub second : p.second ≡ slot_for index p.decision.sendings.second i
  pub rooms : (room_for p.decision.sendings.first (get_or counts p.first 0) && room_for p.decision.sendings.second (get_or counts p.second 0)) ≡ true

pub plan_means : (index counts : List ℕ) (i : ℕ) (r : Result Decision Refusal) (p : Plan) → Ok p ≡ planned index counts i r → Whole index counts i r p
plan_means index counts i (Err e) p h = cc
plan_means index counts i (Ok d) p h = go _ refl h
  where
    go : (t : Bool)
        → (room_for d.sendings.first (get_or counts (slot_for index d.sendings.first i) 0) && room_for d.sendings.second (get_or counts (slot_for index d.sendings.second i) 0)) ≡ t
        → Ok p ≡ unless_refused (verdict_in t) (record { decision = d; first = slot_for index d.sendings.first i; second = slot_for index d.sendings.second i })
        → Whole index counts i (Ok d) p
    go true e h =
        let same : p ≡ record { decision = d; first = slot_for index d.sendings.first i; second = slot_for index d.sendings.second i } = cc in
        rw same (record { decision = refl; first = refl; second = refl; rooms = e })
    go false e h = cc

-- what a refusal rests on: the station itself refuses, or it does not and one of those who receive has no room
abbrev pub room_at : List ℕ → List ℕ → ℕ → Option Sending → Bool
room_at index counts i x = room_for x (get_or counts (slot_for index x i) 0)

pub record NoRoom (index counts : List ℕ) (i : ℕ) (r : Result Decision Refusal) (e : Refusal) : Type 0 where
  pub decision : Decision
  pub decides : r ≡ Ok decision
  pub rooms : (room_at index counts i decision.sendings.first && room_at index counts i decision.sendings.second) ≡ false
  pub full : e ≡ Full

pub refusal_means : (index counts : List ℕ) (i : ℕ) (r : Result Decision Refusal) (e : Refusal) → Err e ≡ planned index counts i r → (r ≡ Err e) ⊎ NoRoom index counts i r e
refusal_means index counts i (Err q) e h = inl (let z : q ≡ e = cc in ap Err z)
refusal_means index counts i (Ok d) e h = inr (go _ refl h)
  where
    go : (t : Bool) → (room_at index counts i d.sendings.first && room_at index counts i d.sendings.second) ≡ t
        → Err e ≡ unless_refused (verdict_in t) (record { decision = d; first = slot_for index d.sendings.first i; second = slot_for index d.sendings.second i })
        → NoRoom index counts i (Ok d) e
    go true f h = cc
    go false f h = record { decision = d; decides = refl; rooms = f; full = cc }

-- what a step leaves of the station's own bag
pub after_none : (a : Action) (own : Bag) → is_found a (ordered own) ≡ false → rest a (ordered own) ≡ ordered own → BagAfter a own None
after_none a own e f = record { found_is = sym e; ordered_is = sym f; counted = λ h. h }

pub after_timeout : (a : Action) (own : Bag) → a ≡ Timeout → BagAfter a own None
after_timeout a own e = rw e (after_none Timeout own refl refl)

pub after_exit : (a : Action) (own : Bag) → a ≡ Exit → BagAfter a own None
after_exit a own e = rw e (after_none Exit own refl refl)

-- a bag that holds no copy stays as it is
none_removed : (m : Message) (b : List Message) → holds m b ≡ false → remove m b ≡ b
none_removed m b e = remove_none (same m) b (ltb-false _ _ (sym (any_first (same m) b) ∙ e))

pub after_taken : (a : Action) (own : Bag) (m : Message) → a ≡ Deliver m → {r : Taken} → Took own m r → {o : Option Bag} → o ≡ then_some r.found r.bag → BagAfter a own o
after_taken a own m e {r} t f = rw (e, f) (go r.found refl)
  where
    go : (b : Bool) → r.found ≡ b → BagAfter (Deliver m) own (then_some b r.bag)
    go true g = record { found_is = sym g ∙ t.found_is; ordered_is = t.ordered_is; counted = λ h. t.counted }
    go false g = let none = sym t.found_is ∙ g in after_none (Deliver m) own none (none_removed m (ordered own) none)

-- a message put into the bag of a slot
pub put_counted : {row : List Message} {counts : List ℕ} {slot : ℕ} {m : Message} {r : Bag} → Put (record { messages = row; count = get_or counts slot 0 }) m r
    → PutIn row counts slot m r.messages (set counts slot r.count)
put_counted {r} p = record { count = r.count; put = p; counts_are = refl }
