-- One step over the arrays judged: what is read and worked out before anything is stored tells whether the step is done.
use Prim.Native.Nat.{ℕ, ◌<◌}
use Rattle.std.specs.Prelude.{Ok, Err, Option, Result, is_ok}
use Rattle.line.specs.Types.{Leave}
use mathlib.Core.Path.{◌≡◌, refl, sym, ap, ◌∙◌}
use mathlib.Core.Logic.{⊎_elim}
use mathlib.Core.Bool.{Bool, true, ◌&&◌}
use mathlib.Core.List.{List}
use lib.Dec.{eqb}
use lib.ListN.{length, get_or, take}
use lib.Seq.{get_or-take}
use Rattle.lists.specs.Places.{first_at}
use Rattle.lists.proofs.Lists.{and_both}
use Rattle.lists.proofs.Numbers.{found_there}
use Rattle.line.specs.declared.Step.{Step}
use Rattle.line.specs.declared.Refusal.{Refusal}
use Rattle.line.specs.Answer.{refused, is_done}
use Rattle.line.specs.Node.{Line, numbers, nobody}
use Rattle.line.specs.Leave.{leave_of}
use Rattle.line.specs.Step.{step}
use Rattle.line.proofs.Places.{place}
use Rattle.bag.specs.Held.{ordered}
use Rattle.index.specs.Index.{slot_in, numbers_in}
use Rattle.index.proofs.Entries.{numbers_length}
use Rattle.arrays.specs.declared.Arrays.{Arrays}
use Rattle.arrays.specs.Arrays.{node_at, line_in}
use Rattle.arrays.proofs.Lines.{slot_of}
use Rattle.rules.specs.declared.Sending.{Sending}
use Rattle.rules.specs.declared.Decision.{Decision}
use Rattle.rules.specs.Decided.{is_found}
use Rattle.moves.specs.declared.Plan.{Plan}
use Rattle.moves.specs.Holders.{is_exit}
use Rattle.moves.specs.Sends.{receiver_of, room_for, slot_for, Plans}
use Rattle.moves.proofs.Sending.{Whole, plan_means, refusal_means}
use Rattle.effects.proofs.Posting.{receiver_within}
use Rattle.effects.proofs.Working.{Decided, step_refused, step_full, step_fits}
use Rattle.effects.proofs.Stores.{Consistent, BetweenSteps, bag_at, consistent_length, consistent_taken, consistent_place, consistent_number}

-- What is read and worked out of a step, whether it is stored or not: r is the plan, or what refuses the step; f says whether the station's bag
-- holds the message of a delivery.
pub record Judged (a : Arrays) (x : Step) (i : ℕ) (f : Bool) (r : Result Plan Refusal) : Type 0 where
  pub leave : Leave
  pub between : BetweenSteps a
  pub within : i < a.n
  pub found : i ≡ first_at (eqb x.station) (numbers_in (take a.n a.index))
  pub asked : is_exit x.action ≡ true → leave ≡ leave_of (line_in a) (node_at a (slot_of a i))
  pub holds : f ≡ is_found x.action (ordered (bag_at a (slot_of a i)))
  pub plans : Plans (take a.n a.index) a.counts i leave f (get_or a.stations (slot_of a i) nobody.station) x.action r

module _ {a : Arrays} {x : Step} {i : ℕ} {f : Bool} {r : Result Plan Refusal} (k : Judged a x i f r) where
  abbrev line : Line
  line = line_in a

  abbrev pub tidy : Consistent a
  tidy = k.between.consistent

  -- the entries that count
  abbrev entries : List ℕ
  entries = take a.n a.index

  in_line_lem : i < length line
  in_line_lem = rw (consistent_length tidy) k.within

  -- where a receiver stands in the line, and its slot
  abbrev pub receiver : Option Sending → ℕ
  receiver y = receiver_of (numbers line) y i

  pub receiver_bound : (y : Option Sending) → receiver y < a.n
  receiver_bound y = rw (consistent_length tidy) at (receiver_within line y i in_line_lem)

  receiver_slot : (y : Option Sending) {s : ℕ} → s ≡ slot_for entries y i → s ≡ slot_of a (receiver y)
  receiver_slot y e =
      e ∙ ap (λ (l : List ℕ). slot_in (get_or entries (receiver_of l y i) 0)) tidy.numbered ∙ ap slot_in (get_or-take a.n a.index (receiver y) 0 (receiver_bound y))

  -- the count of a receiver's bag
  receiver_count : (y : Option Sending) {s : ℕ} → s ≡ slot_of a (receiver y) → get_or a.counts s 0 ≡ length (place line (receiver y)).bag
  receiver_count y e = ap (λ (s : ℕ). get_or a.counts s 0) e ∙ tidy.tallied (receiver y) (receiver_bound y)

  decided_by : {q : Result Decision Refusal} → k.plans.decision ≡ q → Decided line x i k.leave q
  decided_by e = record {
    sound = k.between.sound;
    within = in_line_lem;
    found =
        sym (consistent_number tidy i k.within) ∙ ap (λ (j : ℕ). get_or (numbers_in entries) j 0) k.found
        ∙ found_there (numbers_in entries) x.station (rw (← k.found, numbers_length entries, ← consistent_taken tidy) k.within);
    asked = λ e. k.asked e ∙ ap (leave_of line) (sym (consistent_place tidy i k.within));
    decides = rw (consistent_place tidy i k.within, ← e) (k.plans.decides (ordered (bag_at a (slot_of a i))) k.holds);
  }

-- the step is refused
pub refuses : {a : Arrays} {x : Step} {i : ℕ} {f : Bool} {e : Refusal} → Judged a x i f (Err e) → step (line_in a) x ≡ refused e
refuses {a} {i = i} {e = e} k =
    ⊎_elim (λ d. step_refused (decided_by k d))
    (λ n. step_full (decided_by k n.decides) _ _ (receiver_count k n.decision.sendings.first (receiver_slot k n.decision.sendings.first refl))
    (receiver_count k n.decision.sendings.second (receiver_slot k n.decision.sendings.second refl)) n.rooms ∙ ap refused (sym n.full))
    (refusal_means (take a.n a.index) a.counts i k.plans.decision e k.plans.is)

-- the step is done
module _ {a : Arrays} {x : Step} {i : ℕ} {f : Bool} {plan : Plan} (k : Judged a x i f (Ok plan)) where
  abbrev d : Decision
  d = plan.decision

  abbrev one : Option Sending
  one = d.sendings.first

  abbrev two : Option Sending
  two = d.sendings.second

  -- the counts of the receivers' bags
  abbrev c₁ : ℕ
  c₁ = get_or a.counts plan.first 0

  abbrev c₂ : ℕ
  c₂ = get_or a.counts plan.second 0

  whole : Whole (take a.n a.index) a.counts i k.plans.decision plan
  whole = plan_means (take a.n a.index) a.counts i k.plans.decision plan k.plans.is

  pub first_slot : plan.first ≡ slot_of a (receiver k one)
  first_slot = receiver_slot k one whole.first

  pub second_slot : plan.second ≡ slot_of a (receiver k two)
  second_slot = receiver_slot k two whole.second

  pub first_count : c₁ ≡ length (place (line_in a) (receiver k one)).bag
  first_count = receiver_count k one first_slot

  pub second_count : c₂ ≡ length (place (line_in a) (receiver k two)).bag
  second_count = receiver_count k two second_slot

  -- what it rests on: the station does not refuse, and both receivers have room
  pub decided : Decided (line_in a) x i k.leave (Ok d)
  decided = decided_by k whole.decision

  pub rooms : (room_for one c₁ && room_for two c₂) ≡ true
  rooms = whole.rooms

  pub fits : (room_for one c₁ ≡ true) × (room_for two c₂ ≡ true)
  fits = and_both (room_for one c₁) (room_for two c₂) rooms

  pub accepts : is_done (step (line_in a) x) ≡ true
  unfolding is_done
  accepts = ap is_done (step_fits decided c₁ c₂ first_count second_count rooms)

-- so a plan tells that it is done, and a refusal that it is not
pub tells : {a : Arrays} {x : Step} {i : ℕ} {f : Bool} (r : Result Plan Refusal) → Judged a x i f r → is_done (step (line_in a) x) ≡ is_ok r
unfolding is_done
tells (Ok plan) k = accepts k
tells (Err e) k = ap is_done (refuses k)
