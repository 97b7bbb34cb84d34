-- A step of the station at place i, judged from the blocks where they lie: as the run judges it over the arrays read from them.
use Prim.Native.Nat.{ℕ, ◌-◌, ◌/◌, ◌≤◌, ◌<◌}
use Rattle.std.specs.Prelude.{Result, is_ok}
use Rattle.line.specs.Types.{Leave}
use mathlib.Core.Path.{◌≡◌, refl, sym, ap, ◌∙◌}
use mathlib.Core.Bool.{Bool}
use mathlib.Core.List.{List}
use native.Mathlib.Omega.{arith}
use lib.Dec.{eqb}
use lib.ListN.{length, get_or, take, replicate, get_or-append, get_or-map}
use Rattle.lists.specs.Places.{first_at}
use Rattle.lists.specs.Numbers.{Rising}
use Rattle.lists.proofs.Numbers.{first_at_lem}
use Rattle.line.specs.declared.Action.{Action}
use Rattle.line.specs.declared.Refusal.{Refusal}
use Rattle.line.specs.declared.Station as declared
use Rattle.line.specs.Node.{Line, number, nobody, with_bag_in_order}
use Rattle.line.specs.Leave.{leave_of}
use Rattle.index.specs.Index.{slot_in, numbers_in}
use Rattle.index.proofs.Entries.{numbers_length}
use Rattle.block.specs.Layout.{station_of, node_of}
use Rattle.table.specs.Blocks.{block_at, line_of}
use Rattle.table.specs.Index.{index_of, index_array}
use Rattle.table.proofs.Indexing.{index_part, index_length}
use Rattle.table.proofs.Lines.{clean_few, numbers_listed, numbers_rise, slot_within, line_at}
use Rattle.arrays.specs.Arrays.{line_in}
use Rattle.arrays.specs.Reading.{arrays_of}
use Rattle.arrays.proofs.Lines.{slot_of}
use Rattle.arrays.proofs.Tables.{filled_at, line_of_table}
use Rattle.moves.specs.declared.Plan.{Plan}
use Rattle.moves.specs.Sends.{Plans}
use Rattle.effects.proofs.Starting.{starts_between}
use Rattle.effects.proofs.Stores.{BetweenSteps, consistent_place, consistent_bag}
use Rattle.effects.proofs.Judging.{Judged, tells}
use Rattle.next_steps.specs.Allowed.{step_by, is_allowed}
use Rattle.allowed.specs.Parts.{node_at, Standing, Asked}

module _ {t index counts : List ℕ} {i : ℕ} (s : Standing t index counts i) where
  -- its slot is a block of the table
  pub standing_slot : slot_in (get_or index i 0) < length t / 512
  standing_slot = slot_within t index s.clean s.listed i s.within

  -- what is asked before it plans
  pub standing_plan : (i < length index) × Rising (numbers_in index)
  standing_plan = (s.within, numbers_rise t index s.clean s.listed)

  few : length t / 512 ≤ 64
  few = clean_few t s.clean

  in_table : i < length t / 512
  in_table = omega (arith, s.within, ap length s.listed, index_length t)

  between : BetweenSteps (arrays_of t)
  between = starts_between t s.clean

  same_line : line_in (arrays_of t) ≡ line_of t
  same_line = line_of_table t few

  part : take (length t / 512) (index_array t) ≡ index
  part = index_part t (length t / 512) refl ∙ sym s.listed

  same_slot : slot_of (arrays_of t) i ≡ slot_in (get_or index i 0)
  same_slot = rw s.listed (ap slot_in (get_or-append (index_of t) (replicate (64 - length t / 512) 0) 0 i (omega (arith, in_table, index_length t))))

  -- the number at place i
  pub standing_number : get_or (numbers_in index) i 0 ≡ number (node_at t i)
  standing_number = ap (λ (l : List ℕ). get_or l i 0) (numbers_listed t index s.clean s.listed) ∙ get_or-map number (line_of t) i nobody

  found_here : i ≡ first_at (eqb (number (node_at t i))) (numbers_in index)
  found_here = sym (first_at_lem (number (node_at t i)) (numbers_in index) i standing_plan.1 (omega (arith, s.within, numbers_length index)) standing_number)

  -- the block of its slot holds it
  pub standing_named : {b : List ℕ} → b ≡ block_at t (slot_in (get_or index i 0)) → {q : ℕ} → q ≡ number (node_of b) → q ≡ number (node_at t i)
  unfolding with_bag_in_order
  standing_named e f = f ∙ sym (ap number (line_at t index s.clean s.listed i s.within e))

-- The step judged.
module _ {t index counts : List ℕ} {i : ℕ} {l : Leave} {found : Bool} {a : Action} (k : Asked t index counts i l found a) where
  abbrev s : Standing t index counts i
  s = k.standing

  module _ {b : List ℕ} (read : b ≡ block_at t (slot_in (get_or index i 0))) {station : declared.Station} (is : station ≡ station_of b) {r : Result Plan Refusal} (plans : Plans index counts i l found station a r) where
    at_place : get_or (line_in (arrays_of t)) i nobody ≡ node_at t i
    at_place = ap (λ (l : Line). get_or l i nobody) (same_line s)

    judged : Judged (arrays_of t) (step_by (node_at t i) a) i found r
    judged = record {
      leave = l;
      between = between s;
      within = in_table s;
      found = rw (part s) (found_here s);
      asked = λ e. k.leave_is e ∙ rw (same_line s, ← consistent_place (between s).consistent i (in_table s)) (ap (leave_of (line_of t)) (sym at_place));
      holds = k.found_is ∙ rw (consistent_bag (between s).consistent i (in_table s), at_place);
      plans = rw (part s, ← s.counted, same_slot s, filled_at t (slot_in (get_or index i 0)) (standing_slot s) station_of nobody.station nobody.station, ← read, ← is) plans;
    }

    pub is_allowed_lem : {b : Bool} → b ≡ is_ok r → b ≡ is_allowed (line_of t) (step_by (node_at t i) a)
    is_allowed_lem e = e ∙ sym (tells r judged) ∙ ap (λ (l : Line). is_allowed l (step_by (node_at t i) a)) (same_line s)
