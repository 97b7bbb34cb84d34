-- The gate's answer and its amount, which is within both lists; and what is filled of that many questions is what the roll call leaves.
use Prim.Native.Nat.{ℕ, ◌≤◌}
use native.Mathlib.Omega.{arith}
use mathlib.Core.Path.{◌≡◌, refl}
use mathlib.Core.Bool.{Bool, true, false}
use mathlib.Core.List.{List, ◌++◌, map}
use lib.Dec.{eqb, leb}
use lib.ListN.{length, take, drop, length-map}
use lib.Seq.{take-length}
use borrow.Author.Tests.{ne_eqb, leb-true}
use Rattle.std.specs.Prelude.{Err}
use Rattle.line.specs.declared.Fault.{Fault}
use Rattle.line.specs.Answer.{fault_number}
use Rattle.line.proofs.Answers.{no_fault}
use Rattle.table.specs.Fault.{fault_of}
use Rattle.leave.specs.declared.records.LeaveRecord.{LeaveRecord}
use Rattle.leave.specs.Leave.{leave_as}
use Rattle.filling.specs.declared.Filled.{Filled}
use Rattle.filling.specs.Filled.{Filling, refused, filled_with, filled_as}
use Rattle.rolls.specs.declared.Roll.{Roll}
use Rattle.rolls.specs.Roll.{record_in}
use Rattle.roll_call.specs.RollCall.{Tells, Rolls, gate_of, record_of, called, roll_call}

module _ (fault n m : ℕ) where
  pub amount_within : ((gate_of fault n m).filled ≤ n) × ((gate_of fault n m).filled ≤ m)
  unfolding gate_of
  amount_within = go (eqb fault 0) (leb n 64) (leb n m) refl refl refl
    where
      go : (a b c : Bool) → eqb fault 0 ≡ a → leb n 64 ≡ b → leb n m ≡ c → ((gate_of fault n m).filled ≤ n) × ((gate_of fault n m).filled ≤ m)
      go false b c e f g = rw e (omega arith, omega arith)
      go true false c e f g = rw (e, f) (omega arith, omega arith)
      go true true false e f g = rw (e, f, g) (omega arith, omega arith)
      go true true true e f g = rw (e, f, g) (omega arith, leb-true n m g)

-- what is filled of the first k questions
abbrev filled_up_to : Roll → ℕ → List ℕ → List LeaveRecord → List LeaveRecord
filled_up_to roll k qs rs = map (record_in roll) (take k qs) ++ drop (length (take k qs)) rs

module _ (roll : Roll) (qs : List ℕ) (rs : List LeaveRecord) where
  abbrev G : Filled
  G = gate_of 0 (length qs) (length rs)

  is_called : (b c : Bool) → leb (length qs) 64 ≡ b → leb (length qs) (length rs) ≡ c → filled_as G (filled_up_to roll G.filled qs rs) ≡ called (record_in roll) qs rs
  unfolding gate_of called filled_with
  is_called false c f g = rw f
  is_called true false f g = rw (f, length-map, g)
  is_called true true f g = rw (f, length-map, g, take-length)

  -- the questions that the gate lets through, filled, are what is called
  pub gate_called : {filled : Filled} {zs : List LeaveRecord} → filled ≡ G → zs ≡ filled_up_to roll filled.filled qs rs → filled_as filled zs ≡ called (record_in roll) qs rs
  gate_called e f = rw (f, e) (is_called (leb (length qs) 64) (leb (length qs) (length rs)) refl refl)

module _ {t : List ℕ} {roll : Roll} (tells : Tells t roll) where
  -- a roll of an accepted table tells of each station what the single question does
  asked_alike : (qs : List ℕ) → map (record_in roll) qs ≡ map (record_of t) qs
  asked_alike qs = λ i. map (λ (q : ℕ). leave_as (tells.told q i)) qs

  module _ (clean : fault_of t ≡ 0) (qs : List ℕ) (rs : List LeaveRecord) where
    -- what is called over it is the roll call
    pub called_alike : {f : Filling LeaveRecord} → f ≡ called (record_in roll) qs rs → f ≡ roll_call t qs rs
    unfolding called roll_call
    called_alike e = rw (clean, ← asked_alike qs) e

    -- so the questions that the gate lets through, filled, are the roll call
    pub roll_called : {filled : Filled} {zs : List LeaveRecord} → filled ≡ gate_of 0 (length qs) (length rs) → zs ≡ filled_up_to roll filled.filled qs rs → filled_as filled zs ≡ roll_call t qs rs
    roll_called e f = called_alike (gate_called roll qs rs e f)

-- 1 to 7: the number, and nothing filled
module _ (t qs : List ℕ) (rs : List LeaveRecord) {f : Fault} (rolls : Rolls t (Err f)) {filled : Filled} where
  pub refused_alike : filled.answer ≡ fault_number f → filled.filled ≡ 0 → filled_as filled rs ≡ roll_call t qs rs
  unfolding roll_call
  refused_alike a z = rw (a, z, ← rolls.fault_is, ne_eqb (fault_number f) 0 (no_fault f))

  pub call_refused : filled ≡ refused f → filled_as filled rs ≡ roll_call t qs rs
  call_refused e = refused_alike (rw e refl) (rw e refl)
