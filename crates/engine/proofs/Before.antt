-- What is refused before the first step: it is at most 9, and one law for each way through the code.
use Rattle.std.specs.Prelude.{Result, Ok, Err}
use Prim.Native.Nat.{ℕ, ◌/◌, ◌%◌, ◌≤◌, ◌<◌}
use mathlib.Core.Path.{◌≡◌, refl, sym, ◌∙◌}
use mathlib.Core.Bool.{Bool, true, false, cond, ◌&&◌}
use mathlib.Core.List.{List}
use native.Mathlib.Omega.{arith}
use lib.Dec.{eqb, leb}
use lib.ListN.{length}
use borrow.Author.Tests.{eq-eqb, ne_eqb, le-leb, lt-leb, eqb-true, eqb-false, leb-true}
use Rattle.lists.proofs.Lists.{and_both}
use Rattle.line.specs.declared.Fault.{Fault}
use Rattle.line.specs.declared.Fault.TheVariants.{BadList, ShortRoom}
use Rattle.line.specs.Answer.{fault_number}
use Rattle.line.proofs.Answers.{no_fault}
use Rattle.table.specs.Fault.{fault_of}
use Rattle.table.specs.Index.{index_array, Inspects}
use Rattle.table.proofs.FaultLaws.{cond_most, fault_most}
use Rattle.table.proofs.Lines.{inspected_clean, inspected_array, inspected_refused}
use Rattle.finishing.specs.Ended.{Outcome, run_of, ended_with}
use Rattle.engine.specs.Ran.{list_holds, room_holds, fault_before, Begins, refused_with, outcome}

module _ (table steps room : List ℕ) where
  -- it is at most m where 8 is, and what the room is refused with
  within : (m : ℕ) → 8 ≤ m → cond (room_holds table room) 0 9 ≤ m → fault_before table steps room ≤ m
  unfolding fault_before
  within m h k =
      cond_most (eqb (fault_of table) 0) (cond (list_holds steps) (cond (room_holds table room) 0 9) 8) (fault_of table)
      (cond_most (list_holds steps) (cond (room_holds table room) 0 9) 8 k h) (omega (arith, fault_most table))

  pub before_most : fault_before table steps room ≤ 9
  before_most = within 9 (omega arith) (cond_most (room_holds table room) 0 9 (omega arith) (omega arith))

  -- the room is as long as the table
  pub before_fits : length table ≤ length room → fault_before table steps room ≤ 8
  unfolding room_holds
  before_fits h = within 8 (omega arith) (rw (le-leb (length table) (length room) h) (omega arith))

-- One law for each way through the checks.
module _ (table steps room : List ℕ) where
  pub begin_faulty : {f : Fault} → Inspects table (Err f) → {r : Result (List ℕ) Fault} → r ≡ Err f → Begins table steps room r
  unfolding fault_before
  begin_faulty {f} i e = rw e (record { fault_is = rw (inspected_refused i, ne_eqb (fault_number f) 0 (no_fault f)); index_is = tt })

  module _ {index : List ℕ} (i : Inspects table (Ok index)) where
    eight : list_holds steps ≡ false → Begins table steps room (Err BadList)
    unfolding fault_before
    eight h = record { fault_is = rw (inspected_clean i, h); index_is = tt }

    -- 8: a part of a step is left over
    pub begin_parted : (length steps % 12 ≡ 0 → ⊥) → Begins table steps room (Err BadList)
    unfolding list_holds
    begin_parted h = eight (rw (ne_eqb (length steps % 12) 0 h))

    module _ (e : length steps % 12 ≡ 0) where
      -- 8: too many steps
      pub begin_long : 4096 < length steps / 12 → Begins table steps room (Err BadList)
      unfolding list_holds
      begin_long h = eight (rw (eq-eqb (length steps % 12) 0 e, lt-leb (length steps / 12) 4096 h))

      module _ (l : length steps / 12 ≤ 4096) where
        list : list_holds steps ≡ true
        unfolding list_holds
        list = rw (eq-eqb (length steps % 12) 0 e, le-leb (length steps / 12) 4096 l)

        -- 9
        pub begin_short : length room < length table → Begins table steps room (Err ShortRoom)
        unfolding fault_before room_holds
        begin_short h = record { fault_is = rw (inspected_clean i, list, lt-leb (length table) (length room) h); index_is = tt }

        pub begin_done : length table ≤ length room → Begins table steps room (Ok index)
        unfolding fault_before room_holds
        begin_done h = record { fault_is = rw (inspected_clean i, list, le-leb (length table) (length room) h); index_is = inspected_array i }

-- nothing is refused where each of the three parts holds
all_pass : (n : ℕ) (c d : Bool) → cond (eqb n 0) (cond c (cond d 0 9) 8) n ≡ 0 → (n ≡ 0) × (c ≡ true) × (d ≡ true)
all_pass n c d h = go (eqb n 0) c d refl refl refl h
  where
    go : (b x y : Bool) → eqb n 0 ≡ b → c ≡ x → d ≡ y → cond b (cond x (cond y 0 9) 8) n ≡ 0 → (n ≡ 0) × (c ≡ true) × (d ≡ true)
    go true true true e f g h = (eqb-true n 0 e, f, g)
    go true true false e f g h = absurd (omega arith)
    go true false y e f g h = absurd (omega arith)
    go false x y e f g h = absurd (eqb-false n 0 e h)

-- What is refused, and what is run.
module _ (table steps room : List ℕ) where
  pub run_refused : {f : Fault} → Begins table steps room (Err f) → refused_with (fault_number f) room ≡ outcome table steps room
  unfolding outcome
  run_refused {f} b = rw (← b.fault_is, ne_eqb (fault_number f) 0 (no_fault f))

  module _ {index : List ℕ} (b : Begins table steps room (Ok index)) where
    none : fault_before table steps room ≡ 0
    none = sym b.fault_is

    pub run_begun : (fault_of table ≡ 0) × (index ≡ index_array table) × (length steps / 12 ≤ 4096) × (length table ≤ length room)
    unfolding fault_before list_holds room_holds
    run_begun =
        let p = all_pass (fault_of table) (eqb (length steps % 12) 0 && leb (length steps / 12) 4096) (leb (length table) (length room)) none in
        (p.0, b.index_is, leb-true (length steps / 12) 4096 (and_both (eqb (length steps % 12) 0) (leb (length steps / 12) 4096) p.1).1, leb-true (length table) (length room) p.2)

    pub run_ends : {o : Outcome} → o ≡ ended_with (run_of table steps) room → o ≡ outcome table steps room
    unfolding outcome
    run_ends p = p ∙ rw none
