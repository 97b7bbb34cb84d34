-- A run in a room as long as its table: it answers neither 9 nor 16, and which room it is plays no part in what is printed of it.
use Prim.Native.Nat.{ℕ, ◌≤◌}
use Rattle.std.specs.Prelude.{Ok, Err}
use Rattle.line.specs.Types.{Ending}
use mathlib.Core.Path.{◌≡◌, refl, sym, ◌∙◌}
use mathlib.Core.Bool.{Bool, true, false, cond}
use mathlib.Core.Logic.{◌≢◌}
use mathlib.Core.List.{List}
use native.Mathlib.Omega.{arith}
use lib.Dec.{eqb}
use lib.ListN.{length}
use borrow.Author.Tests.{eqb-true, le-leb}
use Rattle.line.specs.declared.Refusal.TheVariants.{Malformed, Absent, NotInBag, Staying, Held, Full}
use Rattle.line.specs.Answer.{ending_number, answer_number}
use Rattle.table.specs.Blocks.{nodes, bytes_of}
use Rattle.table.specs.Fault.{fault_of}
use Rattle.text.specs.Listing.{listing_text}
use Rattle.finishing.specs.Ended.{Outcome, run_of, ended_with}
use Rattle.engine.specs.Ran.{list_holds, room_holds, fault_before, refused_with, outcome}
use Rattle.engine.proofs.WholeLists.{table_fault, table_in_ended}
use Rattle.engine.proofs.Before.{before_fits}
use Rattle.engine.proofs.Written.{either}
use Rattle.printing.specs.Printed.{printed}

-- a number that a run answers
abbrev pub OfRun : ℕ → Type 0
OfRun n = (n ≢ 9) × (n ≢ 16)

ending_of_run : (e : Ending) → OfRun (ending_number e)
ending_of_run (Ok _) = omega arith
ending_of_run (Err Malformed) = omega arith
ending_of_run (Err Absent) = omega arith
ending_of_run (Err NotInBag) = omega arith
ending_of_run (Err Staying) = omega arith
ending_of_run (Err (Held why)) = omega arith
ending_of_run (Err Full) = omega arith

module _ (t steps room : List ℕ) (h : length t ≤ length room) where
  pub answer_of_run : OfRun (answer_number (outcome t steps room).answer)
  answer_of_run =
      either (λ (o : Outcome). OfRun (answer_number o.answer)) t steps room (λ e. ending_of_run (run_of t steps).ending) (omega (arith, before_fits t steps room h))

  -- what is refused before the first step, with no word of the room
  before : fault_before t steps room ≡ cond (eqb (fault_of t) 0) (cond (list_holds steps) 0 8) (fault_of t)
  unfolding fault_before room_holds
  before = rw (le-leb (length t) (length room) h)

-- the listing of a run that ended, with no word of the room
ended_printed : (t steps room : List ℕ) → fault_of t ≡ 0
    → printed (ended_with (run_of t steps) room)
    ≡ listing_text (Ok (run_of t steps).ending) (run_of t steps).steps (length (run_of t steps).line) (nodes (bytes_of (run_of t steps).line))
unfolding printed
ended_printed t steps room h = rw (table_in_ended t steps room h)

-- nor has the listing of a refused one
refused_printed : (n : ℕ) (room room' : List ℕ) → printed (refused_with n room) ≡ printed (refused_with n room')
unfolding printed
refused_printed n room room' = refl

pub any_room : (t steps room room' : List ℕ) → length t ≤ length room → length t ≤ length room' → printed (outcome t steps room) ≡ printed (outcome t steps room')
unfolding outcome
any_room t steps room room' h k = rw (sym same) (go (eqb (fault_before t steps room) 0) refl)
  where
    same : fault_before t steps room ≡ fault_before t steps room'
    same = before t steps room h ∙ sym (before t steps room' k)

    go : (b : Bool) → eqb (fault_before t steps room) 0 ≡ b
        → printed (cond b (ended_with (run_of t steps) room) (refused_with (fault_before t steps room) room))
        ≡ printed (cond b (ended_with (run_of t steps) room') (refused_with (fault_before t steps room) room'))
    go true e =
        let f : fault_of t ≡ 0 = table_fault t steps room (eqb-true (fault_before t steps room) 0 e) in
        ended_printed t steps room f ∙ sym (ended_printed t steps room' f)
    go false e = refused_printed (fault_before t steps room) room room'
