-- 16, and what else is proved of the program (document 01, "The numbers a crew may see").
use Prim.Native.Nat.{ℕ, suc, ◌≤◌}
use mathlib.Core.Path.{◌≡◌, refl, sym, ap, ◌∙◌}
use mathlib.Core.Bool.{Bool, true, false, ◌&&◌, and-false}
use mathlib.Core.Logic.{◌≢◌, ◌⊎◌, inl, inr}
use native.Mathlib.Omega.{arith}
use lib.Dec.{leb}
use lib.ListN.{length, take, length-take, length-replicate}
use lib.Seq.{take_all}
use borrow.Author.Tests.{leb-true, leb-false, le-leb, lt-leb}
use Rattle.lists.proofs.Lists.{and_both, fails}
use Rattle.line.specs.Answer.{answer_number}
use Rattle.words.specs.Words.{digits, decimal, spaced, parted}
use Rattle.text.specs.Listing.{line_text, head_text, prints_stations, listing_text}
use Rattle.finishing.specs.Ended.{Outcome}
use Rattle.engine.specs.Ran.{refused_with, outcome}
use Rattle.printing.specs.Printed.{printed}
use Rattle.printing.specs.Program.{File, file_holds, files_hold, table_limit, steps_limit, program_room, program_outcome}
use Rattle.printing.specs.Claims.{Unfit, SixteenMeans, SixteenPrints, NeverNine, AnyRoomServes, first_of, OneMoreIsEnough}
use Rattle.printing.proofs.Answers.{OfRun, answer_of_run, any_room}

module _ (limit : ℕ) (file : File) where
  -- a file that holds is within its limit
  within : file_holds limit file ≡ true → length file.bytes ≤ limit
  within h = leb-true (length file.bytes) limit (and_both file.is_read (leb (length file.bytes) limit) h).1

  fails_unfit : file_holds limit file ≡ false → Unfit limit file
  fails_unfit = go file.is_read refl
    where
      go : (b : Bool) → file.is_read ≡ b → (b && leb (length file.bytes) limit) ≡ false → Unfit limit file
      go true r e = inr (leb-false (length file.bytes) limit e)
      go false r e = inl r

  unfit_fails : Unfit limit file → file_holds limit file ≡ false
  unfit_fails (inl e) = rw e
  unfit_fails (inr h) = rw (lt-leb (length file.bytes) limit h) (and-false file.is_read)

  -- one byte more than the limit tells as much as the whole file
  first_length : leb (length (take (suc limit) file.bytes)) limit ≡ leb (length file.bytes) limit
  first_length = go (leb (length file.bytes) limit) refl
    where
      go : (b : Bool) → leb (length file.bytes) limit ≡ b → leb (length (take (suc limit) file.bytes)) limit ≡ b
      go true e = le-leb (length (take (suc limit) file.bytes)) limit (omega (arith, length-take (suc limit) file.bytes, leb-true (length file.bytes) limit e))
      go false e = lt-leb (length (take (suc limit) file.bytes)) limit (omega (arith, length-take (suc limit) file.bytes, leb-false (length file.bytes) limit e))

  first_holds : file_holds limit (first_of (suc limit) file) ≡ file_holds limit file
  first_holds = ap (λ (b : Bool). file.is_read && b) first_length

  first_whole : file_holds limit file ≡ true → take (suc limit) file.bytes ≡ file.bytes
  first_whole h = take_all (suc limit) file.bytes (omega (arith, within h))

module _ (table steps : File) where
  unfit_one : files_hold table steps ≡ false → Unfit table_limit table ⊎ Unfit steps_limit steps
  unfit_one = go (file_holds table_limit table) refl
    where
      go : (b : Bool) → file_holds table_limit table ≡ b → (b && file_holds steps_limit steps) ≡ false → Unfit table_limit table ⊎ Unfit steps_limit steps
      go true r e = inr (fails_unfit steps_limit steps e)
      go false r e = inl (fails_unfit table_limit table r)

  one_unfit : Unfit table_limit table ⊎ Unfit steps_limit steps → files_hold table steps ≡ false
  one_unfit (inl u) = rw (unfit_fails table_limit table u)
  one_unfit (inr u) = rw (unfit_fails steps_limit steps u) (and-false (file_holds table_limit table))

  refused : files_hold table steps ≡ false → program_outcome table steps ≡ refused_with 16 program_room
  unfolding program_outcome
  refused h = rw h

  ran : files_hold table steps ≡ true → program_outcome table steps ≡ outcome table.bytes steps.bytes program_room
  unfolding program_outcome
  ran h = rw h

  -- the program's room is as long as any table that is let in
  roomy : files_hold table steps ≡ true → length table.bytes ≤ length program_room
  roomy h = omega (arith, within table_limit table (and_both (file_holds table_limit table) (file_holds steps_limit steps) h).0, length-replicate {A = ℕ} table_limit 0)

  ran_answer : files_hold table steps ≡ true → OfRun (answer_number (program_outcome table steps).answer)
  ran_answer h = rw (ran h) (answer_of_run table.bytes steps.bytes program_room (roomy h))

  refused_answer : files_hold table steps ≡ false → answer_number (program_outcome table steps).answer ≡ 16
  refused_answer h = ap (λ (o : Outcome). answer_number o.answer) (refused h)

  -- 16 tells whether both files hold
  sixteen_refused : answer_number (program_outcome table steps).answer ≡ 16 → files_hold table steps ≡ false
  sixteen_refused e = fails (files_hold table steps) (λ h. (ran_answer h).1 e)

  other_ran : answer_number (program_outcome table steps).answer ≢ 16 → files_hold table steps ≡ true
  other_ran n = go (files_hold table steps) refl
    where
      go : (b : Bool) → files_hold table steps ≡ b → b ≡ true
      go true e = refl
      go false e = absurd (n (refused_answer e))

pub sixteen_means : SixteenMeans
sixteen_means table steps = (λ e. unfit_one table steps (sixteen_refused table steps e), λ u. refused_answer table steps (one_unfit table steps u))

pub sixteen_prints : SixteenPrints
unfolding printed digits decimal spaced parted line_text head_text prints_stations listing_text
sixteen_prints table steps e = rw (refused table steps (sixteen_refused table steps e))

pub never_nine : NeverNine
never_nine table steps e = (ran_answer table steps (other_ran table steps (λ h. omega arith))).0 e

pub any_room_serves : AnyRoomServes
any_room_serves table steps room n k =
    let h = other_ran table steps n in
    ap printed (ran table steps h) ∙ any_room table.bytes steps.bytes program_room room (roomy table steps h) k

pub one_more_is_enough : OneMoreIsEnough
one_more_is_enough table steps = ap printed (go (files_hold table steps) refl)
  where
    held : files_hold (first_of (suc table_limit) table) (first_of (suc steps_limit) steps) ≡ files_hold table steps
    held = rw (first_holds table_limit table, first_holds steps_limit steps)

    go : (b : Bool) → files_hold table steps ≡ b → program_outcome (first_of (suc table_limit) table) (first_of (suc steps_limit) steps) ≡ program_outcome table steps
    go true e =
        let both = and_both (file_holds table_limit table) (file_holds steps_limit steps) e in
        ran (first_of (suc table_limit) table) (first_of (suc steps_limit) steps) (held ∙ e)
        ∙ rw (first_whole table_limit table both.0, first_whole steps_limit steps both.1) (sym (ran table steps e))
    go false e = refused (first_of (suc table_limit) table) (first_of (suc steps_limit) steps) (held ∙ e) ∙ sym (refused table steps e)
