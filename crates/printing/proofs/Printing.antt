-- What a run left is what the listing shows; what the program prints is the listing of the run, or the line of 16.
use Prim.Native.Nat.{ℕ, ◌*◌}
use Rattle.std.specs.Prelude.{Err}
use mathlib.Core.Path.{◌≡◌, sym, subst}
use mathlib.Core.Bool.{Bool, true, false}
use mathlib.Core.List.{List, ◌++◌}
use lib.ListN.{length, take, drop}
use lib.Seq.{length-take-le}
use Rattle.line.specs.Types.{Answered}
use Rattle.line.specs.Answer.{told}
use Rattle.table.specs.Blocks.{nodes}
use Rattle.text.specs.Listing.{prints_stations, listing_text}
use Rattle.finishing.specs.declared.Ran.{Ran}
use Rattle.finishing.specs.Ended.{Outcome, said}
use Rattle.engine.specs.Ran.{outcome}
use Rattle.engine.proofs.Written.{said_within}
use Rattle.printing.specs.Printed.{printed, Prints}
use Rattle.printing.specs.Program.{File, files_hold, program_room, program_outcome, program_text}

pub written_length : (t steps room : List ℕ) (r : Ran) (left : List ℕ) → said r left ≡ outcome t steps room → 512 * r.stations ≡ length (take (512 * r.stations) left)
written_length t steps room r left e = sym (length-take-le (512 * r.stations) left (said_within t steps room r left e))

pub lists : (t steps room : List ℕ) (r : Ran) (left before after : List ℕ) (n : ℕ) {answer : Answered} → answer ≡ told r.answer
    → said r left ≡ outcome t steps room
    → (n ≡ length (listing_text answer r.done r.stations (nodes (take (512 * r.stations) left)))) × (after ≡ listing_text answer r.done r.stations (nodes (take (512 * r.stations) left)) ++ drop n before)
    → Prints (printed (outcome t steps room)) before n after
unfolding printed
lists t steps room r left before after n a e v = let w = rw a at v in subst (λ (o : Outcome). Prints (printed o) before n after) e (record { filled = w.0; bytes = w.1 })

module _ (table steps : File) (fit : Bool) (e : fit ≡ files_hold table steps) (before after : List ℕ) (n : ℕ) where
  pub lists_run : fit ≡ true → Prints (printed (outcome table.bytes steps.bytes program_room)) before n after → Prints (program_text table steps) before n after
  unfolding program_outcome
  lists_run h w = rw (sym e, h) w

  pub lists_sixteen : {number : ℕ} → number ≡ 16 → fit ≡ false
      → (n ≡ length (listing_text (Err number) 0 0 (nodes table.bytes))) × (after ≡ listing_text (Err number) 0 0 (nodes table.bytes) ++ drop n before)
      → Prints (program_text table steps) before n after
  unfolding program_outcome printed listing_text prints_stations
  lists_sixteen is h v = let w = rw is at v in rw (sym e, h) (record { filled = w.0; bytes = w.1 })
