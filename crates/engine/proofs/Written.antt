-- The table in the room, whatever the outcome: it lies within the room and has no fault. Where nothing is written it is empty.
use Prim.Native.Nat.{ℕ, ◌*◌, ◌≤◌}
use mathlib.Core.Path.{◌≡◌, refl, sym, subst}
use mathlib.Core.Bool.{Bool, true, false, cond}
use mathlib.Core.List.Memᴰ
use mathlib.Core.List.{List, []}
use native.Mathlib.Omega.{arith}
use lib.Dec.{eqb}
use lib.ListN.{length, take, drop, length-append}
use borrow.Author.Tests.{eqb-true}
use Rattle.table.specs.Blocks.{bytes_of}
use Rattle.table.specs.Fault.{fault_of}
use Rattle.table.proofs.Circle.{written_accepted}
use Rattle.arrays.proofs.Writing.{written_size}
use Rattle.finishing.specs.declared.Ran.{Ran}
use Rattle.engine.specs.Ran.{fault_before, refused_with, outcome, table_in}
use Rattle.finishing.specs.Ended.{run_of, Outcome, ended_with, said}
use Rattle.engine.proofs.WholeLists.{table_fault, after_sound, accepted_outcome, written_is_accepted}

none_faulty : fault_of [] ≡ 0
unfolding bytes_of
none_faulty = (written_accepted [] (record {
  few = omega arith;
  ranged = λ s m. absurd (Memᴰ.not-nil m);
  marked = λ s m. absurd (Memᴰ.not-nil m);
  small = λ s m. absurd (Memᴰ.not-nil m);
  sided = λ s m. absurd (Memᴰ.not-nil m);
  distinct = tt;
  known = λ s m. absurd (Memᴰ.not-nil m);
}) (record { rising = tt; bags = λ s m. absurd (Memᴰ.not-nil m) })).0

-- a run that writes, or one that is refused before its first step
pub either : (P : Outcome → Type 0) (t steps room : List ℕ) → (fault_before t steps room ≡ 0 → P (ended_with (run_of t steps) room))
    → P (refused_with (fault_before t steps room) room) → P (outcome t steps room)
unfolding outcome
either P t steps room f g = go (eqb (fault_before t steps room) 0) refl
  where
    go : (b : Bool) → eqb (fault_before t steps room) 0 ≡ b → P (cond b (ended_with (run_of t steps) room) (refused_with (fault_before t steps room) room))
    go true e = f (eqb-true (fault_before t steps room) 0 e)
    go false e = g

left_accepted : (t steps room : List ℕ) → fault_of (table_in (outcome t steps room)) ≡ 0
left_accepted t steps room =
    either (λ (o : Outcome). fault_of (table_in o) ≡ 0) t steps room
    (λ e. rw (accepted_outcome t steps room e) at (written_is_accepted t steps room e)) none_faulty

left_within : (t steps room : List ℕ) → 512 * (outcome t steps room).stations ≤ length (outcome t steps room).room
left_within t steps room =
    either (λ (o : Outcome). 512 * o.stations ≤ length o.room) t steps room
    (λ e.
    let line = (run_of t steps).line in
    omega (arith, length-append (bytes_of line) (drop (512 * length line) room), written_size line (after_sound t steps (table_fault t steps room e)).0.small))
    (omega arith)

-- the same of what the code's answer says, with the room that it leaves
module _ (t steps room : List ℕ) (r : Ran) (after : List ℕ) (e : said r after ≡ outcome t steps room) where
  pub said_within : 512 * r.stations ≤ length after
  said_within = subst (λ (o : Outcome). 512 * o.stations ≤ length o.room) (sym e) (left_within t steps room)

  pub said_accepted : fault_of (take (512 * r.stations) after) ≡ 0
  said_accepted = subst (λ (o : Outcome). fault_of (table_in o) ≡ 0) (sym e) (left_accepted t steps room)
