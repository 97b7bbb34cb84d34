-- Runs over whole step lists: what a run writes is the table of the line it leaves; so receivers of alike tables agree, the line is
-- never cut, and what is written is accepted when it is read again.
use Prim.Native.Nat.{ℕ, ◌*◌, ◌%◌, ◌≤◌}
use Rattle.std.specs.Prelude.{Ok}
use mathlib.Core.Path.{◌≡◌, refl, sym, ap, ◌∙◌}
use mathlib.Core.Logic.{◌↔◌}
use mathlib.Core.Bool.{Bool, true, false, cond}
use mathlib.Core.List.{List, map}
use native.Mathlib.Omega.{arith}
use lib.Dec.{eqb}
use lib.ListN.{length, drop}
use lib.Seq.{take_at}
use borrow.Author.Tests.{eqb-true, eq-eqb, le-leb}
use Rattle.line.specs.Run as machine
use Rattle.line.specs.Node.{Line, Present, Written, lower, with_bag_in_order, in_written_order}
use Rattle.line.specs.Accepted.{Accepted}
use Rattle.line.specs.Links.{Joined}
use Rattle.lists.proofs.Lists.{map-length, sort-length}
use Rattle.line.proofs.Runs as line
use Rattle.line.proofs.WrittenOrder.{written_order_keeps}
use Rattle.table.specs.Blocks.{nodes, line_of, bytes_of}
use Rattle.table.specs.Fault.{fault_of}
use Rattle.table.proofs.BlockLaws.{nodes_length}
use Rattle.table.proofs.FaultLaws.{accepted_passes}
use Rattle.table.proofs.Accepting.{table_accepted, alike_tables}
use Rattle.table.proofs.Circle.{written_accepted}
use Rattle.arrays.proofs.Writing.{written_size}
use Rattle.steps.specs.Steps.{steps_of}
use Rattle.engine.specs.Ran.{list_holds, room_holds, fault_before, refused_with, outcome, table_in}
use Rattle.finishing.specs.Ended.{run_of, ended_with}
use Rattle.engine.specs.Claims.{SameOutcome, ReceiversAgree, PresentBefore, JoinedKept, WrittenIsAccepted, WrittenReadsBack}

-- a run that begins has read an accepted table
pub table_fault : (t steps room : List ℕ) → fault_before t steps room ≡ 0 → fault_of t ≡ 0
unfolding fault_before
table_fault t steps room h = go (eqb (fault_of t) 0) refl h
  where
    go : (b : Bool) → eqb (fault_of t) 0 ≡ b → cond b (cond (list_holds steps) (cond (room_holds t room) 0 9) 8) (fault_of t) ≡ 0 → fault_of t ≡ 0
    go true e k = eqb-true (fault_of t) 0 e
    go false e k = k

-- and one over an accepted table begins, where the list and the room are as they must be
pub begins : (t steps room : List ℕ) → fault_of t ≡ 0 → list_holds steps ≡ true → length t ≤ length room → fault_before t steps room ≡ 0
unfolding fault_before room_holds
begins t steps room clean list fits = rw (clean, list, le-leb (length t) (length room) fits)

-- a run that begins ends with the line that its steps leave
pub accepted_outcome : (t steps room : List ℕ) → fault_before t steps room ≡ 0 → outcome t steps room ≡ ended_with (run_of t steps) room
unfolding outcome
accepted_outcome t steps room h = rw (eq-eqb (fault_before t steps room) 0 h) refl

-- that line is accepted and in written order
pub after_sound : (t steps : List ℕ) → fault_of t ≡ 0 → Accepted (run_of t steps).line × Written (run_of t steps).line
after_sound t steps h =
    let a = table_accepted t h in
    (line.run_keeps_accepted (line_of t) (steps_of steps) a.1, line.run_keeps_written (line_of t) (steps_of steps) a.1 a.2)

-- its bytes begin the room
pub table_in_ended : (t steps room : List ℕ) → fault_of t ≡ 0 → table_in (ended_with (run_of t steps) room) ≡ bytes_of (run_of t steps).line
table_in_ended t steps room h =
    let l = (run_of t steps).line in
    take_at (bytes_of l) (drop (512 * length l) room) (512 * length l) (written_size l (after_sound t steps h).0.small)

-- the table written is the table of that line
table_written : (t steps room : List ℕ) → fault_before t steps room ≡ 0 → table_in (outcome t steps room) ≡ bytes_of (run_of t steps).line
table_written t steps room h = ap table_in (accepted_outcome t steps room h) ∙ table_in_ended t steps room (table_fault t steps room h)

-- it is accepted, and its stations are that line
read_again : (t steps room : List ℕ) → fault_before t steps room ≡ 0
    → (fault_of (table_in (outcome t steps room)) ≡ 0) × (nodes (table_in (outcome t steps room)) ≡ (run_of t steps).line)
read_again t steps room h =
    let e = table_written t steps room h in
    let a = after_sound t steps (table_fault t steps room h) in
    let w = written_accepted (run_of t steps).line a.0 a.1 in
    (ap fault_of e ∙ w.0, ap nodes e ∙ w.1)

-- so it is accepted, and read back it is that line, which is in written order
pub written_is_accepted : WrittenIsAccepted
written_is_accepted t steps room h = (read_again t steps room h).0

pub written_reads_back : WrittenReadsBack
written_reads_back t steps room h = ((read_again t steps room h).1, (after_sound t steps (table_fault t steps room h)).1)

-- a station of the line read has a block in the table
read_present : (t : List ℕ) → Accepted (nodes t) → (n : ℕ) → Present (line_of t) n → Present (nodes t) n
unfolding line_of
read_present t ok n = ((written_order_keeps (nodes t) ok).2.stations n).1

-- reading joins the stations that the stored order joins
reading_joins : (t : List ℕ) → fault_of t ≡ 0 → (a b : ℕ) → Joined (nodes t) a b ↔ Joined (line_of t) a b
unfolding line_of
reading_joins t h = (written_order_keeps (nodes t) (table_accepted t h).0).3

-- a station with a block in the table written has one in the table read
pub present_before : PresentBefore
present_before t steps room h n m =
    let s = table_accepted t (table_fault t steps room h) in
    let there = line.present_before (line_of t) (steps_of steps) s.1 n (rw (read_again t steps room h).1 at m) in
    read_present t s.0 n there

-- reading, the run and writing keep what is joined
pub joined_kept : JoinedKept
joined_kept t steps room h a b =
    let f = table_fault t steps room h in
    let s = table_accepted t f in
    let r = reading_joins t f a b in
    rw (read_again t steps room h).1
    (λ m n. let k = line.joined_kept (line_of t) (steps_of steps) s.1 a b m n in (λ j. k.0 (r.0 j), λ j. r.1 (k.1 j)))

-- a table has 512 bytes for each station of its line
pub table_length : (t : List ℕ) → fault_of t ≡ 0 → length t ≡ 512 * length (line_of t)
unfolding line_of in_written_order
table_length t h =
    omega
    (arith, sort-length lower (map with_bag_in_order (nodes t)), map-length with_bag_in_order (nodes t), nodes_length t, eqb-true (length t % 512) 0 (accepted_passes t h).whole)

-- tables of one line have one length
same_length : (t u : List ℕ) → fault_of t ≡ 0 → fault_of u ≡ 0 → line_of t ≡ line_of u → length t ≡ length u
same_length t u h k e = omega (arith, table_length t h, table_length u k, ap length e)

-- so what is refused before the first step is the same
pub same_fault : (t u steps room room' : List ℕ) → fault_of t ≡ 0 → fault_of u ≡ 0 → length t ≡ length u → length room ≡ length room'
    → fault_before t steps room ≡ fault_before u steps room'
unfolding fault_before room_holds
same_fault t u steps room room' h k e l = rw (h, k, e, l) refl

-- one line and one fault give one outcome
pub receivers_agree : ReceiversAgree
unfolding outcome
receivers_agree t u steps room room' h k a l =
    let e = alike_tables t u h k a in
    let f = same_fault t u steps room room' h k (same_length t u h k e) l in
    rw f (go (eqb (fault_before u steps room') 0) e)
  where
    go : (b : Bool) → line_of t ≡ line_of u
        → SameOutcome (cond b (ended_with (run_of t steps) room) (refused_with (fault_before u steps room') room))
        (cond b (ended_with (run_of u steps) room') (refused_with (fault_before u steps room') room'))
    go true e =
        let r : run_of t steps ≡ run_of u steps = ap (λ (x : Line). machine.run x (steps_of steps)) e in
        record {
          answer = ap (λ (x : machine.Run). Ok x.ending) r;
          done = ap (λ (x : machine.Run). x.steps) r;
          stations = ap (λ (x : machine.Run). length x.line) r;
          written = table_in_ended t steps room h ∙ ap (λ (x : machine.Run). bytes_of x.line) r ∙ sym (table_in_ended u steps room' k);
        }
    go false e = record { answer = refl; done = refl; stations = refl; written = refl }
