-- What is sent, by the places of those who receive: one message is one bag stored.
use Prim.Native.Nat.{ℕ, ◌<◌}
use Rattle.std.specs.Prelude.{Option, Some, None}
use mathlib.Core.Path.{◌≡◌, refl, sym, ap, ◌∙◌}
use mathlib.Core.Bool.{Bool, true, false, cond, ◌&&◌, and-true}
use mathlib.Core.List.Memᴰ
use mathlib.Core.List.Memᴰ.{head as here}
use mathlib.Core.List.{List, Memᴰ as Member}
use lib.Dec.{eqb, ltb}
use lib.ListN.{length, length-map, get_or-map}
use lib.Seq.{set-get_or}
use borrow.Author.Tests.{lt-ltb, ltb-true}
use Rattle.line.specs.declared.Message.{Message}
use Rattle.lists.specs.Lists.{all}
use Rattle.line.specs.Message.{put, capacity}
use Rattle.line.specs.Node.{Line, number, numbers, Present, nobody}
use Rattle.lists.specs.Numbers.{Rising}
use Rattle.line.specs.Act.{Send}
use Rattle.line.specs.Step.{send_all, has_room}
use Rattle.line.proofs.Places.{place, with_bag, send_at, room_at}
use Rattle.lists.specs.Places.{first_at}
use Rattle.lists.proofs.Numbers.{found_member, found_there}
use Rattle.rules.specs.declared.Sending.{Sending}
use Rattle.rules.specs.Decided.{sent}
use Rattle.moves.specs.Sends.{receiver_of, room_for}

-- the messages at the receiver's place: one more, or where nothing is sent as they were
abbrev pub arrived : Option Sending → List Message → List Message
arrived None there_is = there_is
arrived (Some x) there_is = put x.message there_is

-- One send. Whoever it goes to stands at the place of the receiver.
pub receiver_within : (line : Line) (x : Option Sending) (i : ℕ) → i < length line → receiver_of (numbers line) x i < length line
receiver_within line None i h = h
receiver_within line (Some x) i h = go (ltb (first_at (eqb x.to) (numbers line)) (length (numbers line))) refl
  where
    go : (t : Bool) → ltb (first_at (eqb x.to) (numbers line)) (length (numbers line)) ≡ t → cond t (first_at (eqb x.to) (numbers line)) i < length line
    go true e = rw (length-map line number) at (ltb-true (first_at (eqb x.to) (numbers line)) (length (numbers line)) e)
    go false e = h

pub receiver_there : (line : Line) (x : Option Sending) (i : ℕ) → ((m : Send) → Member m (sent x) → Present line m.to)
    → (m : Send) → Member m (sent x) → number (place line (receiver_of (numbers line) x i)) ≡ m.to
receiver_there line None i known m k = absurd (Memᴰ.not-nil k)
receiver_there line (Some x) i known m k =
    let z : m.to ≡ x.to = ap (λ (s : Send). s.to) (Memᴰ.eq_of_singleton k) in
    let at = (found_member (numbers line) x.to).1 (known (record { to = x.to; message = x.message }) (here refl)) in
    sym (get_or-map number line (receiver_of (numbers line) (Some x) i) nobody) ∙ rw (lt-ltb (first_at (eqb x.to) (numbers line)) (length (numbers line)) at) (found_there (numbers line) x.to at) ∙ sym z

module _ (line : Line) (i : ℕ) (up : Rising (numbers line)) (h : i < length line) where
  pub send_one : (x : Option Sending) → ((m : Send) → Member m (sent x) → Present line m.to)
      → send_all (sent x) line ≡ with_bag line (receiver_of (numbers line) x i) (arrived x (place line (receiver_of (numbers line) x i)).bag)
  unfolding send_all
  send_one None known = sym (set-get_or line i nobody)
  send_one (Some x) known =
      send_at x.to x.message line (receiver_of (numbers line) (Some x) i) up (receiver_within line (Some x) i h)
      (receiver_there line (Some x) i known (record { to = x.to; message = x.message }) (here refl))

  pub room_one : (x : Option Sending) (c : ℕ) → ((m : Send) → Member m (sent x) → Present line m.to) → c ≡ length (place line (receiver_of (numbers line) x i)).bag
      → all (has_room line) (sent x) ≡ room_for x c
  unfolding all
  room_one None c known e = refl
  room_one (Some x) c known e =
      ap (λ (t : Bool). t && true)
      (room_at (record { to = x.to; message = x.message }) line (receiver_of (numbers line) (Some x) i) nobody up (receiver_within line (Some x) i h)
      (receiver_there line (Some x) i known (record { to = x.to; message = x.message }) (here refl)))
      ∙ and-true _ ∙ ap (λ (n : ℕ). ltb n capacity) (sym e)
