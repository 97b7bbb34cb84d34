-- What stands in the room: it is too short for the bytes, or they begin it.
use Prim.Native.Nat.{ℕ, ◌≤◌, ◌<◌}
use mathlib.Core.Path.{◌≡◌}
use mathlib.Core.List.{List, ◌++◌}
use lib.ListN.{length, drop}
use borrow.Author.Tests.{lt-leb, le-leb}
use Rattle.words.specs.Writing.{Wrote}
use Rattle.words.proofs.Written.{first_size, first_bytes}
use Rattle.line.specs.declared.Fault.TheVariants.{ShortRoom}
use Rattle.filling.specs.declared.Filled.{Filled}
use Rattle.filling.specs.Filled.{refused, filled_with, filled_as}

module _ (n : ℕ) (bytes room : List ℕ) where
  pub room_short : length room < length bytes → {r : Filled} → r ≡ refused ShortRoom → filled_as r room ≡ filled_with n bytes room
  unfolding filled_with
  room_short h e = rw (e, lt-leb (length bytes) (length room) h)

  pub room_filled : length bytes ≤ length room → {m : List ℕ} {k : ℕ} → Wrote room 0 bytes k m → filled_as (record { answer = 0; filled = n }) m ≡ filled_with n bytes room
  unfolding filled_with
  room_filled h a =
      let is : ◌≡◌ {A = List ℕ} _ (bytes ++ drop (length bytes) room) = rw (first_size a) at (first_bytes a) in
      rw (le-leb (length bytes) (length room) h, is)
