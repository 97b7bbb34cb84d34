-- A room that is not touched at all, and one whose beginning is overwritten.
use Prim.Native.Nat.{ℕ, ◌≤◌}
use mathlib.Core.Path.{◌≡◌, refl, ◌∙◌}
use mathlib.Core.List.{List, ◌++◌}
use native.Mathlib.Omega.{arith}
use lib.ListN.{length, drop, length-append, length-drop}
use lib.Seq.{drop_at}
use Rattle.refusals.specs.Rooms.{Untouched}

module _ {A : Type 0} (room : List A) where
  pub untouched : Untouched 0 room room
  untouched = record { within = omega arith; size = refl; rest = refl }

  -- parts of n bytes or records begin it
  pub begun : (n : ℕ) (parts : List A) → length parts ≡ n → n ≤ length room → Untouched n room (parts ++ drop n room)
  begun n parts e h = record {
    within = h;
    size = length-append parts (drop n room) ∙ omega (arith, length-drop n room);
    rest = drop_at parts (drop n room) n e;
  }
