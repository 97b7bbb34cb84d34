-- The list that was filled lies within the room, whatever the answer: a refusal fills nothing.
use Prim.Native.Nat.{ℕ, ◌*◌, ◌≤◌}
use mathlib.Core.Path.{◌≡◌, sym, subst}
use mathlib.Core.Bool.{Bool, true, false, cond}
use mathlib.Core.List.{List, ◌++◌}
use native.Mathlib.Omega.{arith}
use lib.Dec.{eqb, leb}
use lib.ListN.{length, take, drop, length-append}
use lib.Seq.{length-take-le}
use Rattle.line.specs.declared.Step.{Step}
use Rattle.steps.specs.Steps.{list_bytes}
use Rattle.steps.proofs.Records.{list_size}
use Rattle.table.specs.Fault.{fault_of}
use Rattle.filling.specs.declared.Filled.{Filled}
use Rattle.filling.specs.Filled.{Filling, filled_with, filled_as, refused_with}
use Rattle.next_steps.specs.Allowed.{allowed_steps, allowed_in}

abbrev Within : Filling ℕ → Type 0
Within f = 12 * f.filled ≤ length f.room

filled_within : (l : List Step) (room : List ℕ) → Within (filled_with (length l) (list_bytes l) room)
unfolding filled_with
filled_within l room = go (leb (length (list_bytes l)) (length room))
  where
    rest : List ℕ
    rest = drop (length (list_bytes l)) room

    go : (b : Bool) → Within (cond b (record { answer = 0; filled = length l; room = list_bytes l ++ rest }) (refused_with 9 room))
    go true = omega (arith, length-append (list_bytes l) rest, list_size l)
    go false = omega arith

list_within : (t room : List ℕ) → Within (allowed_in t room)
unfolding allowed_in
list_within t room = go (eqb (fault_of t) 0)
  where
    go : (b : Bool) → Within (cond b (filled_with (length (allowed_steps t)) (list_bytes (allowed_steps t)) room) (refused_with (fault_of t) room))
    go true = filled_within (allowed_steps t) room
    go false = omega arith

-- the same of what the code's answer says, with the room that it leaves
module _ (t room : List ℕ) (r : Filled) (after : List ℕ) (e : filled_as r after ≡ allowed_in t room) where
  pub listed_within : 12 * r.filled ≤ length after
  listed_within = subst Within (sym e) (list_within t room)

  pub listed_taken : 12 * r.filled ≡ length (take (12 * r.filled) after)
  listed_taken = sym (length-take-le _ _ listed_within)
