-- A message that is not in the bag of the station at a place may not be delivered there.
use Prim.Native.Nat.{ℕ, ◌<◌}
use mathlib.Core.Path.{◌≡◌, refl}
use mathlib.Core.Bool.{false}
use lib.ListN.{length, get_or}
use Rattle.lists.specs.Numbers.{Rising}
use Rattle.line.specs.declared.Action.TheVariants.{Deliver}
use Rattle.line.specs.declared.Message.{Message}
use Rattle.line.specs.Answer.{is_done, ◌>>=◌, require}
use Rattle.line.specs.Message.{holds}
use Rattle.line.specs.Node.{Line, number, numbers, nobody}
use Rattle.line.specs.Act.{act}
use Rattle.line.specs.Step.{step}
use Rattle.line.proofs.Places.{find_at}
use Rattle.next_steps.specs.Allowed.{step_by, is_allowed}

pub undelivered : (line : Line) (i : ℕ) → Rising (numbers line) → i < length line → (m : Message) → holds m (get_or line i nobody).bag ≡ false
    → is_allowed line (step_by (get_or line i nobody) (Deliver m)) ≡ false
unfolding step ◌>>=◌ act require is_done
undelivered line i r h m e = rw (find_at (number (get_or line i nobody)) line i nobody r h refl, e)
