-- The records of a step list: 12 bytes each, one after the other.
use Prim.Native.Nat.{ℕ, ◌*◌, ◌<◌}
use mathlib.Core.Path.{◌≡◌, refl}
use mathlib.Core.List.{List, ◌++◌}
use lib.ListN.{length, get_or, take, drop}
use Rattle.line.specs.declared.Step.{Step}
use Rattle.lists.proofs.Concat.{joined_append, joined_size, joined_at}
use Rattle.steps.specs.Steps.{step_bytes, list_bytes}

pub step_size : (x : Step) → length (step_bytes x) ≡ 12
unfolding step_bytes
step_size x = refl

pub list_size : (l : List Step) → length (list_bytes l) ≡ 12 * length l
unfolding list_bytes
list_size = joined_size step_bytes list_bytes refl (λ x l. refl) 12 step_size

pub list_append : (a b : List Step) → list_bytes (a ++ b) ≡ list_bytes a ++ list_bytes b
unfolding list_bytes
list_append = joined_append step_bytes list_bytes refl (λ x l. refl)

-- record k, whatever stands behind the list
pub list_at : (l : List Step) (rest : List ℕ) (k : ℕ) (d : Step) → k < length l → take 12 (drop (12 * k) (list_bytes l ++ rest)) ≡ step_bytes (get_or l k d)
unfolding list_bytes
list_at = joined_at step_bytes list_bytes refl (λ x l. refl) 12 step_size
