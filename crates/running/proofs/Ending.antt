-- How the loop of the run ends.
use Prim.Native.Nat.{ℕ}
use Rattle.line.specs.Types.{Ending}
use mathlib.Core.Path.{◌≡◌, ap, ◌∙◌}
use mathlib.Core.List.{List}
use Rattle.line.specs.Run as machine
use Rattle.line.proofs.Runs.{ended}
use Rattle.arrays.specs.declared.Arrays.{Arrays}
use Rattle.arrays.specs.Arrays.{line_in}
use Rattle.effects.proofs.Underway.{Underway}
use Rattle.finishing.specs.Ended.{Outcome, run_of, ended_with}

module _ {table steps room₀ room : List ℕ} {total : ℕ} {a : Arrays} {k : ℕ} (g : Underway table steps room₀ room total a k) where
  -- the run that ended is the whole run
  pub ends_as : {o : Outcome} {e : Ending} {j : ℕ} → o ≡ ended_with (ended e j (line_in a)) room → ended e j (line_in a) ≡ run_of table steps → o ≡ ended_with (run_of table steps) room₀
  ends_as p q = p ∙ ap (λ (r : machine.Run). ended_with r room) q ∙ ap (ended_with (run_of table steps)) g.still
