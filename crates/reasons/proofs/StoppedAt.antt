-- The step that a run stopped at, where the station was held: it stands in the step list after the steps done.
use Prim.Native.Nat.{ℕ, zero, suc, ◌+◌, ◌/◌}
use Rattle.std.specs.Prelude.{Ok, Err}
use Rattle.line.specs.Types.{Reading}
use mathlib.Core.Path.{◌≡◌, refl}
use mathlib.Core.List.{List, ◌∷◌, map}
use native.Mathlib.Omega.{arith}
use lib.ListN.{length, drop}
use Rattle.lists.specs.Places.{range}
use Rattle.line.specs.declared.Step as declared
use Rattle.line.specs.declared.Reason.{Reason}
use Rattle.line.specs.declared.Refusal.TheVariants.{Held}
use Rattle.line.specs.Answer.{refused}
use Rattle.line.specs.Node.{Line}
use Rattle.line.specs.Step.{step}
use Rattle.line.specs.Run.{try, EndsAt}
use Rattle.steps.specs.Steps.{step_at, steps_of}
use Rattle.steps.proofs.Refusals.{read_malformed}

-- what stands first once k are gone, of n things made by number from a on
first_left : {A : Type 0} (f : ℕ → A) (a n k j : ℕ) → j ≡ a + k → {x : A} {rest : List A} → drop k (map f (range a n)) ≡ x ∷ rest → f j ≡ x
unfolding range
first_left f a zero zero j h e = absurd (let z : ◌≡◌ {A = ℕ} 0 1 = cc in omega arith)
first_left f a zero (suc k) j h e = absurd (let z : ◌≡◌ {A = ℕ} 0 1 = cc in omega arith)
first_left f a (suc n) zero j h e = let z : j ≡ a = omega arith in cc
first_left f a (suc n) (suc k) j h e = first_left f (suc a) n k j (omega arith) e

-- a step was read there, and it is held in the line
pub record HeldAt (steps : List ℕ) (k : ℕ) (line : Line) (why : Reason) : Type 0 where
  pub held : declared.Step
  pub read : step_at steps k ≡ Ok held
  pub refuses : step line held ≡ refused (Held why)

module _ (steps : List ℕ) (k : ℕ) (line : Line) (why : Reason) where
  -- a record that is no step is refused as malformed
  tried : (x : Reading) → step_at steps k ≡ x → try line x ≡ refused (Held why) → HeldAt steps k line why
  unfolding try
  tried (Ok y) e h = record { held = y; read = e; refuses = h }
  tried (Err r) e h = let m = read_malformed steps k r e in absurd (let z : ◌≡◌ {A = ℕ} 0 1 = cc in omega arith)

  pub stopped_at : EndsAt (steps_of steps) k line (Err (Held why)) → HeldAt steps k line why
  unfolding steps_of
  stopped_at w = tried w.0 (first_left (step_at steps) 0 (length steps / 12) k k (omega arith) w.2) w.3
