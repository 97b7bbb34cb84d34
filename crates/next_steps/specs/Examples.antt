-- Worked examples of what may happen next, one for each sentence of document 02, T-01; the proof computes them (proofs/Worked.antt).
use Rattle.std.specs.Prelude.{◌≡◌, [], ◌∷◌, Some, None}
use Rattle.line.specs.declared.Side.TheVariants.{Left, Right}
use Rattle.line.specs.Message.{introduction, removal}
use Rattle.line.specs.Situations.{staying, leaving, single, timeout_at, deliver_to, exit_of}
use Rattle.line.specs.Examples.{many}
use Rattle.next_steps.specs.Allowed.{allowed_of}

pub record FirstStepsShow : Type 0 where
  -- nothing may happen in an empty table
  pub empty : allowed_of [] ≡ []
  -- a sole leaving station with an empty bag may exit; a staying one may not
  pub sole : allowed_of (leaving 5 None None [] ∷ []) ≡ timeout_at 5 ∷ exit_of 5 ∷ []
  pub stays : allowed_of (single 5 [] ∷ []) ≡ timeout_at 5 ∷ []
  -- a station that another has as a neighbour, or as an introduction in its bag, may not; nor one with a message in its own bag
  pub neighboured : allowed_of (staying 3 None (Some 5) [] ∷ leaving 5 None None [] ∷ []) ≡ timeout_at 3 ∷ timeout_at 5 ∷ []
  pub introduced : allowed_of (single 3 (introduction 5 ∷ []) ∷ leaving 5 None None [] ∷ []) ≡ timeout_at 3 ∷ deliver_to 3 (introduction 5) ∷ timeout_at 5 ∷ []
  pub holding : allowed_of (leaving 5 None None (removal Left ∷ []) ∷ []) ≡ timeout_at 5 ∷ deliver_to 5 (removal Left) ∷ []
  -- deliveries by kind and number, copies once
  pub copies :
      allowed_of (single 3 (introduction 3 ∷ introduction 3 ∷ introduction 5 ∷ removal Left ∷ removal Left ∷ removal Right ∷ []) ∷ single 5 [] ∷ [])
      ≡ timeout_at 3 ∷ deliver_to 3 (introduction 3) ∷ deliver_to 3 (introduction 5) ∷ deliver_to 3 (removal Left) ∷ deliver_to 3 (removal Right) ∷ timeout_at 5 ∷ []
  -- a bag that must receive has room at 31 and none at 32
  pub room : allowed_of (staying 5 None (Some 9) [] ∷ single 9 (many 31 (introduction 9)) ∷ []) ≡ timeout_at 5 ∷ timeout_at 9 ∷ deliver_to 9 (introduction 9) ∷ []
  pub full : allowed_of (staying 5 None (Some 9) [] ∷ single 9 (many 32 (introduction 9)) ∷ []) ≡ timeout_at 9 ∷ deliver_to 9 (introduction 9) ∷ []
