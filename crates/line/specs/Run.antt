-- A whole run (document 01, "The whole run").
use Rattle.std.specs.Prelude.{ℕ, suc, ◌≡◌, List, [], ◌∷◌, length, take, drop, Ok, Err}
use Rattle.line.specs.Types.{Ending, Reading}
use Rattle.line.specs.Answer.{Answer, refused, done}
use Rattle.line.specs.Node.{Line}
use Rattle.line.specs.Step.{step}

-- a step as it was read: a malformed one is refused whatever the line
unfoldable pub try : Line → Reading → Answer Line
try line (Ok x) = step line x
try line (Err r) = refused r

-- how the run ended, the steps before the first refused one, and the line that they left
pub record Run : Type 0 where
  pub ending : Ending
  pub steps : ℕ
  pub line : Line

-- "A run starts from the table read; each step acts on what the steps before it left, and a refused one ends the run."
unfoldable pub run : Line → List Reading → Run
run line [] = record { ending = Ok tt; steps = 0; line = line }
run line (x ∷ l) = elim (try line x) [
  | refused r ↦ record { ending = Err r; steps = 0; line = line }
  | done after ↦ let r = run after l in record { ending = r.ending; steps = suc r.steps; line = r.line }
]

-- The same as a statement, tied to `run` by `RunPinned` of Claims.antt.
-- the readings are done one after another, and lead from one line to another
abbrev pub Leads : List Reading → Line → Line → Type 0
Leads [] before after = before ≡ after
Leads (x ∷ l) before after = (between : Line) × (try before x ≡ done between) × Leads l between after

-- why nothing is done after the first n readings of a list, which left a line: there are no more, or the next one is refused
abbrev pub EndsAt : List Reading → ℕ → Line → Ending → Type 0
EndsAt l n line (Ok _) = n ≡ length l
EndsAt l n line (Err r) = (x : Reading) × (rest : List Reading) × (drop n l ≡ x ∷ rest) × (try line x ≡ refused r)

pub record IsRun (line : Line) (l : List Reading) (r : Run) : Type 0 where
  pub leads : Leads (take r.steps l) line r.line
  pub ends : EndsAt l r.steps r.line r.ending
