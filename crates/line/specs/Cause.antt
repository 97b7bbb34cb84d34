-- Why a step is refused, as a statement for each number (document 01, "The numbers a crew may see", 10 to 15; document 02, T-02), tied
-- to `step` by `RefusedExactly` of Claims.antt.
use Rattle.std.specs.Prelude.{ℕ, ◌≡◌, true, false, length}
use mathlib.Core.List.{Memᴰ as Member}
use Rattle.line.specs.declared.Message.{Message}
use Rattle.line.specs.declared.Action.TheVariants.{Deliver, Exit}
use Rattle.line.specs.declared.Step.{Step}
use Rattle.line.specs.declared.Refusal.{Refusal}
use Rattle.line.specs.declared.Refusal.TheVariants.{Malformed, Absent, NotInBag, Staying, Held, Full}
use Rattle.line.specs.Answer.{done}
use Rattle.line.specs.Message.{capacity}
use Rattle.line.specs.Node.{Node, Line, number, leaving, Present}
use Rattle.line.specs.Leave.{Why, leave_of}
use Rattle.line.specs.Act.{Send, Effect, act}

-- station n has a block, and P holds of it
pub record BlockWith (line : Line) (n : ℕ) (P : Node → Type 0) : Type 0 where
  pub block : Node
  pub member : Member block line
  pub named : number block ≡ n
  pub holds : P block

-- 10 is of a record that is no step; 11 "station not present"; 12 "message not in that bag"; 13 "exit by a staying station"; 14 "exit,
-- leaving, NIDEC false", with its reason; 15 "a bag that must receive holds 32", of a step that is refused for nothing else
abbrev pub Cause : Line → Step → Refusal → Type 0
Cause line x Malformed = ⊥
Cause line x Absent = ¬ Present line x.station
Cause line x NotInBag = BlockWith line x.station (λ s. (m : Message) × (x.action ≡ Deliver m) × ¬ Member m s.bag)
Cause line x Staying = BlockWith line x.station (λ s. (x.action ≡ Exit) × (leaving s ≡ false))
Cause line x (Held why) = BlockWith line x.station (λ s. (x.action ≡ Exit) × (leaving s ≡ true) × Why line s why)
Cause line x Full =
    BlockWith line x.station
    (λ s. (e : Effect) × (act (leave_of line s) s x.action ≡ done e)
    × (m : Send) × Member m e.sends × BlockWith line m.to (λ t. length t.bag ≡ capacity))
