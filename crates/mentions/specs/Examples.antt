-- Worked lines of mentions (document 02, T-03), each computed from its definition.
use Rattle.std.specs.Prelude.{ℕ, ◌≡◌, true, List, [], ◌∷◌, map, Option, Some, None}
use Rattle.line.specs.declared.Side.TheVariants.{Left, Right}
use Rattle.line.specs.Message.{introduction, removal}
use Rattle.line.specs.Node.{Node, Line, number}
use Rattle.line.specs.Accepted.{accepted}
use Rattle.line.specs.Leave.{holder_of}
use Rattle.line.specs.Situations.{staying, leaving}
use Rattle.mentions.specs.Mentions.{mentions}

-- of a line in any stored order: how often the others mention each of its stations, and the smallest that does, in that order
abbrev pub Shows : Line → List ℕ → List (Option ℕ) → Type 0
Shows line counts holders =
    (accepted line ≡ true) × (map (λ (s : Node). mentions (number s) line) line ≡ counts) × (map (λ (s : Node). holder_of (number s) line) line ≡ holders)

pub record MentionsShow : Type 0 where
  -- 5 is mentioned by 9 as its left and by two copies of an introduction, and by 3 as its right; 3 by one introduction
  pub copied : Shows
      (staying 9 (Some 5) None (introduction 5 ∷ introduction 3 ∷ introduction 5 ∷ []) ∷ leaving 5 None None [] ∷ staying 3 None (Some 5) [] ∷ [])
      (0 ∷ 4 ∷ 1 ∷ [])
      (None ∷ Some 3 ∷ Some 9 ∷ [])
  -- a station's own bag does not mention it
  pub own : Shows (leaving 5 None None (introduction 5 ∷ introduction 5 ∷ []) ∷ []) (0 ∷ []) (None ∷ [])
  -- removals mention nobody
  pub removals : Shows
      (staying 3 None (Some 5) (removal Left ∷ removal Right ∷ []) ∷ staying 5 None None (removal Left ∷ []) ∷ [])
      (0 ∷ 1 ∷ [])
      (None ∷ Some 3 ∷ [])
