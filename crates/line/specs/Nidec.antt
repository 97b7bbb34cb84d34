-- NIDEC (document 01, "What a step does at station p"; source 000, section 2, "Oracles").
use Rattle.std.specs.Prelude.{ℕ, ◌≡◌, ◌≢◌, Bool, true, false, ◌||◌, List, [], ◌∷◌, eqb, Some, None}
use Rattle.line.specs.Types.{Neighbour}
use mathlib.Core.List.{Memᴰ as Member}
use Rattle.line.specs.declared.Message.{Message}
use Rattle.line.specs.Message.{introduction, holds}
use Rattle.line.specs.Node.{Node, Line, number}
use Rattle.line.specs.Links.{Linked}

-- "NIDEC holds for p when p's bag is empty and no other station has p as a neighbour or as an introduction in its bag."
-- The leaving mark of p plays no part.
pub record Nidec (line : Line) (p : Node) : Type 0 where
  pub empty : p.bag ≡ []
  pub unnamed : (s : Node) → Member s line → number s ≢ number p → ¬ Linked s (number p)

-- The tests that `leave_of` of Leave.antt asks.
unfoldable pub is_neighbour : ℕ → Neighbour → Bool
is_neighbour n None = false
is_neighbour n (Some m) = eqb n m

unfoldable pub names : ℕ → Node → Bool
names n s = is_neighbour n s.station.left || (is_neighbour n s.station.right || holds (introduction n) s.bag)

unfoldable pub is_empty : List Message → Bool
is_empty [] = true
is_empty (m ∷ b) = false
