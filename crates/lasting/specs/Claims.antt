-- What is proved of lines in line (document 02, T-04; the proofs are in proofs/, under the same names in snake case).
use Rattle.std.specs.Prelude.{ℕ, ◌≡◌, List, map}
use mathlib.Core.List.{Memᴰ as Member}
use Rattle.line.specs.declared.Station as declared
use Rattle.line.specs.Answer.{done}
use Rattle.line.specs.Message.{introduction}
use Rattle.line.specs.Node.{Node, Line}
use Rattle.line.specs.Step.{step}
use Rattle.line.specs.Accepted.{Accepted}
use Rattle.line.specs.InLine.{InLine}
use Rattle.line.specs.Situations.{deliver_to}
use Rattle.lasting.specs.Examples.{InLineExample, ShowsInLine, in_line_examples}

-- 1. The worked examples.
abbrev pub InLineExamplesShow : Type 0
InLineExamplesShow = (x : InLineExample) → Member x in_line_examples → ShowsInLine x

-- what the stations are, without their bags: number, left, right and marks of each
abbrev pub stations : Line → List declared.Station
stations line = map (λ (s : Node). s.station) line

-- 2. "Introductions may still wait, since none of them can change a neighbour in such a table": once an introduction has been delivered, every
-- station is as it was, with its neighbours, and the line is in line again. A refused step changes nothing.
abbrev pub IntroductionsKeepLine : Type 0
IntroductionsKeepLine =
    (line after : Line) (p q : ℕ) → Accepted line → InLine line → step line (deliver_to p (introduction q)) ≡ done after
    → (stations after ≡ stations line) × InLine after
