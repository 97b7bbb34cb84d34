-- What is proved of the delivery in the order of lemma 3's proof (the proofs are in proofs/, under the same names in snake case). None of it has
-- a premise, so that it holds of every accepted table, and of every other.
use Rattle.std.specs.Prelude.{ℕ, ◌≡◌, ◌↔◌, true, Some}
use mathlib.Core.List.{Memᴰ as Member}
use Rattle.line.specs.declared.Station as declared
use Rattle.line.specs.declared.Side.{Side}
use Rattle.line.specs.declared.Side.TheVariants.{Left, Right}
use Rattle.line.specs.declared.Action.TheVariants.{Deliver}
use Rattle.line.specs.Message.{introduction}
use Rattle.line.specs.Node.{Line, neighbour, with_neighbour}
use Rattle.line.specs.Act.{Reaction, unchanged}
use Rattle.line.specs.Act as act
use Rattle.line.specs.Step.{step}
use Rattle.line.specs.Report.{Id, process, Intro, less, mail, variable}
use Rattle.delivery.specs.Lemma3.{introduced, delivery}
use Rattle.delivery.specs.Examples.{Example, Shows, examples}

-- 1. Of every station, whatever its neighbours, and every number: the cases in the order of lemma 3's proof are the step rules of document 01.
abbrev pub OrderAgrees : Type 0
OrderAgrees = (p : declared.Station) (id : ℕ) → introduced p id ≡ act.introduced p id

-- 2. So of every line, accepted or not, and every introduction: the step that delivers it, refusals included.
abbrev pub StepAgrees : Type 0
StepAgrees = (line : Line) (n id : ℕ) → step line (record { station = n; action = Deliver (introduction id) }) ≡ delivery line n id

-- 3. Each sentence of the text by itself, with its whole condition; i < j of the right is j < i on the left. Together they speak of every
-- station and number, and never say two things of one: what is done is r exactly when each sentence that speaks of it says r.
abbrev pub Below : Side → Id → Id → Type 0
Below Right i j = less i j ≡ true
Below Left i j = less j i ≡ true

-- right, or left, before the action
abbrev pub held : Side → declared.Station → Id
held d p = variable d (neighbour d p)

pub record Sentences (p : declared.Station) (id : ℕ) (r : Reaction) : Type 0 where
  -- "If id = p"
  pub itself : id ≡ p.number → r ≡ unchanged p
  -- "If p < id < right"
  pub below : (d : Side) → Below d (process p.number) (process id) → Below d (process id) (held d p)
      → r ≡ record { station = with_neighbour d (Some id) p; sends = mail (Intro (held d p)) (process id) }
  -- "If id = right"
  pub equal : (d : Side) → Below d (process p.number) (process id) → process id ≡ held d p → r ≡ unchanged p
  -- "If id > right"
  pub above : (d : Side) → Below d (process p.number) (process id) → Below d (held d p) (process id)
      → r ≡ record { station = p; sends = mail (Intro (process id)) (held d p) }

abbrev pub SentencesPin : Type 0
SentencesPin = (p : declared.Station) (id : ℕ) (r : Reaction) → (r ≡ introduced p id) ↔ Sentences p id r

-- 4. Worked: each case on each side, and where there is no neighbour.
abbrev pub ExamplesShow : Type 0
ExamplesShow = (x : Example) → Member x examples → Shows x
