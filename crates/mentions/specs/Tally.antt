-- The arrays of the count (document 02, T-03): for each station of an index how often it is mentioned, and the smallest station that does.
use Rattle.std.specs.Prelude.{ℕ, ◌+◌, ◌≤◌, ◌≡◌, Bool, cond, not, ◌&&◌, List, map, eqb, ltb, get_or, set, Option, Some, None}
use Rattle.line.specs.Types.{Neighbour}
use Rattle.lists.specs.Lists.{any, count}
use Rattle.line.specs.declared.Message.{Message}
use Rattle.line.specs.Message.{introduction, same, capacity}
use Rattle.line.specs.Nidec.{is_neighbour}
use Rattle.line.specs.Node.{Node, Line, number}
use Rattle.line.specs.Leave.{is_holder, smaller, holder_of}
use Rattle.mentions.specs.Mentions.{once, mentions_by, mentions}

-- the smallest station as a number of 32 bits, or the largest of these numbers, above every station number, where there is none
abbrev pub lowest : Option ℕ → ℕ
lowest None = 4294967295
lowest (Some q) = q

-- the smaller of two numbers
abbrev pub lesser : ℕ → ℕ → ℕ
lesser a b = cond (ltb a b) a b

-- of the station numbers n, one after another: how often each is mentioned, and the smallest station that does
pub record Tally (n counts smallest : List ℕ) (mentioned : ℕ → ℕ) (holder : ℕ → Option ℕ) : Type 0 where
  pub counted : counts ≡ map mentioned n
  pub least : smallest ≡ map (λ (m : ℕ). lowest (holder m)) n

-- the same, of the stations of a line
abbrev pub TallyOf : List ℕ → List ℕ → List ℕ → Line → Type 0
TallyOf n counts smallest line = Tally n counts smallest (λ (m : ℕ). mentions m line) (λ (m : ℕ). holder_of m line)

-- one mention more at place i, by station p
abbrev pub raised : ℕ → List ℕ → List ℕ
raised i counts = set counts i (get_or counts i 0 + 1)

abbrev pub lowered : ℕ → ℕ → List ℕ → List ℕ
lowered i p smallest = set smallest i (lesser p (get_or smallest i 0))

-- no count is above k
pub record Below (k : ℕ) (counts : List ℕ) : Type 0 where
  pub at : (i : ℕ) → get_or counts i 0 ≤ k

-- m is the station q that p names, and not p itself
abbrev pub is_other : ℕ → ℕ → ℕ → Bool
is_other p q m = not (eqb p m) && eqb m q

-- p, another station than m, has m as this neighbour; has this introduction of m
abbrev pub is_beside : ℕ → Neighbour → ℕ → Bool
is_beside p neighbour m = not (eqb p m) && is_neighbour m neighbour

abbrev pub is_introduced : ℕ → Message → ℕ → Bool
is_introduced p message m = not (eqb p m) && same (introduction m) message

-- what station p adds to a tally: each m is mentioned so often more, p mentions it or not, and no count grows by more than k
pub record Adds (p k : ℕ) (more : ℕ → ℕ) (test : ℕ → Bool) (n counts smallest counts' smallest' : List ℕ) : Type 0 where
  pub tallies : (f : ℕ → ℕ) (o : ℕ → Option ℕ) → Tally n counts smallest f o
      → Tally n counts' smallest' (λ (m : ℕ). more m + f m) (λ (m : ℕ). smaller (test m) p (o m))
  pub grows : (j : ℕ) → Below j counts → Below (j + k) counts'

-- with one mention, of the station that passes the test, where one does
abbrev pub AddsOne : ℕ → (ℕ → Bool) → List ℕ → List ℕ → List ℕ → List ℕ → List ℕ → Type 0
AddsOne p test = Adds p 1 (λ (m : ℕ). once (test m)) test

-- with its messages
abbrev pub AddsMessages : ℕ → List Message → List ℕ → List ℕ → List ℕ → List ℕ → List ℕ → Type 0
AddsMessages p bag =
    Adds p capacity (λ (m : ℕ). count (λ (x : Message). is_introduced p x m) bag) (λ (m : ℕ). any (λ (x : Message). is_introduced p x m) bag)

-- with its left, its right and its messages
abbrev pub AddsNode : Node → List ℕ → List ℕ → List ℕ → List ℕ → List ℕ → Type 0
AddsNode s = Adds (number s) 34 (λ (m : ℕ). mentions_by m s) (λ (m : ℕ). is_holder m s)
