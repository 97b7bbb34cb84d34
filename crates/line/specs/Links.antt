-- Links and joined stations, terms of document 01 ("The whole run").
use Rattle.std.specs.Prelude.{ℕ, ◌≡◌, Some}
use mathlib.Core.List.{Memᴰ as Member}
use Rattle.line.specs.declared.Side.{Side}
use Rattle.line.specs.Message.{introduction}
use Rattle.line.specs.Node.{Node, Line, number, neighbour}

-- "A station is linked to its neighbours and to each station introduced in its bag; remove-left and remove-right link nothing."
pub data Linked (s : Node) (q : ℕ) : Type 0 where
  by_neighbour : (d : Side) → neighbour d s.station ≡ Some q → Linked s q
  by_introduction : Member (introduction q) s.bag → Linked s q

-- the link of a line from station p to station q
pub data Link (line : Line) (p q : ℕ) : Type 0 where
  link : (s : Node) → Member s line → number s ≡ p → Linked s q → Link line p q

-- "they are one and the same or a chain of its links, each followed either way, leads from one to the other"
pub data Chain (R : ℕ → ℕ → Type 0) : ℕ → ℕ → Type 0 where
  same_station : {a : ℕ} → Chain R a a
  along : {a b c : ℕ} → R a b → Chain R b c → Chain R a c
  against : {a b c : ℕ} → R b a → Chain R b c → Chain R a c

-- said of two stations that are present in the line
abbrev pub Joined : Line → ℕ → ℕ → Type 0
Joined line a b = Chain (Link line) a b
