-- What is proved of the mentions (the proofs are in proofs/, under the same names in snake case).
use Rattle.std.specs.Prelude.{ℕ, ◌≡◌, ◌↔◌, [], None}
use Rattle.line.specs.Nidec.{Nidec}
use Rattle.line.specs.Node.{Node, Line, number}
use Rattle.line.specs.Leave.{holder_of}
use Rattle.mentions.specs.Mentions.{mentions}

-- 1. A station is free exactly when its bag is empty and no other station mentions it.
abbrev pub FreeExactly : Type 0
FreeExactly = (line : Line) (s : Node) → Nidec line s ↔ ((s.bag ≡ []) × (mentions (number s) line ≡ 0))

-- 2. Nobody mentions p exactly when there is no smallest station that does.
abbrev pub UnmentionedExactly : Type 0
UnmentionedExactly = (line : Line) (p : ℕ) → (mentions p line ≡ 0) ↔ (holder_of p line ≡ None)
