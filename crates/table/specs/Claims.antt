-- What is proved of tables (the proofs are in proofs/, under the same names in snake case).
use Rattle.std.specs.Prelude.{ℕ, ◌≡◌, ◌↔◌, List, [], ◌∷◌, length}
use Rattle.refusals.specs.Refusals.{Refuses}
use Rattle.line.specs.Node.{Line, Written}
use Rattle.line.specs.Accepted.{Accepted}
use Rattle.line.specs.Alike.{Alike}
use Rattle.octets.specs.Bytes.{AreBytes}
use Rattle.table.specs.Blocks.{blocks, nodes, line_of, bytes_of}
use Rattle.table.specs.Fault.{fault_of}
use Rattle.table.specs.Refusals.{table_refusals}

-- A table is refused with a number exactly when its cause applies and none before it does, and accepted exactly when none applies.
abbrev pub FaultExactly : Type 0
FaultExactly = (t : List ℕ) (n : ℕ) → (fault_of t ≡ n) ↔ Refuses (table_refusals t) n

-- The stations of an accepted table are an accepted line, whatever their order; in written order they are the line of the table.
abbrev pub TableAccepted : Type 0
TableAccepted = (t : List ℕ) → fault_of t ≡ 0 → Accepted (nodes t) × Accepted (line_of t) × Written (line_of t)

-- Alike tables have one line.
abbrev pub AlikeTables : Type 0
AlikeTables = (t u : List ℕ) → fault_of t ≡ 0 → fault_of u ≡ 0 → Alike (nodes t) (nodes u) → line_of t ≡ line_of u

-- the same blocks in another order
pub data Reordered : List (List ℕ) → List (List ℕ) → Type 0 where
  empty : Reordered [] []
  keep : {b : List ℕ} {l r : List (List ℕ)} → Reordered l r → Reordered (b ∷ l) (b ∷ r)
  swap : {b c : List ℕ} {l : List (List ℕ)} → Reordered (b ∷ c ∷ l) (c ∷ b ∷ l)
  through : {l m r : List (List ℕ)} → Reordered l m → Reordered m r → Reordered l r

-- "block order plays no part": tables of one length whose blocks are the same in another order have the same fault.
abbrev pub BlockOrderFree : Type 0
BlockOrderFree = (t u : List ℕ) → length t ≡ length u → Reordered (blocks t) (blocks u) → fault_of t ≡ fault_of u

-- Closing the circle: the table of an accepted line in written order is accepted, holds these stations in this order, and so is read back as this line.
abbrev pub WrittenAccepted : Type 0
WrittenAccepted = (line : Line) → Accepted line → Written line → (fault_of (bytes_of line) ≡ 0) × (nodes (bytes_of line) ≡ line) × (line_of (bytes_of line) ≡ line)

-- A table whose blocks and messages are in written order is written as it was.
abbrev pub RewrittenSame : Type 0
RewrittenSame = (t : List ℕ) → AreBytes t → fault_of t ≡ 0 → Written (nodes t) → bytes_of (line_of t) ≡ t
