-- What is proved of the question (the proof is in proofs/Meanings.antt, under the same name in snake case).
use Rattle.std.specs.Prelude.{ℕ, ◌≡◌, ◌↔◌, List, Ok}
use Rattle.line.specs.Types.{Leave}
use mathlib.Core.List.{Memᴰ as Member}
use Rattle.line.specs.Node.{Node, number}
use Rattle.line.specs.Leave.{LeaveIs}
use Rattle.table.specs.Blocks.{nodes}
use Rattle.table.specs.Fault.{fault_of}
use Rattle.leave.specs.Leave.{may_leave}

-- Of the blocks in stored order: the question answers yes exactly when NIDEC holds; "own bag not empty" exactly when the bag is not empty;
-- and "held by q" exactly when the bag is empty, q has a block, is another station, has the asked one as a neighbour or as an introduction in
-- its bag, and no smaller one does.
abbrev pub MayLeaveMeans : Type 0
MayLeaveMeans =
    (t : List ℕ) (s : Node) (l : Leave) → fault_of t ≡ 0 → Member s (nodes t) → (may_leave t (number s) ≡ Ok l) ↔ LeaveIs (nodes t) s l
