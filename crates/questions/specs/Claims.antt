-- What is proved of the question (the proof is in proofs/Meanings.antt, under the same name in snake case).
use Rattle.std.specs.Prelude.{ℕ, ◌≡◌, ◌↔◌, List, true, Ok}
use Rattle.line.specs.InLine.{InLine}
use Rattle.table.specs.Blocks.{nodes}
use Rattle.table.specs.Fault.{fault_of}
use Rattle.questions.specs.Told.{is_in_line}

-- The question answers yes exactly when the statement of document 02, T-04, holds of the blocks in stored order.
abbrev pub InLineMeans : Type 0
InLineMeans = (t : List ℕ) → fault_of t ≡ 0 → (is_in_line t ≡ Ok true) ↔ InLine (nodes t)
