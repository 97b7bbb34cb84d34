-- What is proved of runs over bytes (the proofs are in proofs/, under the same names in snake case). The contract of `run` says that the
-- code's answer and room are `outcome`; these claims are about that very definition.
use Rattle.std.specs.Prelude.{ℕ, ◌≡◌, ◌↔◌, List, length}
use Rattle.line.specs.Node.{Present, Written}
use Rattle.line.specs.Links.{Joined}
use Rattle.line.specs.Alike.{Alike}
use Rattle.table.specs.Blocks.{nodes}
use Rattle.table.specs.Fault.{fault_of}
use Rattle.engine.specs.Ran.{fault_before, outcome, table_in}
use Rattle.finishing.specs.Ended.{Outcome, run_of}

-- the same answer with its reason, the same counts and written bytes
pub record SameOutcome (x y : Outcome) : Type 0 where
  pub answer : x.answer ≡ y.answer
  pub done : x.done ≡ y.done
  pub stations : x.stations ≡ y.stations
  pub written : table_in x ≡ table_in y

-- 1. Two receivers agree: accepted tables that are alike, whatever the order of their blocks and messages, give for every step list and
-- equal room lengths the same answer, with the reason that it carries, and the same counts and written bytes. "The agreement of the two
-- receivers now also takes equal site codes as a premise and shares them" (document 02, T-05): `Alike` asks for the same marks, the site code
-- among them, and the bytes that are equal contain it.
abbrev pub ReceiversAgree : Type 0
ReceiversAgree =
    (t u steps room room' : List ℕ) → fault_of t ≡ 0 → fault_of u ≡ 0 → Alike (nodes t) (nodes u) → length room ≡ length room'
    → SameOutcome (outcome t steps room) (outcome u steps room')

-- 2. The line is never cut: of a run that writes a table, also one that stopped at a refused step, stations with blocks in the table
-- written had blocks in the table read, and two of them are joined in the one exactly when they were joined in the other.
abbrev pub PresentBefore : Type 0
PresentBefore =
    (t steps room : List ℕ) → fault_before t steps room ≡ 0 → (n : ℕ) → Present (nodes (table_in (outcome t steps room))) n → Present (nodes t) n

abbrev pub JoinedKept : Type 0
JoinedKept =
    (t steps room : List ℕ) → fault_before t steps room ≡ 0
    → (a b : ℕ) → Present (nodes (table_in (outcome t steps room))) a → Present (nodes (table_in (outcome t steps room))) b
    → Joined (nodes t) a b ↔ Joined (nodes (table_in (outcome t steps room))) a b

-- 3. What a run writes is accepted when it is read again; read back it is the line that the steps left, in written order.
abbrev pub WrittenIsAccepted : Type 0
WrittenIsAccepted = (t steps room : List ℕ) → fault_before t steps room ≡ 0 → fault_of (table_in (outcome t steps room)) ≡ 0

abbrev pub WrittenReadsBack : Type 0
WrittenReadsBack =
    (t steps room : List ℕ) → fault_before t steps room ≡ 0
    → (nodes (table_in (outcome t steps room)) ≡ (run_of t steps).line) × Written (run_of t steps).line
