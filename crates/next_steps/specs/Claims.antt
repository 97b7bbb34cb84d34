-- What is proved of the list (the proofs are in proofs/, under the same names in snake case). The contract of `allowed` says that the code's
-- answer and room are `allowed_in`; these claims are about that very definition.
use Rattle.std.specs.Prelude.{ℕ, ◌*◌, ◌≤◌, ◌<◌, ◌≡◌, true, ◌↔◌, ◌⊎◌, List, length, take, drop}
use Rattle.lists.specs.Numbers.{Pairwise}
use Rattle.line.specs.declared.Action.{Action}
use Rattle.line.specs.declared.Action.TheVariants.{Timeout, Deliver, Exit}
use Rattle.line.specs.declared.Step.{Step}
use Rattle.line.specs.Answer.{answer_number}
use Rattle.line.specs.Message.{precedes}
use Rattle.line.specs.Alike.{Alike}
use Rattle.octets.specs.Bytes.{AreBytes}
use Rattle.table.specs.Blocks.{nodes}
use Rattle.table.specs.Fault.{fault_of}
use Rattle.engine.specs.Ran.{outcome}
use Rattle.filling.specs.Filled.{Filling}
use Rattle.next_steps.specs.Allowed.{allowed_steps, allowed_in}

-- the 12 bytes x are a record of the list that was filled
pub record Stands (x : List ℕ) (f : Filling ℕ) : Type 0 where
  pub place : ℕ
  pub within : place < f.filled
  pub is : take 12 (drop (12 * place) f.room) ≡ x

-- 1. In the list stand exactly the steps that a run accepts as its first: of every accepted table and every 12 bytes, they stand in the list
-- exactly when the run of these 12 bytes alone answers 0, where each is lent room enough.
abbrev pub ListedExactly : Type 0
ListedExactly =
    (t x lent room : List ℕ) → (allowed_in t lent).answer ≡ 0 → AreBytes x → length x ≡ 12 → length t ≤ length room
    → Stands x (allowed_in t lent) ↔ (answer_number (outcome t x room).answer ≡ 0)

-- 2. "by rising station number, and within a station the timeout, then deliveries by kind and number, then the exit": strictly, so that
-- each step stands once.
abbrev pub EarlierAction : Action → Action → Type 0
EarlierAction Timeout Timeout = ⊥
EarlierAction Timeout (Deliver k) = Unit {0}
EarlierAction Timeout Exit = Unit {0}
EarlierAction (Deliver m) Timeout = ⊥
EarlierAction (Deliver m) (Deliver k) = precedes m k ≡ true
EarlierAction (Deliver m) Exit = Unit {0}
EarlierAction Exit a = ⊥

abbrev pub Earlier : Step → Step → Type 0
Earlier x y = (x.station < y.station) ⊎ ((x.station ≡ y.station) × EarlierAction x.action y.action)

abbrev pub ListedInOrder : Type 0
ListedInOrder = (t : List ℕ) → fault_of t ≡ 0 → Pairwise Earlier (allowed_steps t)

-- 3. "at most 2,112 steps, since an exit needs an empty bag"
abbrev pub ListedFew : Type 0
ListedFew = (t : List ℕ) → fault_of t ≡ 0 → length (allowed_steps t) ≤ 2112

-- 4. Two receivers agree: alike tables give, for equal room lengths, the same answer, amount and list.
pub record SameFilling (x y : Filling ℕ) : Type 0 where
  pub answer : x.answer ≡ y.answer
  pub filled : x.filled ≡ y.filled
  pub written : take (12 * x.filled) x.room ≡ take (12 * y.filled) y.room

abbrev pub AlikeListed : Type 0
AlikeListed =
    (t u room room' : List ℕ) → fault_of t ≡ 0 → fault_of u ≡ 0 → Alike (nodes t) (nodes u) → length room ≡ length room'
    → SameFilling (allowed_in t room) (allowed_in u room')
