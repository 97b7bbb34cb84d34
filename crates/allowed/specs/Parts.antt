-- What the parts of the list's code ask of one another and leave behind; the list itself is `allowed_in` (crate next_steps).
use Rattle.std.specs.Prelude.{ℕ, ◌+◌, ◌<◌, ◌≡◌, Bool, true, false, cond, List, map, eqb, leb, length, get_or}
use Rattle.line.specs.Types.{Leave}
use mathlib.Core.List.{Memᴰ as Member}
use Rattle.lists.specs.Lists.{keep}
use Rattle.line.specs.declared.Action.{Action}
use Rattle.line.specs.declared.Action.TheVariants.{Timeout, Deliver, Exit}
use Rattle.line.specs.declared.Content.TheVariants.{Introduction, RemoveLeft, RemoveRight}
use Rattle.line.specs.declared.Message.{Message}
use Rattle.line.specs.declared.Step.{Step}
use Rattle.line.specs.Message.{kind}
use Rattle.line.specs.Node.{Node, Line, numbers, nobody}
use Rattle.line.specs.Leave.{leave_of}
use Rattle.steps.specs.Steps.{list_bytes}
use Rattle.table.specs.Blocks.{line_of}
use Rattle.table.specs.Fault.{fault_of}
use Rattle.table.specs.Index.{index_of}
use Rattle.arrays.specs.Reading.{counts_of}
use Rattle.rules.specs.Decided.{is_found}
use Rattle.moves.specs.Holders.{is_exit}
use Rattle.next_steps.specs.Allowed.{actions_of, step_by, is_allowed}

-- the station at place i of the line
abbrev pub node_at : List ℕ → ℕ → Node
node_at t i = get_or (line_of t) i nobody

-- i is a place in the index of an accepted table, whose message counts are read
pub record Standing (t index counts : List ℕ) (i : ℕ) : Type 0 where
  pub clean : fault_of t ≡ 0
  pub listed : index ≡ index_of t
  pub counted : counts ≡ counts_of t
  pub within : i < length index

-- what a step of that station is asked with: whether it may leave, of an exit, and whether its bag holds the message of a delivery
pub record Asked (t index counts : List ℕ) (i : ℕ) (l : Leave) (found : Bool) (a : Action) : Type 0 where
  pub standing : Standing t index counts i
  pub leave_is : is_exit a ≡ true → l ≡ leave_of (line_of t) (node_at t i)
  pub found_is : found ≡ is_found a (node_at t i).bag

-- every number has 32 bits
abbrev pub Small : List ℕ → Type 0
Small l = (q : ℕ) → Member q l → q < 4294967296

abbrev pub of_kind : ℕ → Message → Bool
of_kind k m = eqb k (kind m.content)

-- action k of n + 4, where q is introduction k - 1, and whether it finds its message
abbrev pub action_with : ℕ → ℕ → ℕ → Action
action_with q n k =
    cond (eqb k 0) Timeout
    (cond (leb k n) (Deliver (record { content = Introduction q }))
    (cond (eqb k (n + 1)) (Deliver (record { content = RemoveLeft }))
    (cond (eqb k (n + 2)) (Deliver (record { content = RemoveRight })) Exit)))

abbrev pub found_with : ℕ → ℕ → Bool → Bool → Bool
found_with n k left right = cond (eqb k 0) false (cond (leb k n) true (cond (eqb k (n + 1)) left (cond (eqb k (n + 2)) right false)))

-- the records of those steps of a list that are allowed
unfoldable pub offered : Line → List Step → List ℕ
offered line l = list_bytes (keep (is_allowed line) l)

-- those of the station at place i
abbrev pub offered_by : List ℕ → ℕ → List ℕ
offered_by t i = offered (line_of t) (map (step_by (node_at t i)) (actions_of (numbers (line_of t))))
