-- The steps that may happen next (document 02, T-01): "every step that a run would accept as its first step from a given table".
use Rattle.std.specs.Prelude.{ℕ, Bool, List, [], ◌∷◌, ◌++◌, map, length}
use Rattle.lists.specs.Lists.{keep}
use Rattle.line.specs.declared.Action.{Action}
use Rattle.line.specs.declared.Action.TheVariants.{Timeout, Deliver, Exit}
use Rattle.line.specs.declared.Message.{Message}
use Rattle.line.specs.declared.Side.TheVariants.{Left, Right}
use Rattle.line.specs.declared.Step.{Step}
use Rattle.line.specs.Answer.{is_done}
use Rattle.line.specs.Message.{introduction, removal}
use Rattle.line.specs.Node.{Node, Line, number, numbers}
use Rattle.line.specs.Step.{step}
use Rattle.steps.specs.Steps.{list_bytes}
use Rattle.table.specs.Blocks.{line_of}
use Rattle.table.specs.Fault.{fault_of}
use Rattle.filling.specs.Filled.{Filling, filled_with, unless_fault}

-- The candidates, the same for each station: "the timeout, then deliveries by kind and number, then the exit". A bag of an accepted table
-- holds introductions of the table's own stations and removals, nothing else.
unfoldable pub messages_of : List ℕ → List Message
messages_of numbers = map introduction numbers ++ (removal Left ∷ removal Right ∷ [])

unfoldable pub actions_of : List ℕ → List Action
actions_of numbers = Timeout ∷ map Deliver (messages_of numbers) ++ (Exit ∷ [])

abbrev pub step_by : Node → Action → Step
step_by s a = record { station = number s; action = a }

-- "by rising station number", as the line of a table stands: each station with each action
unfoldable pub each_with : List Action → Line → List Step
each_with actions [] = []
each_with actions (s ∷ line) = map (step_by s) actions ++ each_with actions line

abbrev pub candidates : Line → List Step
candidates line = each_with (actions_of (numbers line)) line

-- the machine itself says which of them are accepted
abbrev pub is_allowed : Line → Step → Bool
is_allowed line x = is_done (step line x)

abbrev pub allowed_of : Line → List Step
allowed_of line = keep (is_allowed line) (candidates line)

unfoldable pub allowed_steps : List ℕ → List Step
allowed_steps table = allowed_of (line_of table)

-- "It refuses with 1 to 7, and with 9 exactly when the room is shorter than the list"; the amount filled counts steps
unfoldable pub allowed_in : List ℕ → List ℕ → Filling ℕ
allowed_in table room = unless_fault (fault_of table) (filled_with (length (allowed_steps table)) (list_bytes (allowed_steps table)) room) room
