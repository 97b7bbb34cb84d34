-- A step on the whole line (document 01, "What a step does at station p" and "The numbers a crew may see", 11 to 15).
use Rattle.std.specs.Prelude.{ℕ, Bool, cond, not, ◌||◌, List, [], ◌∷◌, map, eqb, ltb, length, Option, Some, None}
use Rattle.line.specs.declared.Message.{Message}
use Rattle.line.specs.declared.Step.{Step}
use Rattle.line.specs.declared.Refusal.TheVariants.{Absent, Full}
use Rattle.lists.specs.Lists.{all}
use Rattle.line.specs.Answer.{Answer, refused, done, ◌>>=◌, require}
use Rattle.line.specs.Message.{put, capacity}
use Rattle.line.specs.Node.{Node, Line, number}
use Rattle.line.specs.Leave.{leave_of}
use Rattle.line.specs.Act.{Send, Effect, act}

-- the station n of the line
unfoldable pub find : ℕ → Line → Answer Node
find n [] = refused Absent
find n (s ∷ line) = cond (eqb (number s) n) (done s) (find n line)

-- f applied to station n alone
unfoldable pub change : ℕ → (Node → Node) → Node → Node
change n f s = cond (eqb (number s) n) (f s) s

unfoldable pub without : ℕ → Line → Line
without n [] = []
without n (s ∷ line) = cond (eqb (number s) n) (without n line) (s ∷ without n line)

-- station n as it is after the step, or its block gone
unfoldable pub replace : ℕ → Option Node → Line → Line
replace n None line = without n line
replace n (Some s) line = map (change n (λ (t : Node). s)) line

unfoldable pub with_message : Message → Node → Node
with_message m s = record { station = s.station; bag = put m s.bag }

unfoldable pub send_all : List Send → Line → Line
send_all [] line = line
send_all (m ∷ l) line = send_all l (map (change m.to (with_message m.message)) line)

-- there is room for what is sent: the bag of the station that it goes to does not hold 32
unfoldable pub has_room : Line → Send → Bool
has_room line m = all (λ (s : Node). not (eqb (number s) m.to) || ltb (length s.bag) capacity) line

-- every receiver has room, or the step is refused; then all of the effect happens
unfoldable pub commit : Line → ℕ → Effect → Answer Line
commit line n e = require (all (has_room line) e.sends) Full (done (send_all e.sends (replace n e.after line)))

-- The refusals in the order of their numbers: 11, then 12, 13 and 14, then 15.
unfoldable pub step : Line → Step → Answer Line
step line x = do
  s ← find x.station line
  e ← act (leave_of line s) s x.action
  commit line (number s) e
