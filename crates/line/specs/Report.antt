-- Figure 1 of source 000, "Algorithm SL for process p", in its own form: guards and commands over the variables of a process.
-- Where the printed layout of the figure is unclear, the step rules of document 01 decide, and the claim `ReportAgrees` ties both.
-- The figure says what a process sends, not how a channel takes it in: the channels are updated by the machine's own `send_all` and `put`,
-- and a message is received by its `remove`. So `ReportAgrees` does not pin these; the situations and examples do, with every copy
-- counted, and of the run's bytes the contract of `run`.
use Rattle.std.specs.Prelude.{ℕ, ◌≡◌, Bool, true, false, cond, not, ◌&&◌, List, [], ◌++◌, ltb, Option, Some, None}
use Rattle.line.specs.Types.{Neighbour}
use mathlib.Core.List.{Memᴰ as Member}
use Rattle.line.specs.declared.Content.{Content}
use Rattle.line.specs.declared.Content.TheVariants.{Introduction, RemoveLeft, RemoveRight}
use Rattle.line.specs.declared.Message.{Message}
use Rattle.line.specs.declared.Marks.{Marks}
use Rattle.line.specs.declared.Side.{Side}
use Rattle.line.specs.declared.Side.TheVariants.{Left, Right}
use Rattle.line.specs.declared.Action.{Action}
use Rattle.line.specs.declared.Action.TheVariants.{Timeout, Deliver, Exit}
use Rattle.line.specs.declared.Step as declared
use Rattle.line.specs.Message.{introduction, removal, remove}
use Rattle.line.specs.Node.{Node, Line, number}
use Rattle.line.specs.Nidec.{Nidec}
use Rattle.line.specs.Act.{Send}
use Rattle.line.specs.Act as act
use Rattle.line.specs.Step.{replace, send_all}

-- "left : process ids less than p, −∞ if undefined"; "right : process ids greater than p, +∞ if undefined"
pub data Id : Type 0 where
  −∞ +∞ : Id
  process : ℕ → Id

unfoldable pub less : Id → Id → Bool
less −∞ −∞ = false
less −∞ (process n) = true
less −∞ +∞ = true
less (process m) −∞ = false
less (process m) (process n) = ltb m n
less (process m) +∞ = true
less +∞ −∞ = false
less +∞ (process n) = false
less +∞ +∞ = false

unfoldable pub is_process : Id → Bool
is_process −∞ = false
is_process (process n) = true
is_process +∞ = false

-- "req(direction), requests recipient to remove neighbor; direction may be either remleft or remright"
pub data Direction : Type 0 where
  remleft remright : Direction

-- "intro(id), carries process identifier, confirms connectivity"
pub data Mail : Type 0 where
  Intro : Id → Mail
  Req : Direction → Mail

-- "If the variable contains ∞, the sending action is skipped": as receiver, and as the identifier to be carried.
unfoldable pub mail : Mail → Id → List Send
mail (Intro −∞) q = []
mail (Intro +∞) q = []
mail (Intro (process n)) −∞ = []
mail (Intro (process n)) +∞ = []
mail (Intro (process n)) (process q) = act.send q (introduction n)
mail (Req d) −∞ = []
mail (Req d) +∞ = []
mail (Req remleft) (process q) = act.send q (removal Left)
mail (Req remright) (process q) = act.send q (removal Right)

-- The constant and the variables of a process, its incoming channel C, what it has sent so far, and whether it has exited.
-- Here a channel is a bag: document 01 counts every copy.
pub record Process : Type 0 where
  pub p : ℕ
  pub marks : Marks
  pub left : Id
  pub right : Id
  pub C : List Message
  pub sent : List Send
  pub exited : Bool

-- expressions and commands
abbrev pub Expression : Type 0 → Type 0
Expression A = Process → A

abbrev pub Command : Type 0
Command = Process → Process

unfoldable pub p : Expression Id
p v = process v.p

unfoldable pub left : Expression Id
left v = v.left

unfoldable pub right : Expression Id
right v = v.right

unfoldable pub always : Id → Expression Id
always i v = i

unfoldable pub intro : Expression Id → Expression Mail
intro e v = Intro (e v)

unfoldable pub req : Direction → Expression Mail
req d v = Req d

unfoldable pub not_leaving : Expression Bool
not_leaving v = not v.marks.leaving

unfoldable pub defined : Expression Id → Expression Bool
defined e v = is_process (e v)

infix 40 ◌below◌
unfoldable pub ◌below◌ : Expression Id → Expression Id → Expression Bool
◌below◌ a b v = less (a v) (b v)

infixr 35 ◌and◌
unfoldable pub ◌and◌ : Expression Bool → Expression Bool → Expression Bool
◌and◌ a b v = a v && b v

infixr 10 ◌⨾◌
unfoldable pub ◌⨾◌ : Command → Command → Command
◌⨾◌ c k v = k (c v)

infix 20 if◌then◌
unfoldable pub if◌then◌ : Expression Bool → Command → Command
if◌then◌ t c v = cond (t v) (c v) v

-- the figure's `if .. then .. else`, whose name is the library's own
infix 20 if◌then◌otherwise◌
unfoldable pub if◌then◌otherwise◌ : Expression Bool → Command → Command → Command
if◌then◌otherwise◌ t c k v = cond (t v) (c v) (k v)

infix 30 send◌to◌
unfoldable pub send◌to◌ : Expression Mail → Expression Id → Command
send◌to◌ m q v = record { p = v.p; marks = v.marks; left = v.left; right = v.right; C = v.C; sent = v.sent ++ mail (m v) (q v); exited = v.exited }

infix 30 left:=◌
unfoldable pub left:=◌ : Expression Id → Command
left:=◌ e v = record { p = v.p; marks = v.marks; left = e v; right = v.right; C = v.C; sent = v.sent; exited = v.exited }

infix 30 right:=◌
unfoldable pub right:=◌ : Expression Id → Command
right:=◌ e v = record { p = v.p; marks = v.marks; left = v.left; right = e v; C = v.C; sent = v.sent; exited = v.exited }

unfoldable pub receive : Message → Command
receive m v = record { p = v.p; marks = v.marks; left = v.left; right = v.right; C = remove m v.C; sent = v.sent; exited = v.exited }

unfoldable pub exited : Command
exited v = record { p = v.p; marks = v.marks; left = v.left; right = v.right; C = v.C; sent = v.sent; exited = true }

-- "timeout: true →"
unfoldable pub timeout : Command
timeout =
    if not_leaving then (send intro p to left ⨾ send intro p to right)
    otherwise (send req remleft to right ⨾ send req remright to left)

-- "introduce: intro ∈ p.C → receive intro(id)"
unfoldable pub introduce : Expression Id → Command
introduce id =
    (if id below left then send intro id to left)
    ⨾ (if left below id and id below p then (send intro left to id ⨾ left:= id))
    ⨾ (if p below id and id below right then (send intro right to id ⨾ right:= id))
    ⨾ (if right below id then send intro id to right)

-- "request: req ∈ p.C → receive req(direction)". The figure is printed without indents: how far its `if not leaving` reaches, over the
-- sending alone or over `left := −∞` too, is not to be seen there. Document 01 decides: "A leaving p does no more", so over both.
unfoldable pub request : Direction → Command
request remleft = if not_leaving then (send intro p to left ⨾ left:= always −∞)
request remright = send intro p to right ⨾ right:= always +∞

-- "exit: NIDEC and leaving →"
unfoldable pub exit : Command
exit =
    (if defined left and defined right then (send intro left to right ⨾ send intro right to left))
    ⨾ exited

-- The actions of the figure as steps: a step names the message that is received.
unfoldable pub handle : Content → Command
handle (Introduction n) = introduce (always (process n))
handle RemoveLeft = request remleft
handle RemoveRight = request remright

unfoldable pub command : Action → Command
command Timeout = timeout
command (Deliver m) = receive m ⨾ handle m.content
command Exit = exit

abbrev pub Guard : Line → Node → Action → Type 0
Guard line s Timeout = Unit {0}
Guard line s (Deliver m) = Member m s.bag
Guard line s Exit = Nidec line s × (s.station.marks.leaving ≡ true)

-- A station as a process, and back.
unfoldable pub left_id : Neighbour → Id
left_id None = −∞
left_id (Some n) = process n

unfoldable pub right_id : Neighbour → Id
right_id None = +∞
right_id (Some n) = process n

-- the variable of a side, right or left
abbrev pub variable : Side → Neighbour → Id
variable Right n = right_id n
variable Left n = left_id n

unfoldable pub neighbour_of : Id → Neighbour
neighbour_of −∞ = None
neighbour_of (process n) = Some n
neighbour_of +∞ = None

unfoldable pub process_of : Node → Process
process_of s = record {
  p = s.station.number;
  marks = s.station.marks;
  left = left_id s.station.left;
  right = right_id s.station.right;
  C = s.bag;
  sent = [];
  exited = false;
}

unfoldable pub node_of : Process → Option Node
node_of v =
    cond v.exited None
    (Some
    (record {
      station = record { number = v.p; left = neighbour_of v.left; right = neighbour_of v.right; marks = v.marks };
      bag = v.C;
    }))

-- The state after an enabled action: the process has run its command, and what it sent is in the channels.
unfoldable pub state_after : Line → Node → Action → Line
state_after line s a = let v = command a (process_of s) in send_all v.sent (replace (number s) (node_of v) line)

-- Figure 1 allows step x in the state line, and leads to the state after.
pub record Fires (line : Line) (x : declared.Step) (after : Line) : Type 0 where
  pub node : Node
  pub member : Member node line
  pub named : number node ≡ x.station
  pub guard : Guard line node x.action
  pub result : after ≡ state_after line node x.action
