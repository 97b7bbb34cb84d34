-- What is proved of the definitions (the proofs are in proofs/, under the same names in snake case).
use Rattle.std.specs.Prelude.{ℕ, ◌≤◌, ◌≡◌, ◌↔◌, ◌≢◌, true, List, [], ◌∷◌, length}
use Rattle.line.specs.Types.{Leave, Reading}
use mathlib.Core.List.{Memᴰ as Member}
use Rattle.lists.specs.Numbers.{Rising}
use Rattle.line.specs.declared.Reason.{Reason}
use Rattle.line.specs.declared.Refusal.{Refusal}
use Rattle.line.specs.declared.Refusal.TheVariants.{Full}
use Rattle.line.specs.declared.Step as declared
use Rattle.line.specs.declared.Action.{Action}
use Rattle.line.specs.Answer.{refused, done}
use Rattle.line.specs.Message.{capacity}
use Rattle.line.specs.Node.{Node, Line, number, numbers, Present, in_written_order, Written}
use Rattle.line.specs.Links.{Joined}
use Rattle.line.specs.Nidec.{Nidec}
use Rattle.line.specs.Leave.{Why, LeaveIs, leave_of}
use Rattle.line.specs.Act.{Send, Effect, act}
use Rattle.line.specs.Step.{step}
use Rattle.line.specs.Run.{Run, run, IsRun}
use Rattle.line.specs.Cause.{Cause}
use Rattle.line.specs.Accepted.{Sided, Accepted, accepted}
use Rattle.line.specs.Alike.{Alike}
use Rattle.line.specs.InLine.{NeighboursInLine, InLine, neighbours_in_line, in_line}
use Rattle.line.specs.Report.{Fires}
use Rattle.line.specs.Situations.{Situation, Holds, situations}
use Rattle.line.specs.Examples.{examples, LineExample, Shows, line_examples, LeaveExample, ShowsLeave, leave_examples}

-- The tests say what the statements say.
abbrev pub LeaveTested : Type 0
LeaveTested = (line : Line) (s : Node) (l : Leave) → (leave_of line s ≡ l) ↔ LeaveIs line s l

abbrev pub AcceptedTested : Type 0
AcceptedTested = (line : Line) → (accepted line ≡ true) ↔ Accepted line

abbrev pub NeighboursTested : Type 0
NeighboursTested = (line : Line) → Rising (numbers line) → (neighbours_in_line line ≡ true) ↔ NeighboursInLine line

abbrev pub InLineTested : Type 0
InLineTested = (line : Line) → Rising (numbers line) → (in_line line ≡ true) ↔ InLine line

-- 1. A step that is done leaves an accepted line accepted and, where it is in written order, in written order; so does a run.
abbrev pub StepKeepsAccepted : Type 0
StepKeepsAccepted = (line after : Line) (x : declared.Step) → Accepted line → step line x ≡ done after → Accepted after

abbrev pub StepKeepsWritten : Type 0
StepKeepsWritten = (line after : Line) (x : declared.Step) → Accepted line → Written line → step line x ≡ done after → Written after

abbrev pub RunKeepsAccepted : Type 0
RunKeepsAccepted = (line : Line) (l : List Reading) → Accepted line → Accepted (run line l).line

abbrev pub RunKeepsWritten : Type 0
RunKeepsWritten = (line : Line) (l : List Reading) → Accepted line → Written line → Written (run line l).line

-- 2. The line is never cut: stations present at the end of a run, whether or not it stopped at a refusal, were present at the start, and
-- two of them are joined at the end exactly when they were joined at the start.
abbrev pub PresentBefore : Type 0
PresentBefore = (line : Line) (l : List Reading) → Accepted line → (n : ℕ) → Present (run line l).line n → Present line n

abbrev pub JoinedKept : Type 0
JoinedKept =
    (line : Line) (l : List Reading) → Accepted line
    → (a b : ℕ) → Present (run line l).line a → Present (run line l).line b → Joined line a b ↔ Joined (run line l).line a b

-- "Every step carries it unchanged" (document 02, T-05), said of the site code and as true of the leaving mark: a station present at the end
-- of a run was there at the start, with the marks that it has at the end.
abbrev pub MarksKept : Type 0
MarksKept =
    (line : Line) (l : List Reading) → Accepted line
    → (t : Node) → Member t (run line l).line → (s : Node) × Member s line × (number s ≡ number t) × (s.station.marks ≡ t.station.marks)

-- 3. Accepted lines that are alike, whatever their stored order, have one written order; so everything after reading is equal.
abbrev pub AlikeAgree : Type 0
AlikeAgree = (a b : Line) → Accepted a → Accepted b → Alike a b → in_written_order a ≡ in_written_order b

-- The written order of an accepted line is accepted and written, is alike to the line, and joins the same stations.
abbrev pub WrittenOrderKeeps : Type 0
WrittenOrderKeeps =
    (line : Line) → Accepted line
    → Accepted (in_written_order line) × Written (in_written_order line) × Alike line (in_written_order line)
    × ((a b : ℕ) → Joined line a b ↔ Joined (in_written_order line) a b)

-- A line in written order is left as it is.
abbrev pub WrittenOrderStays : Type 0
WrittenOrderStays = (line : Line) → Written line → in_written_order line ≡ line

-- 4. A step is done exactly when Figure 1 allows it and no bag would hold more than 32, and then leads where Figure 1 leads.
-- It is refused with 15 exactly when Figure 1 allows it and some bag would hold more than 32.
abbrev pub WithinCapacity : Line → Type 0
WithinCapacity line = (s : Node) → Member s line → length s.bag ≤ capacity

abbrev pub ReportAgrees : Type 0
ReportAgrees =
    (line : Line) (x : declared.Step) → Accepted line
    → ((after : Line) → (step line x ≡ done after) ↔ (Fires line x after × WithinCapacity after))
    × ((step line x ≡ refused Full) ↔ ((after : Line) × Fires line x after × ¬ WithinCapacity after))

-- 5. The eleven starred situations, as one set; the further examples; lines with the stations that may leave; and lines with what holds each
-- of their stations.
abbrev pub SituationsHold : Type 0
SituationsHold = (x : Situation) → Member x situations → Holds x

abbrev pub ExamplesHold : Type 0
ExamplesHold = (x : Situation) → Member x examples → Holds x

abbrev pub LineExamplesShow : Type 0
LineExamplesShow = (x : LineExample) → Member x line_examples → Shows x

abbrev pub LeaveExamplesShow : Type 0
LeaveExamplesShow = (x : LeaveExample) → Member x leave_examples → ShowsLeave x

-- 6. "No step sends to its own station, and no step sends two messages to one station."
abbrev pub Apart : List Send → Type 0
Apart [] = Unit {0}
Apart (m ∷ l) = ((k : Send) → Member k l → m.to ≢ k.to) × Apart l

abbrev pub SendsApart : Type 0
SendsApart =
    (l : Leave) (s : Node) (a : Action) (e : Effect) → Sided s → act l s a ≡ done e
    → ((m : Send) → Member m e.sends → m.to ≢ number s) × Apart e.sends

-- 7. What a run is, and nothing else: the first readings, as many as it counts, are done one after another and lead from the line read to
-- the line left; then the list is at its end, or the next reading is refused in that line with the refusal told.
abbrev pub RunPinned : Type 0
RunPinned = (line : Line) (l : List Reading) (r : Run) → (run line l ≡ r) ↔ IsRun line l r

-- 8. A step is refused with a number exactly when there is that number's cause.
abbrev pub RefusedExactly : Type 0
RefusedExactly = (line : Line) (x : declared.Step) (r : Refusal) → Accepted line → (step line x ≡ refused r) ↔ Cause line x r

-- 9. "exit, leaving, NIDEC false": there is a reason exactly where NIDEC does not hold, and only one.
abbrev pub ReasonExactly : Type 0
ReasonExactly = (line : Line) (s : Node) → ((why : Reason) × Why line s why) ↔ (¬ Nidec line s)

abbrev pub ReasonOnce : Type 0
ReasonOnce = (line : Line) (s : Node) (why other : Reason) → Why line s why → Why line s other → why ≡ other
