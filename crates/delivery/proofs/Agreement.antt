-- The cases in the order of lemma 3's proof are the step rules.
use mathlib.Core.Path.{◌≡◌, refl, sym, ap}
use Rattle.std.specs.Prelude.{Some, None}
use Rattle.line.specs.Types.{Neighbour}
use mathlib.Core.Bool.{Bool, true, false, cond}
use Prim.Native.Nat.{ℕ}
use lib.Dec.{eqb, ltb}
use Rattle.line.specs.declared.Station as declared
use Rattle.line.specs.declared.Side.{Side}
use Rattle.line.specs.declared.Side.TheVariants.{Left, Right}
use Rattle.line.specs.declared.Refusal.TheVariants.{NotInBag}
use Rattle.line.specs.Answer.{Answer, refused, done, ◌>>=◌, require}
use Rattle.line.specs.Message.{introduction, holds, remove}
use Rattle.line.specs.Node.{Node, Line, number, beyond, side_of, neighbour}
use Rattle.line.specs.Act.{Reaction, unchanged, meet, received, kept, act}
use Rattle.line.specs.Act as rules
use Rattle.line.specs.Step.{find, commit, step}
use Rattle.line.specs.Report.{less, mail, left_id, right_id, variable}
use Rattle.delivery.specs.Lemma3.{below, equal, on_side, introduced, delivery}
use Rattle.delivery.specs.Claims.{OrderAgrees, StepAgrees}

-- one side, right or left
side_agrees : (d : Side) (p : declared.Station) (id : ℕ) (n : Neighbour) → on_side d p id (variable d n) ≡ meet d p id n
unfolding on_side below equal less left_id right_id mail meet beyond
side_agrees Right p id None = refl
side_agrees Right p id (Some q) = refl
side_agrees Left p id None = refl
side_agrees Left p id (Some q) = refl

pub order_agrees : OrderAgrees
unfolding introduced rules.introduced side_of
order_agrees p id = ap (cond (eqb id p.number) (unchanged p)) (go (ltb p.number id))
  where
    go : (t : Bool) → cond t (on_side Right p id (variable Right p.right)) (on_side Left p id (variable Left p.left)) ≡ meet (cond t Right Left) p id (neighbour (cond t Right Left) p)
    go true = side_agrees Right p id p.right
    go false = side_agrees Left p id p.left

-- an introduction of id is delivered to station s, which does r with it
abbrev handed : Line → ℕ → Node → Reaction → Answer Line
handed line id s r = require (holds (introduction id) s.bag) NotInBag (done (kept (remove (introduction id) s.bag) r)) >>= commit line (number s)

pub step_agrees : StepAgrees
unfolding step delivery ◌>>=◌ act received
step_agrees line n id = found (find n line)
  where
    -- with a station that was found, or with the refusal where none was
    found : (a : Answer Node) → (a >>= λ (s : Node). handed line id s (rules.introduced s.station id)) ≡ (a >>= λ (s : Node). handed line id s (introduced s.station id))
    found (refused r) = refl
    found (done s) = ap (handed line id s) (sym (order_agrees s.station id))
