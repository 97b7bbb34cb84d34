-- What a step does at its own station (document 01, "What a step does at station p").
-- Nothing here looks beyond the station, its bag and whether it may leave.
use Rattle.std.specs.Prelude.{ℕ, Bool, true, cond, not, List, [], ◌∷◌, ◌++◌, eqb, Option, Some, None}
use Rattle.line.specs.Types.{Leave, Neighbour}
use Rattle.line.specs.declared.Content.{Content}
use Rattle.line.specs.declared.Content.TheVariants.{Introduction, RemoveLeft, RemoveRight}
use Rattle.line.specs.declared.Message.{Message}
use Rattle.line.specs.declared.Station as declared
use Rattle.line.specs.declared.Side.{Side}
use Rattle.line.specs.declared.Side.TheVariants.{Left, Right}
use Rattle.line.specs.declared.Action.{Action}
use Rattle.line.specs.declared.Action.TheVariants.{Timeout, Deliver, Exit}
use Rattle.line.specs.declared.Refusal.TheVariants.{NotInBag, Staying}
use Rattle.line.specs.Answer.{Answer, done, require, unless_held}
use Rattle.line.specs.Message.{introduction, removal, holds, remove}
use Rattle.line.specs.Node.{Node, leaving, opposite, beyond, side_of, neighbour, with_neighbour}

-- a message on its way to a station
pub record Send : Type 0 where
  pub to : ℕ
  pub message : Message

abbrev pub send : ℕ → Message → List Send
send n m = record { to = n; message = m } ∷ []

-- "each where there is one"
unfoldable pub send_to : Neighbour → Message → List Send
send_to None m = []
send_to (Some n) m = send n m

-- "Timeout, staying: an introduction of p goes to left and to right, each where there is one."
-- "Timeout, leaving: a remove-right goes to left and a remove-left to right, each where there is one."
unfoldable pub notice : declared.Station → Side → Message
notice p d = cond p.marks.leaving (removal (opposite d)) (introduction p.number)

unfoldable pub timeout : declared.Station → List Send
timeout p = send_to p.left (notice p Left) ++ send_to p.right (notice p Right)

-- a station after a delivery, and what it sends
pub record Reaction : Type 0 where
  pub station : declared.Station
  pub sends : List Send

abbrev pub unchanged : declared.Station → Reaction
unchanged p = record { station = p; sends = [] }

-- "If q is above p: with no right, right becomes q; with q below right, an introduction of the old right goes to q and right
-- becomes q; with q equal to right, no more; with q above right, the introduction goes on to right. The left side is the mirror image."
unfoldable pub meet : Side → declared.Station → ℕ → Neighbour → Reaction
meet d p q None = record { station = with_neighbour d (Some q) p; sends = [] }
meet d p q (Some r) =
    cond (beyond d q r) (record { station = with_neighbour d (Some q) p; sends = send q (introduction r) })
    (cond (eqb q r) (unchanged p) (record { station = p; sends = send r (introduction q) }))

-- "Deliver introduction of q: ... If q is p, no more."
unfoldable pub introduced : declared.Station → ℕ → Reaction
introduced p q = cond (eqb q p.number) (unchanged p) (meet (side_of p.number q) p q (neighbour (side_of p.number q) p))

-- "an introduction of p goes to left and left becomes none"; with no neighbour, no more
unfoldable pub drop_neighbour : Side → declared.Station → Neighbour → Reaction
drop_neighbour d p None = unchanged p
drop_neighbour d p (Some r) = record { station = with_neighbour d None p; sends = send r (introduction p.number) }

-- "Deliver remove-left: ... If p is staying and has a left ... A leaving p does no more."
-- "Deliver remove-right: ... If p has a right, staying or leaving ..."
abbrev pub obeys : Side → declared.Station → Bool
obeys Left p = not p.marks.leaving
obeys Right p = true

unfoldable pub removed : declared.Station → Side → Reaction
removed p d = cond (obeys d p) (drop_neighbour d p (neighbour d p)) (unchanged p)

unfoldable pub received : declared.Station → Content → Reaction
received p (Introduction q) = introduced p q
received p RemoveLeft = removed p Left
received p RemoveRight = removed p Right

-- "Exit: ... With both neighbours, left is introduced to right and right to left. The block of p goes."
unfoldable pub introduce_both : Neighbour → Neighbour → List Send
introduce_both None n = []
introduce_both (Some l) None = []
introduce_both (Some l) (Some r) = send l (introduction r) ++ send r (introduction l)

-- the node after the step, none where its block goes, and what it sends
pub record Effect : Type 0 where
  pub after : Option Node
  pub sends : List Send

abbrev pub kept : List Message → Reaction → Effect
kept b r = record { after = Some (record { station = r.station; bag = b }); sends = r.sends }

-- l says whether s may leave, and what holds it
unfoldable pub act : Leave → Node → Action → Answer Effect
act l s Timeout = done (record { after = Some s; sends = timeout s.station })
act l s (Deliver m) = require (holds m s.bag) NotInBag (done (kept (remove m s.bag) (received s.station m.content)))
act l s Exit =
    require (leaving s) Staying
    (unless_held l (done (record { after = None; sends = introduce_both s.station.left s.station.right })))
