-- What station p does with an introduction of id: the cases of the proof of lemma 3 of source 000, in the order of its text. Quoted is what
-- that text says of action introduce, with its letters: p is the station's number, id the number that the message carries, right and left the
-- neighbours, as Figure 1 has them: "left : process ids less than p, −∞ if undefined", "right : process ids greater than p, +∞ if undefined".
use Rattle.std.specs.Prelude.{ℕ, Bool, false, cond, eqb, ltb, Some}
use Rattle.line.specs.declared.Station as declared
use Rattle.line.specs.declared.Side.{Side}
use Rattle.line.specs.declared.Side.TheVariants.{Left, Right}
use Rattle.line.specs.declared.Refusal.TheVariants.{NotInBag}
use Rattle.line.specs.Answer.{Answer, done, ◌>>=◌, require}
use Rattle.line.specs.Message.{introduction, holds, remove}
use Rattle.line.specs.Node.{Line, number, with_neighbour}
use Rattle.line.specs.Act.{Reaction, unchanged, kept}
use Rattle.line.specs.Step.{find, commit}
use Rattle.line.specs.Report.{Id, −∞, +∞, process, Intro, less, mail, variable}

-- id is below q as seen from the right: id < q there, and q < id on the left. Where there is no neighbour it is, since q is then +∞, or −∞.
unfoldable pub below : Side → ℕ → Id → Bool
below Right id q = less (process id) q
below Left id q = less q (process id)

-- id = q; no number is infinite
unfoldable pub equal : ℕ → Id → Bool
equal id −∞ = false
equal id (process q) = eqb id q
equal id +∞ = false

-- The right side, and the left: "We now consider p < id. The case of id < p is similar." The text is that of the right; on the left, left stands
-- for right and > for <. "Let variable right hold identifier q before the action execution."
unfoldable pub on_side : Side → declared.Station → ℕ → Id → Reaction
on_side d p id q =
    -- "If p < id < right, introduce sets right = id. ... However, this action also sends message intro(q) to id."
    cond (below d id q) (record { station = with_neighbour d (Some id) p; sends = mail (Intro q) (process id) })
    -- "If id = right, action introduce removes the message and does no further operations."
    (cond (equal id q) (unchanged p)
    -- "If id > right, action introduce forwards id to right"
    (record { station = p; sends = mail (Intro (process id)) q }))

unfoldable pub introduced : declared.Station → ℕ → Reaction
introduced p id =
    -- "If id = p, i.e. the message carries the same identifier as the receiving process, this message forms a self-loop link (p, p). This link is
    -- not included in CC and the message receipt does not affect CC."
    cond (eqb id p.number) (unchanged p)
    -- "We now consider p < id."
    (cond (ltb p.number id) (on_side Right p id (variable Right p.right))
    -- "The case of id < p is similar."
    (on_side Left p id (variable Left p.left)))

-- The step that delivers an introduction of id to station n, refusals included: there is such a station, its bag holds the message, which it
-- then receives, and every bag that must receive has room.
unfoldable pub delivery : Line → ℕ → ℕ → Answer Line
delivery line n id = do
  s ← find n line
  e ← require (holds (introduction id) s.bag) NotInBag (done (kept (remove (introduction id) s.bag) (introduced s.station id)))
  commit line (number s) e
