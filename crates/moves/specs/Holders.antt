-- Who holds a station that would exit (document 01, "What a step does at station p": "NIDEC holds for p when p's bag is empty and no other
-- station has p as a neighbour or as an introduction in its bag"; document 02, T-02).
use Rattle.std.specs.Prelude.{ℕ, Bool, true, false, cond, not, ◌&&◌, ◌||◌, List, eqb, ltb, length, get_or, Ok, Err}
use Rattle.line.specs.Types.{Leave}
use Rattle.line.specs.declared.Action.{Action}
use Rattle.line.specs.declared.Action.TheVariants.{Timeout, Deliver, Exit}
use Rattle.line.specs.declared.Station as declared
use Rattle.line.specs.declared.Reason.TheVariants.{OwnBag, HeldBy}
use Rattle.line.specs.Nidec.{is_neighbour}

-- NIDEC is asked by an exit only
abbrev pub is_exit : Action → Bool
is_exit Timeout = false
is_exit (Deliver m) = false
is_exit Exit = true

-- as far as the fields of s and the number of its messages tell
abbrev pub may_hold : ℕ → declared.Station → ℕ → Bool
may_hold p s count = not (eqb s.number p) && ((is_neighbour p s.left || is_neighbour p s.right) || not (eqb count 0))

-- whether a station with so many messages may leave, where the first that holds it has place j among the numbers of the line: "The bag is
-- looked at first"
abbrev pub leave_from : List ℕ → ℕ → ℕ → Leave
leave_from numbers count j = cond (eqb count 0) (cond (ltb j (length numbers)) (Err (HeldBy (get_or numbers j 0))) (Ok tt)) (Err OwnBag)
