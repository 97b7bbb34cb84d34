-- What still holds a station (document 02, T-02, "Name what still holds a departing truck"), of the links of document 01 ("The whole run").
use Rattle.std.specs.Prelude.{ℕ, ◌≤◌, ◌≡◌, ◌≢◌, Bool, true, false, cond, not, ◌&&◌, [], ◌∷◌, eqb, ltb, Option, Some, None, Ok, Err}
use Rattle.line.specs.Types.{Leave}
use Rattle.line.specs.declared.Reason.{Reason}
use Rattle.line.specs.declared.Reason.TheVariants.{OwnBag, HeldBy}
use Rattle.line.specs.Node.{Node, Line, number}
use Rattle.line.specs.Links.{Link}
use Rattle.line.specs.Nidec.{Nidec, names, is_empty}

-- q holds p: "the smallest station that still has the asked one as a neighbour or an introduction", other than p itself
pub record Holder (line : Line) (p q : ℕ) : Type 0 where
  pub other : q ≢ p
  pub linked : Link line q p
  pub smallest : (r : ℕ) → r ≢ p → Link line r p → q ≤ r

-- what a reason says of the station s: "The bag is looked at first."
abbrev pub Why : Line → Node → Reason → Type 0
Why line s OwnBag = s.bag ≢ []
Why line s (HeldBy q) = (s.bag ≡ []) × Holder line (number s) q

-- "yes, or `own bag not empty`, or the smallest station": yes "exactly when NIDEC holds for it, leaving mark or not" (document 01)
abbrev pub LeaveIs : Line → Node → Leave → Type 0
LeaveIs line s (Ok _) = Nidec line s
LeaveIs line s (Err why) = Why line s why

-- The test, tied to the statements by `LeaveTested` of Claims.antt.
-- s is another station than p, and has p as a neighbour or as an introduction
abbrev pub is_holder : ℕ → Node → Bool
is_holder p s = not (eqb (number s) p) && names p s

-- what was found behind station n, or n itself where it holds: the smaller of the two
abbrev pub smaller : Bool → ℕ → Option ℕ → Option ℕ
smaller false n found = found
smaller true n None = Some n
smaller true n (Some m) = Some (cond (ltb m n) m n)

-- the smallest station of the line that holds p
unfoldable pub holder_of : ℕ → Line → Option ℕ
holder_of p [] = None
holder_of p (s ∷ line) = smaller (is_holder p s) (number s) (holder_of p line)

abbrev pub held_by : Option ℕ → Leave
held_by None = Ok tt
held_by (Some q) = Err (HeldBy q)

unfoldable pub leave_of : Line → Node → Leave
leave_of line s = cond (is_empty s.bag) (held_by (holder_of (number s) line)) (Err OwnBag)
