-- Further worked examples, held to the same claim as the situations: the mirror images, the refusals, and bags at their bound. Then
-- lines, with the stations for which NIDEC holds; and lines with what holds each of their stations.
use Rattle.std.specs.Prelude.{ℕ, ◌≡◌, ◌↔◌, true, List, [], ◌∷◌, ◌++◌, replicate, Some, None, Ok, Err}
use Rattle.line.specs.Types.{Leave}
use mathlib.Core.List.{Memᴰ as Member}
use Rattle.line.specs.declared.Message.{Message}
use Rattle.line.specs.declared.Side.TheVariants.{Left, Right}
use Rattle.line.specs.declared.Reason.TheVariants.{OwnBag, HeldBy}
use Rattle.line.specs.Message.{introduction, removal}
use Rattle.line.specs.Node.{Node, Line, number}
use Rattle.line.specs.Nidec.{Nidec}
use Rattle.line.specs.Leave.{LeaveIs}
use Rattle.line.specs.Accepted.{accepted}
use Rattle.line.specs.Situations.{Situation, doing, refusing, staying, leaving, single, timeout_at, deliver_to, exit_of}

-- n copies of a message
abbrev pub many : ℕ → Message → List Message
many n m = replicate n m

unfoldable pub examples : List Situation
examples =
    -- timeout, staying: an introduction of 5 goes to both sides
    doing (single 3 [] ∷ staying 5 (Some 3) (Some 9) (introduction 9 ∷ []) ∷ single 9 (removal Left ∷ []) ∷ []) (timeout_at 5)
    (single 3 (introduction 5 ∷ []) ∷ staying 5 (Some 3) (Some 9) (introduction 9 ∷ []) ∷ single 9 (introduction 5 ∷ removal Left ∷ []) ∷ []) ∷
    -- "each where there is one"
    doing (single 3 [] ∷ leaving 5 (Some 3) None [] ∷ single 9 [] ∷ []) (timeout_at 5)
    (single 3 (removal Right ∷ []) ∷ leaving 5 (Some 3) None [] ∷ single 9 [] ∷ []) ∷
    doing (single 3 [] ∷ staying 5 None (Some 9) [] ∷ single 9 [] ∷ []) (timeout_at 5)
    (single 3 [] ∷ staying 5 None (Some 9) [] ∷ single 9 (introduction 5 ∷ []) ∷ []) ∷
    -- the mirror images of situations 1 to 4
    doing (single 3 [] ∷ single 4 [] ∷ staying 5 (Some 3) (Some 9) (introduction 4 ∷ []) ∷ single 9 [] ∷ []) (deliver_to 5 (introduction 4))
    (single 3 [] ∷ single 4 (introduction 3 ∷ []) ∷ staying 5 (Some 4) (Some 9) [] ∷ single 9 [] ∷ []) ∷
    doing (single 3 [] ∷ staying 5 (Some 3) (Some 9) (introduction 3 ∷ []) ∷ single 9 [] ∷ []) (deliver_to 5 (introduction 3))
    (single 3 [] ∷ staying 5 (Some 3) (Some 9) [] ∷ single 9 [] ∷ []) ∷
    doing (single 2 [] ∷ single 3 [] ∷ leaving 5 (Some 3) (Some 9) (introduction 2 ∷ []) ∷ single 9 [] ∷ []) (deliver_to 5 (introduction 2))
    (single 2 [] ∷ single 3 (introduction 2 ∷ []) ∷ leaving 5 (Some 3) (Some 9) [] ∷ single 9 [] ∷ []) ∷
    doing (single 2 [] ∷ staying 5 None (Some 9) (introduction 2 ∷ []) ∷ single 9 [] ∷ []) (deliver_to 5 (introduction 2))
    (single 2 [] ∷ staying 5 (Some 2) (Some 9) [] ∷ single 9 [] ∷ []) ∷
    -- staying, remove-right: obeyed as by a leaving station
    doing (single 3 [] ∷ staying 5 (Some 3) (Some 9) (removal Right ∷ []) ∷ single 9 [] ∷ []) (deliver_to 5 (removal Right))
    (single 3 [] ∷ staying 5 (Some 3) None [] ∷ single 9 (introduction 5 ∷ []) ∷ []) ∷
    -- a removal where there is no neighbour
    doing (staying 5 None (Some 9) (removal Left ∷ []) ∷ single 9 [] ∷ []) (deliver_to 5 (removal Left))
    (staying 5 None (Some 9) [] ∷ single 9 [] ∷ []) ∷
    -- the message is named by content: another of its kind stands in front of it and stays
    doing (single 3 [] ∷ staying 5 (Some 3) (Some 9) (introduction 3 ∷ introduction 7 ∷ []) ∷ single 7 [] ∷ single 9 [] ∷ []) (deliver_to 5 (introduction 7))
    (single 3 [] ∷ staying 5 (Some 3) (Some 7) (introduction 3 ∷ []) ∷ single 7 (introduction 9 ∷ []) ∷ single 9 [] ∷ []) ∷
    -- exit with one neighbour: nothing is sent
    doing (single 3 [] ∷ leaving 5 (Some 3) None [] ∷ single 9 [] ∷ []) (exit_of 5)
    (single 3 [] ∷ single 9 [] ∷ []) ∷
    -- situation 13: a sole leaving station with an empty bag exits
    doing (leaving 5 None None [] ∷ []) (exit_of 5)
    [] ∷
    -- 11: station not present
    refusing (single 3 [] ∷ single 9 [] ∷ []) (timeout_at 5) 11 ∷
    -- 12: message not in that bag, though one of its kind is
    refusing (single 3 [] ∷ staying 5 (Some 3) (Some 9) (introduction 9 ∷ []) ∷ single 9 [] ∷ []) (deliver_to 5 (introduction 3)) 12 ∷
    -- 12: a remove-left that is missing, though a remove-right waits
    refusing (single 3 [] ∷ staying 5 (Some 3) (Some 9) (removal Right ∷ []) ∷ single 9 [] ∷ []) (deliver_to 5 (removal Left)) 12 ∷
    -- 13: a staying station for which NIDEC holds
    refusing (single 3 [] ∷ staying 5 (Some 3) (Some 9) [] ∷ single 9 [] ∷ []) (exit_of 5) 13 ∷
    -- 13 comes before 14: a staying station, named by 9
    refusing (single 3 [] ∷ staying 5 (Some 3) (Some 9) [] ∷ staying 9 (Some 5) None [] ∷ []) (exit_of 5) 13 ∷
    -- 14: named as a right neighbour, as a left neighbour, and by an introduction alone
    refusing (staying 3 None (Some 5) [] ∷ leaving 5 (Some 3) (Some 9) [] ∷ single 9 [] ∷ []) (exit_of 5) 14 ∷
    refusing (single 3 [] ∷ leaving 5 (Some 3) (Some 9) [] ∷ staying 9 (Some 5) None [] ∷ []) (exit_of 5) 14 ∷
    refusing (single 3 [] ∷ leaving 5 (Some 3) (Some 9) [] ∷ single 9 (introduction 3 ∷ introduction 5 ∷ []) ∷ []) (exit_of 5) 14 ∷
    -- 14 comes before 15
    refusing (single 3 (many 32 (introduction 9)) ∷ leaving 5 (Some 3) (Some 9) [] ∷ staying 9 (Some 5) None [] ∷ []) (exit_of 5) 14 ∷
    -- situation 12: the right bag holds 32, so nothing happens at the left either; with 31 it is done
    refusing (single 3 [] ∷ staying 5 (Some 3) (Some 9) [] ∷ single 9 (many 32 (introduction 9)) ∷ []) (timeout_at 5) 15 ∷
    doing (single 3 [] ∷ staying 5 (Some 3) (Some 9) [] ∷ single 9 (many 31 (introduction 9)) ∷ []) (timeout_at 5)
    (single 3 (introduction 5 ∷ []) ∷ staying 5 (Some 3) (Some 9) [] ∷ single 9 (introduction 5 ∷ many 31 (introduction 9)) ∷ []) ∷
    -- an exit whose left must receive and holds 32; a delivery whose own bag holds 32 makes room and sends nothing to itself
    refusing (single 3 (many 32 (introduction 3)) ∷ leaving 5 (Some 3) (Some 9) [] ∷ single 9 [] ∷ []) (exit_of 5) 15 ∷
    doing (single 3 [] ∷ staying 5 (Some 3) (Some 9) (many 31 (introduction 7) ++ (removal Left ∷ [])) ∷ single 7 [] ∷ single 9 [] ∷ []) (deliver_to 5 (removal Left))
    (single 3 (introduction 5 ∷ []) ∷ staying 5 None (Some 9) (many 31 (introduction 7)) ∷ single 7 [] ∷ single 9 [] ∷ []) ∷ []

-- A line, and the stations for which NIDEC holds.
pub record LineExample : Type 0 where
  pub line : Line
  pub free : List ℕ

pub record Shows (x : LineExample) : Type 0 where
  pub accepts : accepted x.line ≡ true
  pub free : (s : Node) → Member s x.line → Nidec x.line s ↔ Member (number s) x.free

unfoldable pub line_examples : List LineExample
line_examples =
    -- nobody is there; 3, 5 and 9 in line: each is named by a neighbour
    record { line = []; free = [] } ∷
    record {
      line = staying 3 None (Some 5) [] ∷ staying 5 (Some 3) (Some 9) [] ∷ staying 9 (Some 5) None [] ∷ [];
      free = [];
    } ∷
    -- the same with a left missing, and with a right missing
    record {
      line = staying 3 None (Some 5) [] ∷ staying 5 None (Some 9) [] ∷ staying 9 (Some 5) None [] ∷ [];
      free = 3 ∷ [];
    } ∷
    record {
      line = staying 3 None (Some 5) [] ∷ staying 5 (Some 3) None [] ∷ staying 9 (Some 5) None [] ∷ [];
      free = 9 ∷ [];
    } ∷
    -- NIDEC holds for 5, which stays, and for no station that it names
    record { line = single 3 [] ∷ staying 5 (Some 3) (Some 9) [] ∷ single 9 [] ∷ []; free = 5 ∷ [] } ∷
    -- it does not hold where a message waits in the own bag, nor where another bag introduces the station
    record {
      line = single 3 [] ∷ leaving 5 (Some 3) (Some 9) (removal Left ∷ []) ∷ single 9 [] ∷ [];
      free = [];
    } ∷
    record {
      line = single 3 [] ∷ leaving 5 (Some 3) None [] ∷ single 9 (introduction 5 ∷ []) ∷ [];
      free = [];
    } ∷ []

-- A line in any stored order, and what the leave question says of each of its stations in that order.
pub record LeaveExample : Type 0 where
  pub line : Line
  pub leaves : List Leave

abbrev pub Answers : Line → Line → List Leave → Type 0
Answers line [] [] = Unit {0}
Answers line [] (a ∷ l) = ⊥
Answers line (s ∷ rest) [] = ⊥
Answers line (s ∷ rest) (a ∷ l) = LeaveIs line s a × Answers line rest l

pub record ShowsLeave (x : LeaveExample) : Type 0 where
  pub accepts : accepted x.line ≡ true
  pub leaves : Answers x.line x.line x.leaves

unfoldable pub leave_examples : List LeaveExample
leave_examples =
    -- 5 is named by 3 and by 9: the smaller of the two holds it, though 9 is stored first
    record {
      line = staying 9 (Some 5) None [] ∷ leaving 5 None None [] ∷ staying 3 None (Some 5) [] ∷ [];
      leaves = (Ok tt) ∷ Err (HeldBy 3) ∷ (Ok tt) ∷ [];
    } ∷
    -- "The bag is looked at first": 5 is held by 3, but a message waits for it
    record {
      line = staying 3 None (Some 5) [] ∷ leaving 5 None None (removal Left ∷ []) ∷ [];
      leaves = (Ok tt) ∷ Err OwnBag ∷ [];
    } ∷
    -- a station that introduces itself is held by its own bag
    record { line = leaving 5 None None (introduction 5 ∷ []) ∷ []; leaves = Err OwnBag ∷ [] } ∷
    -- a right neighbour, a left neighbour, and an introduction behind another message hold
    record {
      line = staying 3 None (Some 5) [] ∷ leaving 5 None None [] ∷ staying 9 (Some 3) None (introduction 3 ∷ introduction 5 ∷ []) ∷ [];
      leaves = Err (HeldBy 9) ∷ Err (HeldBy 3) ∷ Err OwnBag ∷ [];
    } ∷
    record {
      line = single 3 [] ∷ leaving 5 None None [] ∷ single 9 (introduction 3 ∷ introduction 5 ∷ []) ∷ [];
      leaves = Err (HeldBy 9) ∷ Err (HeldBy 9) ∷ Err OwnBag ∷ [];
    } ∷
    -- nobody holds a sole station
    record { line = single 5 [] ∷ []; leaves = (Ok tt) ∷ [] } ∷ []
