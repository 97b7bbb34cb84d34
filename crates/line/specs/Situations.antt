-- The situations of document 01 ("Thirteen situations to try") that have a star, as one list, and what is claimed of each.
use Rattle.std.specs.Prelude.{ℕ, ◌≡◌, Bool, true, false, List, [], ◌∷◌, Some, None, Ok}
use Rattle.line.specs.Types.{Neighbour}
use Rattle.line.specs.declared.Message.{Message}
use Rattle.line.specs.declared.Step as declared
use Rattle.line.specs.declared.Side.TheVariants.{Left, Right}
use Rattle.line.specs.declared.Action.TheVariants.{Timeout, Deliver, Exit}
use Rattle.line.specs.Answer.{ending_number}
use Rattle.line.specs.Message.{introduction, removal}
use Rattle.line.specs.Marks.{plain}
use Rattle.line.specs.Node.{Node, Line}
use Rattle.line.specs.Run.{Run, run}
use Rattle.line.specs.Accepted.{accepted}

-- a line, a step, and what the run of this one step over the line gives: the number a crew sees, the steps done, and the line left
pub record Situation : Type 0 where
  pub before : Line
  pub step : declared.Step
  pub answer : ℕ
  pub steps : ℕ
  pub after : Line

-- the step is done: "Success is 0"
abbrev pub doing : Line → declared.Step → Line → Situation
doing before x after = record { before = before; step = x; answer = 0; steps = 1; after = after }

-- it is refused: "A refused step changes nothing at all"
abbrev pub refusing : Line → declared.Step → ℕ → Situation
refusing before x n = record { before = before; step = x; answer = n; steps = 0; after = before }

abbrev pub ran_once : Situation → Run
ran_once x = run x.before (Ok x.step ∷ [])

-- the line is accepted, and the run gives exactly that
pub record Holds (x : Situation) : Type 0 where
  pub accepts : accepted x.before ≡ true
  pub answers : ending_number (ran_once x).ending ≡ x.answer
  pub counts : (ran_once x).steps ≡ x.steps
  pub leaves : (ran_once x).line ≡ x.after

abbrev pub node : ℕ → Neighbour → Neighbour → Bool → List Message → Node
node n l r leaving b = record { station = record { number = n; left = l; right = r; marks = plain leaving }; bag = b }

abbrev pub staying : ℕ → Neighbour → Neighbour → List Message → Node
staying n l r b = node n l r false b

abbrev pub leaving : ℕ → Neighbour → Neighbour → List Message → Node
leaving n l r b = node n l r true b

-- a station with no neighbours, and its bag
abbrev pub single : ℕ → List Message → Node
single n b = staying n None None b

abbrev pub timeout_at : ℕ → declared.Step
timeout_at n = record { station = n; action = Timeout }

abbrev pub deliver_to : ℕ → Message → declared.Step
deliver_to n m = record { station = n; action = Deliver m }

abbrev pub exit_of : ℕ → declared.Step
exit_of n = record { station = n; action = Exit }

-- "Station 5 has left 3 and right 9 unless said; all named stations are present and bags that receive have room."
unfoldable pub situations : List Situation
situations =
    -- 1: introduction 7: right 7; 7 receives introduction 9
    doing (single 3 [] ∷ staying 5 (Some 3) (Some 9) (introduction 7 ∷ []) ∷ single 7 [] ∷ single 9 [] ∷ []) (deliver_to 5 (introduction 7))
    (single 3 [] ∷ staying 5 (Some 3) (Some 7) [] ∷ single 7 (introduction 9 ∷ []) ∷ single 9 [] ∷ []) ∷
    -- 2: introduction 9: one copy gone, no more
    doing (single 3 [] ∷ staying 5 (Some 3) (Some 9) (introduction 9 ∷ introduction 9 ∷ []) ∷ single 9 [] ∷ []) (deliver_to 5 (introduction 9))
    (single 3 [] ∷ staying 5 (Some 3) (Some 9) (introduction 9 ∷ []) ∷ single 9 [] ∷ []) ∷
    -- 3: introduction 12: 9 receives introduction 12
    doing (single 3 [] ∷ staying 5 (Some 3) (Some 9) (introduction 12 ∷ []) ∷ single 9 [] ∷ single 12 [] ∷ []) (deliver_to 5 (introduction 12))
    (single 3 [] ∷ staying 5 (Some 3) (Some 9) [] ∷ single 9 (introduction 12 ∷ []) ∷ single 12 [] ∷ []) ∷
    -- 4: right none, introduction 12: right 12, nothing sent
    doing (single 3 [] ∷ staying 5 (Some 3) None (introduction 12 ∷ []) ∷ single 12 [] ∷ []) (deliver_to 5 (introduction 12))
    (single 3 [] ∷ staying 5 (Some 3) (Some 12) [] ∷ single 12 [] ∷ []) ∷
    -- 5: introduction 5: one copy gone, no more
    doing (single 3 [] ∷ staying 5 (Some 3) (Some 9) (introduction 5 ∷ introduction 5 ∷ []) ∷ single 9 [] ∷ []) (deliver_to 5 (introduction 5))
    (single 3 [] ∷ staying 5 (Some 3) (Some 9) (introduction 5 ∷ []) ∷ single 9 [] ∷ []) ∷
    -- 6: staying, remove-left: 3 receives introduction 5; left none
    doing (single 3 [] ∷ staying 5 (Some 3) (Some 9) (removal Left ∷ []) ∷ single 9 [] ∷ []) (deliver_to 5 (removal Left))
    (single 3 (introduction 5 ∷ []) ∷ staying 5 None (Some 9) [] ∷ single 9 [] ∷ []) ∷
    -- 7: leaving, remove-left: one copy gone, no more
    doing (single 3 [] ∷ leaving 5 (Some 3) (Some 9) (removal Left ∷ removal Left ∷ []) ∷ single 9 [] ∷ []) (deliver_to 5 (removal Left))
    (single 3 [] ∷ leaving 5 (Some 3) (Some 9) (removal Left ∷ []) ∷ single 9 [] ∷ []) ∷
    -- 8: leaving, remove-right: 9 receives introduction 5; right none
    doing (single 3 [] ∷ leaving 5 (Some 3) (Some 9) (removal Right ∷ []) ∷ single 9 [] ∷ []) (deliver_to 5 (removal Right))
    (single 3 [] ∷ leaving 5 (Some 3) None [] ∷ single 9 (introduction 5 ∷ []) ∷ []) ∷
    -- 9: leaving, timeout: 3 receives remove-right, 9 receives remove-left
    doing (single 3 [] ∷ leaving 5 (Some 3) (Some 9) [] ∷ single 9 [] ∷ []) (timeout_at 5)
    (single 3 (removal Right ∷ []) ∷ leaving 5 (Some 3) (Some 9) [] ∷ single 9 (removal Left ∷ []) ∷ []) ∷
    -- 10: leaving, NIDEC holds, exit: 9 receives introduction 3, 3 receives introduction 9, block gone
    doing (single 3 [] ∷ leaving 5 (Some 3) (Some 9) [] ∷ single 9 [] ∷ []) (exit_of 5)
    (single 3 (introduction 9 ∷ []) ∷ single 9 (introduction 3 ∷ []) ∷ []) ∷
    -- 11: the same, but 5's bag holds a remove-left: 14
    refusing (single 3 [] ∷ leaving 5 (Some 3) (Some 9) (removal Left ∷ []) ∷ single 9 [] ∷ []) (exit_of 5) 14 ∷ []
