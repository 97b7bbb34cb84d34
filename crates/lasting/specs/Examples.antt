-- Worked examples of In line (document 02, T-04): lines in line, and lines that are not for one cause alone.
use Rattle.std.specs.Prelude.{◌≡◌, Bool, true, false, ◌&&◌, List, [], ◌∷◌, Some, None}
use Rattle.line.specs.declared.Side.TheVariants.{Left, Right}
use Rattle.line.specs.Message.{introduction, removal}
use Rattle.line.specs.Node.{Line}
use Rattle.line.specs.Accepted.{accepted}
use Rattle.line.specs.InLine.{NeighboursInLine, Quiet, AllStay, InLine}
use Rattle.line.specs.Situations.{staying, leaving, single}

-- a statement holds, or it does not
abbrev pub Says : Bool → Type 0 → Type 0
Says true P = P
Says false P = ¬ P

-- A line, and which of the three conditions hold of it.
pub record InLineExample : Type 0 where
  pub line : Line
  pub neighbours : Bool
  pub quiet : Bool
  pub staying : Bool

-- in line where all three hold
abbrev pub is_lined : InLineExample → Bool
is_lined x = x.neighbours && (x.quiet && x.staying)

-- The line is accepted, each condition holds or does not, and it is in line exactly where all three hold.
pub record ShowsInLine (x : InLineExample) : Type 0 where
  pub accepts : accepted x.line ≡ true
  pub neighbours : Says x.neighbours (NeighboursInLine x.line)
  pub quiet : Says x.quiet (Quiet x.line)
  pub staying : Says x.staying (AllStay x.line)
  pub in_line_lem : Says (is_lined x) (InLine x.line)

-- "Introductions may still wait": of a neighbour, of a station farther on, of the station itself, and in copies
abbrev pub introductions_wait : InLineExample
introductions_wait = record {
  line =
      staying 3 None (Some 5) (introduction 5 ∷ introduction 9 ∷ []) ∷
      staying 5 (Some 3) (Some 9) (introduction 5 ∷ []) ∷
      staying 9 (Some 5) None (introduction 3 ∷ introduction 3 ∷ []) ∷ [];
  neighbours = true;
  quiet = true;
  staying = true;
}

unfoldable pub in_line_examples : List InLineExample
in_line_examples =
    -- "The empty table is in line."
    record { line = []; neighbours = true; quiet = true; staying = true } ∷
    introductions_wait ∷
    -- the neighbours alone: a left missing, a right missing, a station that its neighbours pass over
    record {
      line = staying 3 None (Some 5) [] ∷ staying 5 None (Some 9) [] ∷ staying 9 (Some 5) None [] ∷ [];
      neighbours = false;
      quiet = true;
      staying = true;
    } ∷
    record {
      line = staying 3 None (Some 5) [] ∷ staying 5 (Some 3) None [] ∷ staying 9 (Some 5) None [] ∷ [];
      neighbours = false;
      quiet = true;
      staying = true;
    } ∷
    record {
      line = staying 3 None (Some 9) [] ∷ staying 5 (Some 3) (Some 9) [] ∷ staying 9 (Some 3) None [] ∷ [];
      neighbours = false;
      quiet = true;
      staying = true;
    } ∷
    -- a removal alone: a remove-left behind two introductions, a remove-right where there is no right to remove
    record {
      line =
          staying 3 None (Some 5) [] ∷
          staying 5 (Some 3) (Some 9) (introduction 3 ∷ introduction 9 ∷ removal Left ∷ []) ∷
          staying 9 (Some 5) None [] ∷ [];
      neighbours = true;
      quiet = false;
      staying = true;
    } ∷
    record { line = single 5 (removal Right ∷ []) ∷ []; neighbours = true; quiet = false; staying = true } ∷
    -- a leaving station alone, among others and by itself
    record {
      line = staying 3 None (Some 5) [] ∷ staying 5 (Some 3) (Some 9) [] ∷ leaving 9 (Some 5) None [] ∷ [];
      neighbours = true;
      quiet = true;
      staying = false;
    } ∷
    record { line = leaving 5 None None [] ∷ []; neighbours = true; quiet = true; staying = false } ∷ []
