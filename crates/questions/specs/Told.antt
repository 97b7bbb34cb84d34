-- The questions (document 01, "What the engine holds" and "The numbers a crew may see"; document 02, T-04).
use Rattle.std.specs.Prelude.{ℕ, Bool, true, false, cond, List, eqb, Result, Ok, Err}
use Rattle.line.specs.InLine.{in_line}
use Rattle.table.specs.Blocks.{line_of}
use Rattle.table.specs.Fault.{fault_of}

-- yes or no, or the number of a refusal
abbrev pub Told : Type 0
Told = Result Bool ℕ

-- the number and the value of each case: "At 0 a question returns yes or no as well"; beside a refusal the value is 0
abbrev pub told_number : Told → ℕ
told_number (Err n) = n
told_number (Ok true) = 0
told_number (Ok false) = 0

abbrev pub told_yes : Told → ℕ
told_yes (Err n) = 0
told_yes (Ok true) = 1
told_yes (Ok false) = 0

abbrev pub yes_no : Bool → Told
yes_no true = Ok true
yes_no false = Ok false

-- "A question checks the table first (1 to 7)": what an accepted table answers, and how a number is refused
abbrev pub asked : {A : Type 0} → List ℕ → (ℕ → A) → A → A
asked table refuse a = cond (eqb (fault_of table) 0) a (refuse (fault_of table))

-- "ask whether the table is in line", which is what document 02, T-04, makes it
unfoldable pub is_in_line : List ℕ → Told
is_in_line table = asked table Err (yes_no (in_line (line_of table)))
