-- A question checks the table first (document 01, "The numbers a crew may see"): the number of the check, or what an accepted table says.
use Prim.Native.Nat.{ℕ}
use Rattle.std.specs.Prelude.{Result, Ok, Err}
use mathlib.Core.Path.{◌≡◌, refl, sym, ap, ◌∙◌}
use mathlib.Core.Bool.{Bool, true, false}
use mathlib.Core.List.{List}
use borrow.Author.Tests.{ne_eqb}
use Rattle.line.specs.declared.Fault.{Fault}
use Rattle.line.specs.Answer.{fault_number, numbered}
use Rattle.line.proofs.Answers.{no_fault}
use Rattle.line.specs.InLine.{in_line}
use Rattle.table.specs.Blocks.{line_of}
use Rattle.table.specs.Index.{Inspects}
use Rattle.table.proofs.Lines.{inspected_clean, inspected_refused}
use Rattle.questions.specs.Told.{yes_no, asked, is_in_line}
use Rattle.questions.proofs.Meanings.{answered}

told_yes_no : (b : Bool) → Ok b ≡ yes_no b
told_yes_no true = refl
told_yes_no false = refl

-- of any question, x what an accepted table answers
module _ {A : Type 0} {t : List ℕ} (refuse : ℕ → A) (x : A) where
  pub asked_refused : {f : Fault} → Inspects t (Err f) → refuse (fault_number f) ≡ asked t refuse x
  asked_refused {f} found = rw (inspected_refused found, ne_eqb (fault_number f) 0 (no_fault f))

  pub asked_accepted : {index : List ℕ} → Inspects t (Ok index) → x ≡ asked t refuse x
  asked_accepted found = sym (answered t refuse x (inspected_clean found))

-- whether the table is in line
module _ {t : List ℕ} where
  pub line_refused : {f : Fault} → Inspects t (Err f) → {r : Result Bool Fault} → r ≡ Err f → numbered fault_number r ≡ is_in_line t
  unfolding is_in_line
  line_refused found e = rw e (asked_refused Err (yes_no (in_line (line_of t))) found)

  pub line_accepted : {index : List ℕ} → Inspects t (Ok index) → {x : Bool} → x ≡ in_line (line_of t) → Ok x ≡ is_in_line t
  unfolding is_in_line
  line_accepted found {x} e = told_yes_no x ∙ ap yes_no e ∙ asked_accepted Err (yes_no (in_line (line_of t))) found
