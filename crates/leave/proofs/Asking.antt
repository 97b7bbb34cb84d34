-- The leave question checks the table first (document 01, "The numbers a crew may see").
use Prim.Native.Nat.{ℕ}
use Rattle.std.specs.Prelude.{Result, Ok, Err}
use mathlib.Core.Path.{◌≡◌, ◌∙◌}
use mathlib.Core.List.{List}
use Rattle.line.specs.Types.{Leave}
use Rattle.line.specs.declared.Fault.{Fault}
use Rattle.line.specs.declared.Refusal.{Refusal}
use Rattle.line.specs.declared.Refused.{Refused}
use Rattle.line.specs.declared.Refused.TheVariants.{Before, Step}
use Rattle.line.specs.Answer.{refusal_number, refused_number, numbered}
use Rattle.line.specs.Step.{find}
use Rattle.table.specs.Blocks.{line_of}
use Rattle.table.specs.Index.{Inspects}
use Rattle.questions.proofs.Asking.{asked_refused, asked_accepted}
use Rattle.leave.specs.Leave.{leave_at, may_leave, LeaveTold}

module _ {t : List ℕ} (q : ℕ) where
  pub leave_refused : {f : Fault} → Inspects t (Err f) → {r : Result Leave Refused} → r ≡ Err (Before f) → numbered refused_number r ≡ may_leave t q
  unfolding may_leave
  leave_refused found e = rw e (asked_refused Err (leave_at (line_of t) (find q (line_of t))) found)

  pub leave_accepted : {index : List ℕ} → Inspects t (Ok index) → {x : LeaveTold} → x ≡ leave_at (line_of t) (find q (line_of t)) → x ≡ may_leave t q
  unfolding may_leave
  leave_accepted found e = e ∙ asked_accepted Err (leave_at (line_of t) (find q (line_of t))) found

  pub leave_unknown : {index : List ℕ} → Inspects t (Ok index) → {x : Refusal} → Err (refusal_number x) ≡ leave_at (line_of t) (find q (line_of t)) → {r : Result Leave Refused} → r ≡ Err (Step x)
      → numbered refused_number r ≡ may_leave t q
  leave_unknown found h e = rw e (leave_accepted found h)
