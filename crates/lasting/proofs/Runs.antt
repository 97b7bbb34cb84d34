-- Runs: what every step keeps, a run keeps, by the one induction over runs. A line in line is in line after every run, and a run that comes to
-- its end holds no exit; and NIDEC for a station lasts where no step is at that station.
use Prim.Native.Nat.{ℕ}
use Rattle.std.specs.Prelude.{Ok, Err}
use Rattle.line.specs.Types.{Reading}
use mathlib.Core.Path.{◌≡◌}
use mathlib.Core.Logic.{◌≢◌}
use mathlib.Core.List.{List}
use mathlib.Core.List.{Memᴰ as Member}
use Rattle.line.specs.declared.Action.TheVariants.{Exit}
use Rattle.line.specs.declared.Step as declared
use Rattle.line.specs.Answer.{done}
use Rattle.line.specs.Node.{Line}
use Rattle.line.specs.Accepted.{Accepted}
use Rattle.line.specs.InLine.{InLine}
use Rattle.line.specs.Step.{step}
use Rattle.line.specs.Run.{try, run}
use Rattle.line.proofs.Answers.{refused_done}
use Rattle.line.proofs.Whole.{step_keeps_accepted}
use Rattle.line.proofs.Runs.{KeptBy, run_keeps, run_does}
use Rattle.lasting.proofs.StepsInLine.{step_in_line}
use Rattle.lasting.proofs.StepsElsewhere.{NidecAt, step_elsewhere}

-- A line between two steps is accepted. So what every step that is done keeps of an accepted line, every reading keeps.
abbrev Holding : (Line → Type 0) → Line → Type 0
Holding P line = Accepted line × P line

readings_keep : (P : Line → Type 0) (l : List Reading)
    → ((line after : Line) (x : declared.Step) → Member (Ok x) l → Accepted line → P line → step line x ≡ done after → P after)
    → KeptBy try (Holding P) l
unfolding try
readings_keep P l k a b (Ok x) m h e = (step_keeps_accepted a b x h.0 e, k a b x m h.0 h.1 e)
readings_keep P l k a b (Err r) m h e = refused_done e

-- Of an accepted line in line and any list:
module _ (line : Line) (l : List Reading) (ok : Accepted line) (lined : InLine line) where
  kept_in_line : KeptBy try (Holding InLine) l
  kept_in_line = readings_keep InLine l (λ a b x m h i e. (step_in_line a x h i e).lined)

  pub run_in_line : InLine (run line l).line
  run_in_line = (run_keeps (Holding InLine) l kept_in_line line (ok, lined)).1

  pub run_without_exit : (run line l).ending ≡ Ok tt → (x : declared.Step) → Member (Ok x) l → x.action ≢ Exit
  unfolding try
  run_without_exit e x m =
      let d = run_does (Holding InLine) l kept_in_line line (ok, lined) e (Ok x) m in
      (step_in_line d.before x d.holds.0 d.holds.1 d.does).stays

-- Of an accepted line, a station for which NIDEC holds, and a list with no step at it:
pub run_elsewhere : (line : Line) (l : List Reading) (n : ℕ) → Accepted line → NidecAt n line → ((x : declared.Step) → Member (Ok x) l → x.station ≢ n)
    → NidecAt n (run line l).line
run_elsewhere line l n ok b other =
    (run_keeps (Holding (NidecAt n)) l (readings_keep (NidecAt n) l (λ a c x m h i e. step_elsewhere n a x h i (other x m) e)) line (ok, b)).1
