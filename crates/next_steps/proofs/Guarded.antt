-- A step that may happen is a candidate, and has its guard: a delivery finds its message in the bag, an exit finds the bag empty.
use mathlib.Core.Path.{◌≡◌, subst}
use mathlib.Core.Bool.{true}
use mathlib.Core.List.{Memᴰ as Member}
use Rattle.lists.proofs.Lists.{mem-map}
use Rattle.line.specs.declared.Content.{Content}
use Rattle.line.specs.declared.Content.TheVariants.{Introduction, RemoveLeft, RemoveRight}
use Rattle.line.specs.declared.Action.{Action}
use Rattle.line.specs.declared.Action.TheVariants.{Timeout, Deliver, Exit}
use Rattle.line.specs.declared.Step.{Step}
use Rattle.line.specs.Node.{Node, Line, number, numbers, Present}
use Rattle.line.specs.Links.{by_introduction}
use Rattle.line.specs.Step.{step}
use Rattle.line.specs.Cause.{BlockWith}
use Rattle.line.specs.Accepted.{Accepted}
use Rattle.line.specs.Report.{Guard}
use Rattle.line.proofs.Answers.{is_done_lem}
use Rattle.line.proofs.Report.{report_agrees}
use Rattle.next_steps.specs.Allowed.{candidates, is_allowed}
use Rattle.next_steps.proofs.Candidates.{Carries, Names, named_candidate}

module _ (line : Line) (ok : Accepted line) where
  -- a bag introduces no station without a block
  bag_carries : (s : Node) → Member s line → (c : Content) → Member (record { content = c }) s.bag → Carries (numbers line) c
  bag_carries s i (Introduction q) k = ok.known s i q (by_introduction k)
  bag_carries s i RemoveLeft k = tt
  bag_carries s i RemoveRight k = tt

  guard_names : (s : Node) → Member s line → (a : Action) → Guard line s a → Names (numbers line) a
  guard_names s i Timeout g = tt
  guard_names s i (Deliver m) g = bag_carries s i m.content g
  guard_names s i Exit g = tt

  module _ (x : Step) (h : is_allowed line x ≡ true) where
    pub allowed_guard : BlockWith line x.station (λ s. Guard line s x.action)
    allowed_guard =
        let w = is_done_lem (step line x) h in
        let f = (((report_agrees line x ok).0 w.0).0 w.1).0 in
        record { block = f.node; member = f.member; named = f.named; holds = f.guard }

    pub allowed_candidate : Member x (candidates line)
    allowed_candidate =
        let g = allowed_guard in
        named_candidate line x (subst (Present line) g.named (mem-map number g.member)) (guard_names g.block g.member x.action g.holds)
