-- The candidates of an accepted line are well-formed: every number that they carry is that of a station with a block.
use Prim.Native.Nat.{ℕ, ◌≤◌}
use mathlib.Core.Path.{◌≡◌, refl, sym, subst}
use mathlib.Core.Bool.{true}
use mathlib.Core.List.{Memᴰ as Member}
use Rattle.lists.proofs.Lists.{both_and}
use Rattle.line.specs.declared.Content.{Content}
use Rattle.line.specs.declared.Content.TheVariants.{Introduction, RemoveLeft, RemoveRight}
use Rattle.line.specs.declared.Action.{Action}
use Rattle.line.specs.declared.Action.TheVariants.{Timeout, Deliver, Exit}
use Rattle.line.specs.declared.Step.{Step}
use Rattle.line.specs.Node.{Line, numbers, Present}
use Rattle.line.specs.Accepted.{Accepted, in_range}
use Rattle.line.proofs.AcceptedTest.{in_range_lem}
use Rattle.line.proofs.Changes.{node_of_lem}
use Rattle.steps.specs.Claims.{content_holds, action_holds, well_formed}
use Rattle.next_steps.specs.Allowed.{candidates}
use Rattle.next_steps.proofs.Candidates.{Carries, Names, candidate_names}

module _ (line : Line) (ok : Accepted line) where
  number_holds : {n : ℕ} → Present line n → in_range n ≡ true
  number_holds {n} p =
      let w = node_of_lem line p in
      (in_range_lem n).1 (subst (λ (k : ℕ). (1 ≤ k) × (k ≤ 999999)) (sym w.2) (ok.ranged w.0 w.1))

  content_holds_lem : (c : Content) → Carries (numbers line) c → content_holds c ≡ true
  content_holds_lem (Introduction q) h = number_holds h
  content_holds_lem RemoveLeft h = refl
  content_holds_lem RemoveRight h = refl

  action_holds_lem : (a : Action) → Names (numbers line) a → action_holds a ≡ true
  action_holds_lem Timeout h = refl
  action_holds_lem (Deliver m) h = content_holds_lem m.content h
  action_holds_lem Exit h = refl

  pub candidate_holds : {x : Step} → Member x (candidates line) → well_formed x ≡ true
  candidate_holds {x} k = let w = candidate_names line k in both_and (number_holds w.0) (action_holds_lem x.action w.1)
