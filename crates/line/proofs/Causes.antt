-- A step is refused with a number exactly when there is that number's cause.
use mathlib.Core.Path.{◌≡◌, refl, sym, ◌∙◌, ap, subst}
use Rattle.std.specs.Prelude.{Err}
use mathlib.Core.Logic.{⊎_elim}
use mathlib.Core.Bool.{true, false}
use mathlib.Core.List.{Memᴰ as Member}
use Prim.Native.Nat.{ℕ}
use native.Mathlib.Omega.{arith}
use lib.ListN.{length}
use borrow.Author.Tests.{ltb-false, ltb-true}
use Rattle.line.specs.declared.Message.{Message}
use Rattle.line.specs.declared.Action.{Action}
use Rattle.line.specs.declared.Action.TheVariants.{Timeout, Deliver, Exit}
use Rattle.line.specs.declared.Step.{Step}
use Rattle.line.specs.declared.Refusal.{Refusal}
use Rattle.line.specs.declared.Refusal.TheVariants.{Malformed, Absent, NotInBag, Staying, Held, Full}
use Rattle.lists.specs.Lists.{all}
use Rattle.lists.proofs.Lists.{clash, fails, all_true, all_false}
use Rattle.line.specs.Answer.{refused, done, ◌>>=◌}
use Rattle.line.specs.Message.{holds, capacity}
use Rattle.line.specs.Node.{Node, Line, number, leaving, Present}
use Rattle.line.specs.Leave.{Why, leave_of}
use Rattle.line.specs.Act.{Send, Effect, act}
use Rattle.line.specs.Step.{find, has_room, commit, step}
use Rattle.line.specs.Accepted.{Accepted}
use Rattle.line.specs.Cause.{BlockWith, Cause}
use Rattle.line.specs.Claims.{RefusedExactly}
use Rattle.line.proofs.Answers.{refused_done, bound_refused, after_done, after_refused, require_true, require_false, required_refused, may_not, unheld_refused}
use Rattle.line.proofs.Messages.{held_mem, mem_held}
use Rattle.line.proofs.LeaveTest.{leave_tested}
use Rattle.line.proofs.Changes.{found, present_found, member_found, find_nowhere, room_true, room_false}

module _ (line : Line) (ok : Accepted line) where
  -- the cause of a refusal at the station's block s
  abbrev CauseAt : Node → Action → Refusal → Type 0
  CauseAt s a Malformed = ⊥
  CauseAt s a Absent = ⊥
  CauseAt s a NotInBag = (m : Message) × (a ≡ Deliver m) × ¬ Member m s.bag
  CauseAt s a Staying = (a ≡ Exit) × (leaving s ≡ false)
  CauseAt s a (Held why) = (a ≡ Exit) × (leaving s ≡ true) × Why line s why
  CauseAt s a Full =
      (e : Effect) × (act (leave_of line s) s a ≡ done e)
      × (m : Send) × Member m e.sends × BlockWith line m.to (λ t. length t.bag ≡ capacity)

  -- what the station does by itself
  act_refuses : (s : Node) (a : Action) {r : Refusal} → act (leave_of line s) s a ≡ refused r → CauseAt s a r
  unfolding act
  act_refuses s Timeout e = refused_done (sym e)
  act_refuses s (Deliver m) e =
      ⊎_elim (λ w. subst (CauseAt s (Deliver m)) w.1 (m, refl, λ k. clash (mem_held m k) w.0)) (λ w. refused_done (sym w.1))
      (required_refused (holds m s.bag) NotInBag e)
  act_refuses s Exit e =
      ⊎_elim (λ w. subst (CauseAt s Exit) w.1 (refl, w.0))
      (λ w. ⊎_elim (λ v. subst (CauseAt s Exit) v.2 (refl, w.0, (leave_tested line s (Err v.0)).0 v.1)) (λ v. refused_done (sym v.1))
      (unheld_refused (leave_of line s) w.1))
      (required_refused (leaving s) Staying e)

  -- what the receivers do to it
  commit_refuses : (n : ℕ) (e : Effect) {r : Refusal} → commit line n e ≡ refused r
      → (Full ≡ r) × (m : Send) × Member m e.sends × BlockWith line m.to (λ t. length t.bag ≡ capacity)
  unfolding commit
  commit_refuses n e h =
      ⊎_elim (λ w.
      let v = all_false (has_room line) e.sends w.0 in
      let u = room_false v.0 line v.2 in (
        w.1,
        v.0,
        v.1,
        record { block = u.0; member = u.1; named = u.2; holds = omega (arith, ltb-false (length u.0.bag) capacity u.3, ok.small u.0 u.1) },
      ))
      (λ w. refused_done (sym w.1)) (required_refused (all (has_room line) e.sends) Full h)

  refused_at : (s : Node) (a : Action) {r : Refusal} → (act (leave_of line s) s a >>= commit line (number s)) ≡ refused r → CauseAt s a r
  refused_at s a h =
      ⊎_elim (act_refuses s a) (λ w. let v = commit_refuses (number s) w.0 w.2 in subst (CauseAt s a) v.0 (w.0, w.1, v.1, v.2, v.3))
      (bound_refused (act (leave_of line s) s a) (commit line (number s)) h)

  -- a cause has its effect
  act_refused : (s : Node) (a : Action) (r : Refusal) → act (leave_of line s) s a ≡ refused r → (act (leave_of line s) s a >>= commit line (number s)) ≡ refused r
  act_refused s a r = after_refused (commit line (number s))

  at_refused : (s : Node) (a : Action) (r : Refusal) → CauseAt s a r → (act (leave_of line s) s a >>= commit line (number s)) ≡ refused r
  unfolding act commit
  at_refused s a Malformed c = elim c [ ]
  at_refused s a Absent c = elim c [ ]
  at_refused s a NotInBag c =
      act_refused s a NotInBag
      (ap (act (leave_of line s) s) c.1 ∙ require_false (holds c.0 s.bag) NotInBag _ (fails (holds c.0 s.bag) (λ t. c.2 (held_mem c.0 s.bag t))))
  at_refused s a Staying c = act_refused s a Staying (ap (act (leave_of line s) s) c.0 ∙ require_false (leaving s) Staying _ c.1)
  at_refused s a (Held why) c =
      act_refused s a (Held why)
      (ap (act (leave_of line s) s) c.0 ∙ require_true (leaving s) Staying _ c.1
      ∙ may_not why _ ((leave_tested line s (Err why)).1 c.2))
  at_refused s a Full c =
      let t = c.4 in
      let room : has_room line c.2 ≡ true → ⊥ = λ h. omega (arith, ltb-true (length t.block.bag) capacity (room_true c.2 line h t.block t.member t.named), t.holds) in
      after_done (commit line (number s)) c.1
      ∙ require_false (all (has_room line) c.0.sends) Full _ (fails (all (has_room line) c.0.sends) (λ h. room (all_true (has_room line) h c.3)))

  module _ (x : Step) where
    acted : {s : Node} → find x.station line ≡ done s → step line x ≡ (act (leave_of line s) s x.action >>= commit line (number s))
    unfolding step
    acted e = after_done _ e

    at_block : (r : Refusal) {s : Node} → Member s line → number s ≡ x.station → CauseAt s x.action r → Cause line x r
    at_block Malformed {s = s} m e c = elim c [ ]
    at_block Absent {s = s} m e c = elim c [ ]
    at_block NotInBag m e c = record { block = _; member = m; named = e; holds = c }
    at_block Staying m e c = record { block = _; member = m; named = e; holds = c }
    at_block (Held why) m e c = record { block = _; member = m; named = e; holds = c }
    at_block Full m e c = record { block = _; member = m; named = e; holds = c }

    absent : {r : Refusal} → find x.station line ≡ refused r → Cause line x r
    absent {r} e = subst (Cause line x) same nowhere
      where
        nowhere : ¬ Present line x.station
        nowhere m = refused_done (sym e ∙ (present_found x.station line m).1)

        same : Absent ≡ r
        same = let z = sym (find_nowhere x.station line nowhere) ∙ e in cc

    caused : (r : Refusal) → step line x ≡ refused r → Cause line x r
    unfolding step
    caused r e =
        ⊎_elim absent (λ w. let f = found x.station line w.1 in at_block r f.0 f.1 (refused_at w.0 x.action w.2))
        (bound_refused (find x.station line) _ e)

    here_refused : (r : Refusal) (P : Node → Type 0) → ((s : Node) → P s → CauseAt s x.action r) → BlockWith line x.station P → step line x ≡ refused r
    here_refused r P f c = acted (member_found x.station line ok.distinct c.member c.named) ∙ at_refused c.block x.action r (f c.block c.holds)

    effect_of : (r : Refusal) → Cause line x r → step line x ≡ refused r
    unfolding step
    effect_of Malformed c = absurd c
    effect_of Absent c = after_refused _ (find_nowhere x.station line c)
    effect_of NotInBag c = here_refused NotInBag _ (λ s h. h) c
    effect_of Staying c = here_refused Staying _ (λ s h. h) c
    effect_of (Held why) c = here_refused (Held why) _ (λ s h. h) c
    effect_of Full c = here_refused Full _ (λ s h. h) c

pub refused_exactly : RefusedExactly
refused_exactly line x r ok = (caused line ok x r, effect_of line ok x r)
