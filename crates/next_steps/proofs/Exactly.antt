-- In the list stand exactly the steps that a run accepts as its first.
use Prim.Native.Nat.{ℕ}
use mathlib.Core.Path.{◌≡◌, refl, sym, ap, subst, ◌∙◌}
use mathlib.Core.Bool.{Bool, true, false, cond}
use mathlib.Core.List.{List, ◌++◌}
use mathlib.Core.List.{Memᴰ as Member}
use native.Mathlib.Omega.{arith}
use lib.Dec.{eqb, leb}
use lib.ListN.{length, drop, get_or}
use borrow.Author.Tests.{eqb-true, eq-eqb}
use Rattle.lists.proofs.Lists.{clash}
use Rattle.lists.proofs.Elements.{member_at, member_place}
use Rattle.lists.proofs.Keeping.{kept_mem, mem_kept}
use Rattle.line.specs.declared.Action.TheVariants.{Timeout}
use Rattle.line.specs.declared.Step as declared
use Rattle.octets.specs.Bytes.{AreBytes}
use Rattle.table.specs.Blocks.{line_of}
use Rattle.table.specs.Fault.{fault_of}
use Rattle.table.proofs.Accepting.{table_accepted}
use Rattle.steps.specs.Steps.{step_at, step_bytes, list_bytes}
use Rattle.steps.proofs.Records.{list_at}
use Rattle.steps.proofs.ReadBack.{step_reads_back, step_written_back}
use Rattle.filling.specs.Filled.{Filling, filled_with, refused_with}
use Rattle.next_steps.specs.Allowed.{candidates, is_allowed, allowed_steps, allowed_in}
use Rattle.next_steps.specs.Claims.{Stands, ListedExactly}
use Rattle.next_steps.proofs.Guarded.{allowed_candidate}
use Rattle.next_steps.proofs.WellFormed.{candidate_holds}
use Rattle.next_steps.proofs.OneStep.{ReadDone, one_accepted}

-- a list that was filled is that of an accepted table, and begins the room
module _ (t lent : List ℕ) where
  abbrev bytes : List ℕ
  bytes = list_bytes (allowed_steps t)

  abbrev rest : List ℕ
  rest = drop (length bytes) lent

  abbrev whole : Filling ℕ
  whole = record { answer = 0; filled = length (allowed_steps t); room = bytes ++ rest }

  filled_is : (allowed_in t lent).answer ≡ 0 → (fault_of t ≡ 0) × (allowed_in t lent ≡ whole)
  unfolding allowed_in filled_with
  filled_is h = go (eqb (fault_of t) 0) refl (leb (length bytes) (length lent)) h
    where
      go : (b : Bool) → eqb (fault_of t) 0 ≡ b → (c : Bool) → (cond b (cond c whole (refused_with 9 lent)) (refused_with (fault_of t) lent)).answer ≡ 0
          → (fault_of t ≡ 0) × (cond b (cond c whole (refused_with 9 lent)) (refused_with (fault_of t) lent) ≡ whole)
      go true e true h = (eqb-true (fault_of t) 0 e, refl)
      go true e false h = absurd (omega arith)
      go false e c h = clash (eq-eqb (fault_of t) 0 h) e

-- what is read past the end of a list of steps
no_step : declared.Step
no_step = record { station = 0; action = Timeout }

module _ (t x lent : List ℕ) (clean : fault_of t ≡ 0) where
  -- a member of the list is written so that it reads back
  listed_done : Stands x (whole t lent) → ReadDone (line_of t) (step_at x 0)
  unfolding allowed_steps
  listed_done w =
      let y = get_or (allowed_steps t) w.place no_step in
      let m = kept_mem (is_allowed (line_of t)) (candidates (line_of t)) (member_at (allowed_steps t) w.place no_step w.within) in
      let e : step_bytes y ≡ x = sym (list_at (allowed_steps t) (rest t lent) w.place no_step w.within) ∙ w.is in
      (y, ap (λ (l : List ℕ). step_at l 0) (sym e) ∙ step_reads_back y (candidate_holds (line_of t) (table_accepted t clean).1 m.0), m.1)

  -- and what reads as a step that may happen is what that member is written as
  done_listed : AreBytes x → length x ≡ 12 → ReadDone (line_of t) (step_at x 0) → Stands x (whole t lent)
  unfolding allowed_steps
  done_listed b n w =
      let y = w.0 in
      let m : Member y (allowed_steps t) = mem_kept (is_allowed (line_of t)) (candidates (line_of t)) (allowed_candidate (line_of t) (table_accepted t clean).1 y w.2) w.2 in
      let p = member_place no_step m in
      record {
        place = p.0;
        within = p.1;
        is = list_at (allowed_steps t) (rest t lent) p.0 no_step p.1 ∙ ap step_bytes p.2 ∙ (step_written_back x y b n w.1).1;
      }

pub listed_exactly : ListedExactly
listed_exactly t x lent room h b n fits =
    let f = filled_is t lent h in
    let o = one_accepted t x room f.0 n fits in
    (λ s. o.1 (listed_done t x lent f.0 (subst (Stands x) f.1 s)), λ e. subst (Stands x) (sym f.1) (done_listed t x lent f.0 b n (o.0 e)))
