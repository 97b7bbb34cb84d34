-- A `while i < n` loop of a proof by hand, counting up from 0.
--     tests    the test of a `while`, read from a local: what follows it where it holds, and how the loop is left where it does not. Each arm has the test's outcome in hand
--     counts   the loop, from `At 0`, where `At i` is the whole context after i turns. The author shows one turn from `At i` with i ≤ n: it leaves the loop, or it ends in `At (i + 1)` where i < n
-- `counts` is `types.Run`'s `loops` with n - i for the variant. Assumes `Logic`, and a `Tables`, whose table of loops is closed under a turn.
use Prim.Native.Nat.{ℕ, ◌+◌, ◌-◌, ◌≤◌, ◌<◌}
use native.Mathlib.Omega.{arith}
use mathlib.Core.Bool.{Bool, not}
use mathlib.Core.List.{List, ◌∷◌}
use mathlib.Core.WellFounded.InvImage
use seplogic.Ra.Ura.{Ura}
use lib.Dec.{T}
use lib.WfN.{lt-wf_rel}
use mir.Syntax.{Opd as Operand, Body, seq, cond, skip, exit, loop}
use mir.Val.{vbool}
use base.Logic.{SProp, ent, guard_i}
use base.Fml.{ftrue}
use prog.Wp.{exits, Env, Calls, Loops, Tables, after_turn}
use types.Logic.{Logic, sem}
use types.Kit.{Item, ‵, given, ⋆, Post, any_q, post, prop, runs, Seq, ◌$◌, use1, drop, learn}
use types.Run.{Opd, first, branches, skips, jumps, Below, again, loops}
use denote.Steps.{nothing}

module _ {M : Type 1} {𝓤 : Ura M} {𝓛 : Logic 𝓤} {K : Type 0} {E : Env 𝓤 𝓛.H} {q : Post 𝓤 𝓛.H} where
  open 𝓛 use {H}

  pub tests : K → {Γ : List (Item 𝓤)} {C : Calls 𝓤 H} {Λ : Loops 𝓤 H} {c : Operand} {n : ℕ} {b : Body} {y : Bool} → Opd K 𝓛 Γ E c (vbool y)
      → (T y → Seq K 𝓛 Γ (runs C Λ E b q)) → (T (not y) → Seq K 𝓛 Γ (prop (post 𝓤 H q (exits n)))) → Seq K 𝓛 Γ (runs C Λ E (seq (cond c skip (exit n)) b) q)
  tests t o held failed = first t $ branches t o (λ h. skips t $ record { prf = (held h).prf }) (λ f. jumps t $ record { prf = (failed f).prf })

  pub counts : K → (𝓣 : Tables 𝓤 H) (n : ℕ) (At : ℕ → List (Item 𝓤)) {b : Body}
      → ((i : ℕ) → i ≤ n → (X : SProp 𝓤) → (i < n → ent 𝓤 (⋆ 𝓛 (At (i + 1))) X) → Seq K 𝓛 (At i) (runs 𝓣.C 𝓣.Λ E b (any_q (after_turn 𝓤 H X (post 𝓤 H q)))))
      → Seq K 𝓛 (At 0) (runs 𝓣.C 𝓣.Λ E (loop b) q)
  counts t 𝓣 n At turn =
      nothing t $ use1 𝓛 (given (0 ≤ n) (‵ ftrue)) (guard_i 𝓤 (0 ≤ n) (sem 𝓛 ftrue) (omega arith)) $
      loops t 𝓣 nearer (InvImage.wf (λ (i : ℕ). n - i) lt-wf_rel.wf) Inv (λ i. learn t (λ l. drop t $ turn i l (Below 𝓛 nearer Inv i) (next i))) 0
    where
      nearer : ℕ → ℕ → Type 0
      nearer j i = n - j < n - i

      Inv : ℕ → List (Item 𝓤)
      Inv i = given (i ≤ n) (‵ ftrue) ∷ At i

      next : (i : ℕ) → i < n → ent 𝓤 (⋆ 𝓛 (At (i + 1))) (Below 𝓛 nearer Inv i)
      next i less = ended.prf
        where
          ended : Seq K 𝓛 (At (i + 1)) (prop (Below 𝓛 nearer Inv i))
          ended = nothing t $ use1 𝓛 (given (i + 1 ≤ n) (‵ ftrue)) (guard_i 𝓤 (i + 1 ≤ n) (sem 𝓛 ftrue) (omega arith)) $ again t nearer Inv i (i + 1) (omega arith)
