-- A view gives its blocks in stored order, then the end, and the end again: what is left of a walk is the blocks from its position on.
use Prim.Native.Nat.{ℕ, zero, suc, ◌+◌, ◌/◌, ◌≤◌}
use native.Mathlib.Nat.{suc-add, zero-add}
use native.Mathlib.Omega.{arith}
use mathlib.Core.Path.{◌≡◌, refl, ap, ◌∙◌}
use mathlib.Core.Bool.{Bool, true, false, cond}
use mathlib.Core.List.{List, [], ◌++◌}
use lib.Dec.{eqb}
use lib.ListN.{length, drop, replicate}
use borrow.Author.Tests.{eq-eqb, ne_eqb, ltb-true}
use Rattle.table.specs.Blocks.{block_at, blocks}
use Rattle.table.specs.Fault.{fault_of}
use Rattle.table.proofs.BlockLaws.{blocks_from, blocks_end}
use Rattle.view.specs.View.{shown, has_block, block_or_end, block_offset, viewed, moved, walked}
use Rattle.view.specs.declared.View.{View}
use Rattle.view.specs.Claims.{AcceptedWalked, RefusedWalked, OffsetLeads}
use Rattle.view.proofs.Sight.{shown_block, shown_end, next_block, next_end}

-- at the end the end comes again
ends : (v : View) (n : ℕ) → length v.table.now / 512 ≤ v.position → walked v n ≡ replicate n []
unfolding walked
ends v zero h = refl
ends v (suc n) h = rw (shown_end v.table.now v.position h, ends (moved v) n (rw (next_end v.table.now v.position h) h))

-- k blocks are left
goes : (v : View) (k n : ℕ) → v.position + k ≡ length v.table.now / 512 → walked v (k + n) ≡ drop v.position (blocks v.table.now) ++ replicate n []
unfolding walked
goes v zero n e = rw (zero-add n, blocks_end v.table.now v.position (omega arith), ends v n (omega arith))
goes v (suc k) n e =
    rw (suc-add k n, shown_block v.table.now v.position (omega arith), goes (moved v) k n moves, next_block v.table.now v.position (omega arith), blocks_from v.table.now v.position (omega arith))
  where
    moves : (moved v).position + k ≡ length v.table.now / 512
    moves = rw (next_block v.table.now v.position (omega arith)) (omega arith)

pub accepted_walked : AcceptedWalked
unfolding shown
accepted_walked s v n o h = rw (← whole_table) (goes v (length v.table.now / 512) n first ∙ ap (λ (p : ℕ). drop p (blocks v.table.now) ++ replicate n []) o.3)
  where
    whole_table : v.table.now ≡ s.now
    whole_table = o.1 ∙ rw (eq-eqb (fault_of s.now) 0 h)

    first : v.position + length v.table.now / 512 ≡ length v.table.now / 512
    first = rw o.3 (zero-add _)

pub refused_walked : RefusedWalked
unfolding shown
refused_walked s v n o h = ends v n (rw none (omega arith))
  where
    none : v.table.now ≡ []
    none = o.1 ∙ rw (ne_eqb (fault_of s.now) 0 h)

-- a view that has a block holds the whole table
whole : (t : List ℕ) (p : ℕ) (b : Bool) → has_block (cond b t []) p ≡ true → cond b t [] ≡ t
unfolding has_block
whole t p true h = refl
whole t p false h = absurd (omega (arith, ltb-true p (length {A = ℕ} [] / 512) h))

pub offset_leads : OffsetLeads
unfolding viewed block_offset block_or_end block_at shown
offset_leads t p h = rw (h, whole t p (eqb (fault_of t) 0) h)
