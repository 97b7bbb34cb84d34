-- Two receivers agree: alike tables have one line, so one list; two rooms of one length are both long enough for it or neither is.
use Prim.Native.Nat.{ℕ, ◌*◌}
use mathlib.Core.Path.{◌≡◌, refl, sym, ap, ◌∙◌}
use mathlib.Core.Bool.{Bool, true, false, cond}
use mathlib.Core.List.{List, ◌++◌}
use lib.Dec.{leb}
use lib.ListN.{length, take, drop}
use lib.Seq.{take_at}
use Rattle.lists.specs.Lists.{keep}
use Rattle.line.specs.declared.Step.{Step}
use Rattle.line.specs.Node.{Line}
use Rattle.table.specs.Blocks.{line_of}
use Rattle.table.proofs.Accepting.{alike_tables}
use Rattle.steps.specs.Steps.{list_bytes}
use Rattle.steps.proofs.Records.{list_size}
use Rattle.filling.specs.Filled.{Filling, filled_with, refused_with}
use Rattle.next_steps.specs.Allowed.{candidates, is_allowed, allowed_steps, allowed_in}
use Rattle.next_steps.specs.Claims.{SameFilling, AlikeListed}

same_steps : (t u : List ℕ) → line_of t ≡ line_of u → allowed_steps t ≡ allowed_steps u
unfolding allowed_steps
same_steps t u e = ap (λ (line : Line). keep (is_allowed line) (candidates line)) e

-- one list in rooms of one length
same_filling : (l : List Step) (room room' : List ℕ) → length room ≡ length room'
    → SameFilling (filled_with (length l) (list_bytes l) room) (filled_with (length l) (list_bytes l) room')
unfolding filled_with
same_filling l room room' h = rw h (go (leb (length (list_bytes l)) (length room')))
  where
    filled : List ℕ → Filling ℕ
    filled r = record { answer = 0; filled = length l; room = list_bytes l ++ drop (length (list_bytes l)) r }

    begins : (r : List ℕ) → take (12 * length l) (list_bytes l ++ drop (length (list_bytes l)) r) ≡ list_bytes l
    begins r = take_at (list_bytes l) (drop (length (list_bytes l)) r) (12 * length l) (list_size l)

    go : (b : Bool) → SameFilling (cond b (filled room) (refused_with 9 room)) (cond b (filled room') (refused_with 9 room'))
    go true = record { answer = refl; filled = refl; written = begins room ∙ sym (begins room') }
    go false = record { answer = refl; filled = refl; written = refl }

pub alike_listed : AlikeListed
unfolding allowed_in
alike_listed t u room room' h k a e = rw (h, k, same_steps t u (alike_tables t u h k a)) (same_filling (allowed_steps u) room room' e)
