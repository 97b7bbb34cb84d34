-- How many messages a station has, how often others mention it, and the smallest that does, tell whether it may leave, and what holds it.
use Prim.Native.Nat.{ℕ}
use Rattle.std.specs.Prelude.{Option, Some, None, Err}
use mathlib.Core.Path.{◌≡◌, refl, sym, ◌∙◌}
use mathlib.Core.Bool.{cond}
use mathlib.Core.List.{List, [], ◌∷◌}
use native.Mathlib.Omega.{arith}
use lib.ListN.{length}
use borrow.Author.Tests.{eq-eqb, ne_eqb}
use Rattle.line.specs.declared.Message.{Message}
use Rattle.line.specs.declared.Reason.TheVariants.{OwnBag}
use Rattle.line.specs.Nidec.{is_empty}
use Rattle.line.specs.Node.{Node, Line, number}
use Rattle.line.specs.Leave.{holder_of, held_by, leave_of}
use Rattle.mentions.specs.Mentions.{mentions}
use Rattle.mentions.specs.Tally.{lowest}
use Rattle.mentions.proofs.Free.{unmentioned_exactly}
use Rattle.rolls.specs.Roll.{leave_counted}

some_held : (q : ℕ) → ◌≡◌ {A = Option ℕ} None (Some q) → ⊥
some_held q e = let w : ◌≡◌ {A = ℕ} 0 1 = cc in omega arith

pub counts_tell : (line : Line) (s : Node) → leave_counted (length s.bag) (mentions (number s) line) (lowest (holder_of (number s) line)) ≡ leave_of line s
unfolding leave_of is_empty
counts_tell line s = go s.bag (holder_of (number s) line) refl
  where
    go : (b : List Message) (o : Option ℕ) → holder_of (number s) line ≡ o → leave_counted (length b) (mentions (number s) line) (lowest o) ≡ cond (is_empty b) (held_by o) (Err OwnBag)
    go [] None e = rw (eq-eqb (mentions (number s) line) 0 ((unmentioned_exactly line (number s)).1 e))
    go [] (Some q) e = rw (ne_eqb (mentions (number s) line) 0 (λ z. some_held q (sym ((unmentioned_exactly line (number s)).0 z) ∙ e)))
    go (m ∷ b) o e = rw (ne_eqb (length (m ∷ b)) 0 (λ z. omega arith))
