-- A station that others mention is held, and one that nobody mentions is not (the statements are in specs/Claims.antt).
use Prim.Native.Nat.{ℕ, ◌+◌}
use Rattle.std.specs.Prelude.{Option, Some, None, Ok, Err}
use mathlib.Core.Path.{◌≡◌, refl, sym, ◌∙◌}
use mathlib.Core.Bool.{Bool, true, false, cond, not, ◌&&◌, ◌||◌}
use mathlib.Core.List.{List, [], ◌∷◌}
use native.Mathlib.Omega.{arith}
use lib.Dec.{eqb, ltb}
use borrow.Author.Tests.{lt-ltb, le-ltb, ltb-false}
use Rattle.lists.specs.Lists.{any, count}
use Rattle.line.specs.Types.{Leave}
use Rattle.line.specs.declared.Message.{Message}
use Rattle.line.specs.declared.Reason.{Reason}
use Rattle.line.specs.Message.{introduction, same}
use Rattle.line.specs.Nidec.{is_neighbour, names, is_empty}
use Rattle.line.specs.Node.{Node, Line, number}
use Rattle.line.specs.Leave.{is_holder, smaller, holder_of, leave_of}
use Rattle.line.proofs.LeaveTest.{leave_tested}
use Rattle.mentions.specs.Mentions.{once, mentions_by, mentions}
use Rattle.mentions.specs.Claims.{FreeExactly, UnmentionedExactly}

-- some element passes where one is counted
any_counted : {A : Type 0} (f : A → Bool) (l : List A) → any f l ≡ ltb 0 (count f l)
unfolding any count
any_counted f [] = refl
any_counted f (x ∷ l) = go (f x) (any_counted f l)
  where
    go : (b : Bool) → any f l ≡ ltb 0 (count f l) → (b || any f l) ≡ ltb 0 (cond b 1 0 + count f l)
    go true e = sym (lt-ltb 0 (1 + count f l) (omega arith))
    go false e = let z : 0 + count f l ≡ count f l = omega arith in rw z e

-- a station holds p where it mentions p
holder_mentions : (p : ℕ) (s : Node) → is_holder p s ≡ ltb 0 (mentions_by p s)
unfolding names mentions_by
holder_mentions p s = go (eqb (number s) p) (is_neighbour p s.station.left) (is_neighbour p s.station.right) (any_counted (same (introduction p)) s.bag)
  where
    go : (t l r : Bool) → any (same (introduction p)) s.bag ≡ ltb 0 (count (same (introduction p)) s.bag)
        → (not t && (l || (r || any (same (introduction p)) s.bag))) ≡ ltb 0 (cond t 0 (once l + once r + count (same (introduction p)) s.bag))
    go true l r e = refl
    go false true r e = sym (lt-ltb 0 (1 + once r + count (same (introduction p)) s.bag) (omega arith))
    go false false true e = sym (lt-ltb 0 (0 + 1 + count (same (introduction p)) s.bag) (omega arith))
    go false false false e = let z : 0 + 0 + count (same (introduction p)) s.bag ≡ count (same (introduction p)) s.bag = omega arith in rw z e

module _ (p : ℕ) where
  unmentioned : (line : Line) → mentions p line ≡ 0 → holder_of p line ≡ None
  unfolding mentions holder_of
  unmentioned [] h = refl
  unmentioned (s ∷ line) h = rw (holder_mentions p s, le-ltb 0 (mentions_by p s) (omega arith)) (unmentioned line (omega arith))

  nobody_holds : (line : Line) → holder_of p line ≡ None → mentions p line ≡ 0
  unfolding mentions holder_of
  nobody_holds [] h = refl
  nobody_holds (s ∷ line) h = go (ltb 0 (mentions_by p s)) refl (holder_of p line) refl (rw (holder_mentions p s) at h) (nobody_holds line)
    where
      go : (b : Bool) → ltb 0 (mentions_by p s) ≡ b → (o : Option ℕ) → holder_of p line ≡ o → smaller b (number s) o ≡ None → (holder_of p line ≡ None → mentions p line ≡ 0)
          → mentions_by p s + mentions p line ≡ 0
      go true e None f k rest = cc
      go true e (Some q) f k rest = cc
      go false e o f k rest = omega (arith, ltb-false 0 (mentions_by p s) e, rest (f ∙ k))

pub unmentioned_exactly : UnmentionedExactly
unmentioned_exactly line p = (unmentioned p line, nobody_holds p line)

-- what holds a station is no yes
held_may : {why : Reason} → ◌≡◌ {A = Leave} (Err why) (Ok tt) → ⊥
held_may e = let w : ◌≡◌ {A = ℕ} 0 1 = cc in omega arith

pub free_exactly : FreeExactly
unfolding leave_of is_empty
free_exactly line s = (λ n. go s.bag refl (holder_of (number s) line) refl ((leave_tested line s (Ok tt)).1 n), λ h. (leave_tested line s (Ok tt)).0 (rw (h.0, unmentioned (number s) line h.1)))
  where
    go : (b : List Message) → s.bag ≡ b → (o : Option ℕ) → holder_of (number s) line ≡ o → leave_of line s ≡ Ok tt → (s.bag ≡ []) × (mentions (number s) line ≡ 0)
    go [] e None f k = (e, nobody_holds (number s) line f)
    go [] e (Some q) f k = absurd (held_may (rw (e, f) at k))
    go (m ∷ b) e o f k = absurd (held_may (rw e at k))
