-- "block order plays no part": what is made of the blocks one by one, in a way that does not mind two of them changing places, is the
-- same in every order.
use mathlib.Core.Path.{◌≡◌, refl, sym, ap, ◌∙◌}
use Rattle.std.specs.Prelude.{Some, None}
use Rattle.line.specs.Types.{Neighbour}
use mathlib.Core.Bool.{Bool, true, false, cond, ◌&&◌, ◌||◌}
use mathlib.Core.List.{List, [], ◌∷◌, map}
use Prim.Native.Nat.{ℕ, ◌+◌}
use native.Mathlib.Omega.{arith}
use lib.Dec.{eqb}
use Rattle.line.specs.declared.Content.{Content}
use Rattle.line.specs.declared.Content.TheVariants.{Introduction, RemoveLeft, RemoveRight}
use Rattle.line.specs.declared.Message.{Message}
use Rattle.lists.specs.Lists.{all, any, count}
use Rattle.line.specs.Node.{Node, Line, number, numbers}
use Rattle.line.specs.Accepted.{has_sides, is_present, knows_neighbour, knows_content, names_present}
use Rattle.block.specs.Layout.{check_holds, fields_hold, node_of}
use Rattle.table.specs.Blocks.{nodes}
use Rattle.table.specs.Fault.{first_failing, fault_of}
use Rattle.table.specs.Claims.{Reordered, empty, keep, swap, through, BlockOrderFree}
use Rattle.lists.proofs.Distinct.{distinct_counted}

module _ {X : Type 0} (step : List ℕ → X → X) (h : List (List ℕ) → X)
    (turns : (b c : List ℕ) (x : X) → step b (step c x) ≡ step c (step b x)) (next : (b : List ℕ) (l : List (List ℕ)) → h (b ∷ l) ≡ step b (h l)) where
  reordered : {l r : List (List ℕ)} → Reordered l r → h l ≡ h r
  reordered empty = refl
  reordered (keep {b} {l} {r} p) = next b l ∙ ap (step b) (reordered p) ∙ sym (next b r)
  reordered (swap {b} {c} {l}) = next b (c ∷ l) ∙ ap (step b) (next c l) ∙ turns b c (h l) ∙ ap (step c) (sym (next b l)) ∙ sym (next c (b ∷ l))
  reordered (through p q) = reordered p ∙ reordered q

and_turns : (a b c : Bool) → (a && (b && c)) ≡ (b && (a && c))
and_turns true b c = refl
and_turns false true c = refl
and_turns false false c = refl

or_turns : (a b c : Bool) → (a || (b || c)) ≡ (b || (a || c))
or_turns false b c = refl
or_turns true true c = refl
or_turns true false c = refl

module _ {l r : List (List ℕ)} (p : Reordered l r) where
  -- a test of every block, of every node; how often a number stands there; whether it does
  all_blocks : (f : List ℕ → Bool) → all f l ≡ all f r
  unfolding all
  all_blocks f = reordered (λ b x. f b && x) (all f) (λ b c x. and_turns (f b) (f c) x) (λ b k. refl) p

  all_nodes : (f : Node → Bool) → all f (map node_of l) ≡ all f (map node_of r)
  unfolding all
  all_nodes f = reordered (λ b x. f (node_of b) && x) (λ k. all f (map node_of k)) (λ b c x. and_turns (f (node_of b)) (f (node_of c)) x) (λ b k. refl) p

  count_numbers : (n : ℕ) → count (eqb n) (numbers (map node_of l)) ≡ count (eqb n) (numbers (map node_of r))
  unfolding count
  count_numbers n = reordered (λ b x. cond (eqb n (number (node_of b))) 1 0 + x) (λ k. count (eqb n) (numbers (map node_of k))) (λ b c x. omega arith) (λ b k. refl) p

  same_present : (n : ℕ) → is_present (map node_of l) n ≡ is_present (map node_of r) n
  unfolding is_present any
  same_present n = reordered (λ b x. eqb n (number (node_of b)) || x) (λ k. is_present (map node_of k) n) (λ b c x. or_turns (eqb n (number (node_of b))) (eqb n (number (node_of c))) x) (λ b k. refl) p

-- what a node names is present in one line exactly when it is in another with the same numbers
all_same : {A : Type 0} (f g : A → Bool) → ((x : A) → f x ≡ g x) → (l : List A) → all f l ≡ all g l
unfolding all
all_same f g h [] = refl
all_same f g h (x ∷ l) = rw (h x, all_same f g h l)

module _ (a b : Line) (h : (n : ℕ) → is_present a n ≡ is_present b n) where
  same_neighbour : (n : Neighbour) → knows_neighbour a n ≡ knows_neighbour b n
  unfolding knows_neighbour
  same_neighbour None = refl
  same_neighbour (Some q) = h q

  same_content : (c : Content) → knows_content a c ≡ knows_content b c
  unfolding knows_content
  same_content (Introduction q) = h q
  same_content RemoveLeft = refl
  same_content RemoveRight = refl

  same_names : (s : Node) → names_present a s ≡ names_present b s
  unfolding names_present
  same_names s =
      let bags = all_same (λ (m : Message). knows_content a m.content) (λ (m : Message). knows_content b m.content) (λ m. same_content m.content) s.bag in
      rw (same_neighbour s.station.left, same_neighbour s.station.right, bags)

pub block_order_free : BlockOrderFree
unfolding fault_of first_failing nodes
block_order_free t u e p =
    let names =
    all_same (names_present (nodes t)) (names_present (nodes u)) (same_names (nodes t) (nodes u) (same_present p)) (nodes t)
    ∙ all_nodes p (names_present (nodes u)) in
    rw (e, all_blocks p check_holds, all_blocks p fields_hold, all_nodes p has_sides, distinct_counted (numbers (nodes t)) (numbers (nodes u)) (count_numbers p), names)
