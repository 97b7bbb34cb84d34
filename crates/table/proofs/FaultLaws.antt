-- The smallest fault of any block is what the tests 3, 4 and 5 of the whole table give, so the check may go block by block.
use mathlib.Core.Path.{◌≡◌, refl, sym, ap, ◌∙◌}
use mathlib.Core.Bool.{Bool, true, false, cond, ◌&&◌}
use mathlib.Core.List.Memᴰ.{head as here}
use mathlib.Core.List.Memᴰ.{tail as there}
use mathlib.Core.List.{List, [], ◌∷◌, map, Memᴰ as Member}
use Prim.Native.Nat.{ℕ, suc, ◌+◌, ◌/◌, ◌%◌, ◌≤◌, ◌<◌}
use native.Mathlib.Omega.{arith}
use lib.Dec.{eqb, leb, ltb}
use lib.ListN.{length, get_or, drop, drop_of_length-le}
use borrow.Author.Tests.{eqb-true, eqb-false, leb-true}
use Rattle.std.proofs.lemmas.Bool.Decides.{nat_tests}
use Rattle.lists.specs.Lists.{all}
use Rattle.lists.proofs.Elements.{drop_one}
use Rattle.lists.proofs.Lists.{and_both}
use Rattle.line.specs.Node.{numbers}
use Rattle.line.specs.Accepted.{has_sides, names_present}
use Rattle.lists.specs.Numbers.{are_distinct}
use Rattle.block.specs.Layout.{check_holds, fields_hold, node_of}
use Rattle.block.specs.Layout as block
use Rattle.table.specs.Blocks.{blocks, nodes}
use Rattle.table.specs.Fault.{Test, first_failing, fault_of}
use Rattle.table.specs.Smallest.{smaller, smallest, stations_fault}

-- the first of three tests that does not hold
abbrev pick : Bool → Bool → Bool → ℕ
pick s t u = cond s (cond t (cond u 0 5) 4) 3

-- the smaller fault of two is that of both together
pick_both : (s t u x y z : Bool) → smaller (pick s t u) (pick x y z) ≡ pick (s && x) (t && y) (u && z)
unfolding smaller
pick_both true true true x y z = refl
pick_both true true false true true true = refl
pick_both true true false true true false = refl
pick_both true true false true false z = refl
pick_both true true false false y z = refl
pick_both true false u true true true = refl
pick_both true false u true true false = refl
pick_both true false u true false z = refl
pick_both true false u false y z = refl
pick_both false t u true true true = refl
pick_both false t u true true false = refl
pick_both false t u true false z = refl
pick_both false t u false y z = refl

smallest_tests : (l : List (List ℕ)) → smallest l ≡ pick (all check_holds l) (all fields_hold l) (all has_sides (map node_of l))
unfolding smallest all block.fault_of
smallest_tests [] = refl
smallest_tests (b ∷ l) =
    ap (smaller (block.fault_of b)) (smallest_tests l)
    ∙ pick_both (check_holds b) (fields_hold b) (has_sides (node_of b)) (all check_holds l) (all fields_hold l) (all has_sides (map node_of l))

-- what is left once the three are settled
settled : (s t u : Bool) (rest : ℕ) → cond s (cond t (cond u rest 5) 4) 3 ≡ cond (eqb (pick s t u) 0) rest (pick s t u)
settled true true true rest = refl
settled true true false rest = refl
settled true false u rest = refl
settled false t u rest = refl

-- the fault of a table in the order in which the check looks
pub fault_parts : (t : List ℕ) → fault_of t ≡ cond (eqb (length t % 512) 0) (cond (leb (length t / 512) 64) (cond (eqb (smallest (blocks t)) 0) (stations_fault (nodes t)) (smallest (blocks t))) 2) 1
unfolding fault_of first_failing stations_fault nodes
fault_parts t =
    let s = all check_holds (blocks t) in
    let u = all fields_hold (blocks t) in
    let v = all has_sides (map node_of (blocks t)) in
    ap (λ (n : ℕ). cond (eqb (length t % 512) 0) (cond (leb (length t / 512) 64) n 2) 1)
    (settled s u v (stations_fault (nodes t)) ∙ ap (λ (n : ℕ). cond (eqb n 0) (stations_fault (nodes t)) n) (sym (smallest_tests (blocks t))))

-- no fault is the smallest where no block has one
smaller_none : (a b : ℕ) → smaller a b ≡ 0 → (a ≡ 0) × (b ≡ 0)
unfolding smaller
smaller_none a b h = go (eqb a 0) (eqb b 0) (ltb a b) refl refl h
  where
    go : (s t u : Bool) → eqb a 0 ≡ s → eqb b 0 ≡ t → cond s b (cond t a (cond u a b)) ≡ 0 → (a ≡ 0) × (b ≡ 0)
    go true t u e f z = (eqb-true a 0 e, z)
    go false true u e f z = (z, eqb-true b 0 f)
    go false false true e f z = absurd (eqb-false a 0 e z)
    go false false false e f z = absurd (eqb-false b 0 f z)

pub no_fault_of : (l : List (List ℕ)) {b : List ℕ} → smallest l ≡ 0 → Member b l → block.fault_of b ≡ 0
unfolding smallest
no_fault_of [] {b = b} h x'' = elim x'' [ ]
no_fault_of (c ∷ l) h (here e) = ap block.fault_of e ∙ (smaller_none (block.fault_of c) (smallest l) h).0
no_fault_of (c ∷ l) h (there m) = no_fault_of l (smaller_none (block.fault_of c) (smallest l) h).1 m

-- A table is accepted exactly when it passes each of the seven tests.
pub record Passes (t : List ℕ) : Type 0 where
  pub whole : eqb (length t % 512) 0 ≡ true
  pub few : leb (length t / 512) 64 ≡ true
  pub checks : all check_holds (blocks t) ≡ true
  pub fields : all fields_hold (blocks t) ≡ true
  pub sides : all has_sides (nodes t) ≡ true
  pub distinct : are_distinct (numbers (nodes t)) ≡ true
  pub names : all (names_present (nodes t)) (nodes t) ≡ true

none_failing : (b : Bool) (n rest : ℕ) → cond b rest (suc n) ≡ 0 → (b ≡ true) × (rest ≡ 0)
none_failing true n rest h = (refl, h)
none_failing false n rest h = absurd (omega arith)

pub accepted_passes : (t : List ℕ) → fault_of t ≡ 0 → Passes t
unfolding fault_of first_failing
accepted_passes t h =
    let a = none_failing (eqb (length t % 512) 0) 0 _ h in
    let b = none_failing (leb (length t / 512) 64) 1 _ a.1 in
    let c = none_failing (all check_holds (blocks t)) 2 _ b.1 in
    let d = none_failing (all fields_hold (blocks t)) 3 _ c.1 in
    let e = none_failing (all has_sides (nodes t)) 4 _ d.1 in
    let f = none_failing (are_distinct (numbers (nodes t))) 5 _ e.1 in
    let g = none_failing (all (names_present (nodes t)) (nodes t)) 6 0 f.1 in
    record { whole = a.0; few = b.0; checks = c.0; fields = d.0; sides = e.0; distinct = f.0; names = g.0 }

pub passes_accepted : (t : List ℕ) → Passes t → fault_of t ≡ 0
unfolding fault_of first_failing
passes_accepted t p = rw (p.whole, p.few, p.checks, p.fields, p.sides, p.distinct, p.names)

pub passes_clean : (t : List ℕ) → Passes t → smallest (blocks t) ≡ 0
unfolding nodes
passes_clean t p = smallest_tests (blocks t) ∙ rw (p.checks, p.fields, p.sides)

-- The fault of a table is at most 7.
pub cond_most : {m : ℕ} (b : Bool) (x y : ℕ) → x ≤ m → y ≤ m → cond b x y ≤ m
cond_most true x y p q = p
cond_most false x y p q = q

first_most : (m : ℕ) (l : List Test) → all (λ (x : Test). leb x.number m) l ≡ true → first_failing l ≤ m
unfolding all first_failing
first_most m [] h = omega arith
first_most m (x ∷ l) h =
    let both = and_both (leb x.number m) (all (λ (y : Test). leb y.number m) l) h in
    cond_most x.holds (first_failing l) x.number (first_most m l both.1) (leb-true x.number m both.0)

pub fault_most : (t : List ℕ) → fault_of t ≤ 7
unfolding fault_of all
fault_most t = first_most 7 _ refl

-- Blocks in stored order: the smaller of the fault so far and the smallest of the blocks to come stays the same.
smaller_joins : (a b c : ℕ) → smaller (smaller a b) c ≡ smaller a (smaller b c)
unfolding smaller
smaller_joins a b c = grind (arith, nat_tests)

smaller_last : (a : ℕ) → smaller a 0 ≡ a
unfolding smaller
smaller_last a = grind (arith, nat_tests)

pub record FaultTo (l : List (List ℕ)) (fault : ℕ) (rest : List (List ℕ)) : Type 0 where
  pub is : smaller fault (smallest rest) ≡ smallest l

pub fault_none : {l : List (List ℕ)} → FaultTo l 0 l
unfolding smaller
fault_none = record { is = refl }

module _ {l : List (List ℕ)} {i fault : ℕ} (so_far : FaultTo l fault (drop i l)) where
  pub fault_next : i < length l → (d : List ℕ) {f r : ℕ} → r ≡ smaller fault f → f ≡ block.fault_of (get_or l i d) → FaultTo l r (drop (i + 1) l)
  unfolding smallest
  fault_next h d p q = record { is = rw (p, q, smaller_joins) (rw (drop_one l d i h) at so_far.is) }

  pub fault_last : length l ≤ i → fault ≡ smallest l
  unfolding smallest
  fault_last h = sym (smaller_last fault) ∙ (rw (drop_of_length-le l h) at so_far.is)
