-- What the tests of the fields say together, and each by itself.
use mathlib.Core.Path.{◌≡◌, refl, sym, ◌∙◌}
use mathlib.Core.Bool.{Bool, true, false}
use mathlib.Core.List.{List}
use Prim.Native.Nat.{ℕ, ◌+◌, ◌*◌, ◌≤◌}
use native.Mathlib.Omega.{arith}
use borrow.Author.Tests.{eqb-true, leb-true}
use Rattle.octets.specs.Bytes.{word, quad, part, all_zero}
use Rattle.octets.proofs.Both.{and_left, and_right}
use Rattle.line.specs.Marks.{flags_hold, site_holds}
use Rattle.line.specs.Accepted.{in_range, has_sides}
use Rattle.block.specs.Layout.{check_holds, places_hold, header_holds, rest_holds, fields_hold, node_of, first_fault, fault_of}

-- the count that the header's test lets through
pub count_small : (b : List ℕ) → {r : Bool} → r ≡ header_holds b → r ≡ true → word b 16 ≤ 32
unfolding header_holds
count_small b e t = let h : header_holds b ≡ true = sym e ∙ t in leb-true (word b 16) 32 (search (and_left, and_right))

-- the count is tested before the places are read
module _ (b : List ℕ) {r : Bool} where
  pub header_good : {h : Bool} → h ≡ header_holds b → h ≡ true → r ≡ rest_holds b → r ≡ fields_hold b
  unfolding fields_hold
  header_good e t q = rw (sym e ∙ t) q

  pub header_bad : r ≡ header_holds b → r ≡ false → r ≡ fields_hold b
  unfolding fields_hold
  header_bad e t = rw (sym e ∙ t) t

-- a block without a fault breaks no rule
none_fails : (s t u : Bool) → first_fault s t u ≡ 0 → (s ≡ true) × (t ≡ true) × (u ≡ true)
none_fails true true true h = (refl, refl, refl)
none_fails true true false h = absurd (omega arith)
none_fails true false u h = absurd (omega arith)
none_fails false t u h = absurd (omega arith)

pub no_fault : (b : List ℕ) → fault_of b ≡ 0 → (check_holds b ≡ true) × (fields_hold b ≡ true) × (has_sides (node_of b) ≡ true)
unfolding fault_of
no_fault b h = none_fails (check_holds b) (fields_hold b) (has_sides (node_of b)) h

-- the rules of the fields, each by itself
pub record FieldFacts (b : List ℕ) : Type 0 where
  pub layout : word b 0 ≡ 1
  pub flag : flags_hold (word b 2) ≡ true
  pub number : in_range (quad b 4) ≡ true
  pub count : word b 16 ≤ 32
  pub site : site_holds (word b 18) ≡ true
  pub places : places_hold b (word b 16) ≡ true
  pub unused : all_zero (part b (20 + 8 * word b 16) 276) ≡ true
  pub filler : all_zero (part b 276 510) ≡ true

pub field_facts : (b : List ℕ) → fields_hold b ≡ true → FieldFacts b
unfolding fields_hold header_holds rest_holds
field_facts b h =
    record {
      layout = eqb-true (word b 0) 1 (search (and_left, and_right) depth 10);
      flag = search (and_left, and_right) depth 10;
      number = search (and_left, and_right) depth 10;
      count = leb-true (word b 16) 32 (search (and_left, and_right) depth 10);
      site = search (and_left, and_right) depth 10;
      places = search (and_left, and_right) depth 10;
      unused = search (and_left, and_right) depth 10;
      filler = search (and_left, and_right) depth 10;
    }

pub no_fault_count : (b : List ℕ) → fault_of b ≡ 0 → word b 16 ≤ 32
no_fault_count b h = (field_facts b (no_fault b h).1).count
