-- One law for each way through the code that reads a block: what was tested and what was called give what the layout says.
use mathlib.Core.Path.{◌≡◌, ◌∙◌}
use Rattle.std.specs.Prelude.{Some, None}
use Rattle.line.specs.Types.{Neighbour}
use mathlib.Core.Bool.{Bool, true, false, not, ◌&&◌}
use mathlib.Core.List.{List}
use Prim.Native.Nat.{ℕ, ◌%◌}
use borrow.Author.Tests.{not-true, not-false}
use lib.Dec.{eqb}
use Rattle.line.specs.declared.Side.{Side}
use Rattle.line.specs.declared.Side.TheVariants.{Left, Right}
use Rattle.line.specs.declared.Marks.{Marks}
use Rattle.line.specs.declared.Station as declared
use Rattle.line.specs.Marks.{marks_from}
use Rattle.line.specs.Node.{beyond}
use Rattle.line.specs.Accepted.{lies_beyond, has_sides}
use Rattle.octets.specs.Bytes.{word, quad, sum_words}
use Rattle.fields.specs.Fields.{neighbour_of}
use Rattle.block.specs.Layout.{check_holds, fields_hold, station_of, node_of, first_fault, fault_of}

-- the first rule that fails decides
module _ (check fields sides : Bool) where
  pub check_fails : not check ≡ true → 3 ≡ first_fault check fields sides
  check_fails h = rw (not-true check h)

  module _ (c : not check ≡ false) where
    pub fields_fail : not fields ≡ true → 4 ≡ first_fault check fields sides
    fields_fail h = rw (not-false check c, not-true fields h)

    pub sides_fail : not fields ≡ false → not sides ≡ true → 5 ≡ first_fault check fields sides
    sides_fail f h = rw (not-false check c, not-false fields f, not-true sides h)

    pub none_fails : not fields ≡ false → not sides ≡ false → 0 ≡ first_fault check fields sides
    none_fails f h = rw (not-false check c, not-false fields f, not-false sides h)

-- whether the sides hold depends on the station alone
pub fault_read : (b : List ℕ) {r : ℕ} {check fields sides : Bool} {s : declared.Station} → r ≡ first_fault check fields sides → check ≡ check_holds b → fields ≡ fields_hold b
    → sides ≡ (lies_beyond Left s.number s.left && lies_beyond Right s.number s.right) → s ≡ station_of b → r ≡ fault_of b
unfolding fault_of has_sides node_of
fault_read b e c f h s = e ∙ rw (c, f, h, s)

pub check_read : (b : List ℕ) {s : ℕ} → s ≡ sum_words b % 65536 → eqb s 65535 ≡ check_holds b
unfolding check_holds
check_read b e = rw e

module _ (d : Side) (p : ℕ) (n : Neighbour) where
  pub beyond_none : n ≡ None → true ≡ lies_beyond d p n
  unfolding lies_beyond
  beyond_none e = rw e

  pub beyond_station : (q : ℕ) → n ≡ Some q → {r : Bool} → r ≡ beyond d p q → r ≡ lies_beyond d p n
  unfolding lies_beyond
  beyond_station q e f = f ∙ rw e

module _ (b : List ℕ) where
  pub station_read : {n l r f k : ℕ} {left right : Neighbour} {marks : Marks} → n ≡ quad b 4 → left ≡ neighbour_of l → l ≡ quad b 8 → right ≡ neighbour_of r → r ≡ quad b 12
      → marks ≡ marks_from f k → f ≡ word b 2 → k ≡ word b 18 → record { number = n; left = left; right = right; marks = marks } ≡ station_of b
  unfolding station_of
  station_read {marks = marks} n l p r q m f k =
      let e : marks ≡ marks_from (word b 2) (word b 18) = m ∙ (λ i. marks_from (f i) (k i)) in
      rw (n, l, p, r, q, e)
