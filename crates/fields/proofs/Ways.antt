-- One law for each way through the code of a rule: what was tested and what was called give what the rule says.
use mathlib.Core.Path.{◌≡◌, sym, ◌∙◌}
use Rattle.std.specs.Prelude.{Some, None}
use mathlib.Core.Bool.{Bool, true, false}
use Prim.Native.Nat.{ℕ}
use borrow.Author.Tests.{eq-eqb, ne_eqb}
use Rattle.line.specs.declared.Content.TheVariants.{Introduction, RemoveLeft, RemoveRight}
use Rattle.line.specs.Accepted.{in_range}
use Rattle.fields.specs.Fields.{neighbour_of, place_of}

module _ (n : ℕ) where
  pub neighbour_none : n ≡ 0 → None ≡ neighbour_of n
  unfolding neighbour_of
  neighbour_none h = rw (eq-eqb n 0 h)

  pub neighbour_station : (n ≡ 0 → ⊥) → Some n ≡ neighbour_of n
  unfolding neighbour_of
  neighbour_station h = rw (ne_eqb n 0 h)

-- a message place of kind k and number n
module _ (k gap n : ℕ) where
  pub gap_filled : (gap ≡ 0 → ⊥) → None ≡ place_of k gap n
  unfolding place_of
  gap_filled h = rw (ne_eqb gap 0 h)

  module _ (g : gap ≡ 0) where
    pub introduced : k ≡ 1 → {r : Bool} → r ≡ in_range n → r ≡ true → Some (record { content = Introduction n }) ≡ place_of k gap n
    unfolding place_of
    introduced h e t = rw (eq-eqb gap 0 g, eq-eqb k 1 h, sym e ∙ t)

    pub out_of_range : k ≡ 1 → {r : Bool} → r ≡ in_range n → r ≡ false → None ≡ place_of k gap n
    unfolding place_of
    out_of_range h e t = rw (eq-eqb gap 0 g, eq-eqb k 1 h, sym e ∙ t)

    module _ (h : k ≡ 1 → ⊥) where
      pub removal_numbered : (n ≡ 0 → ⊥) → None ≡ place_of k gap n
      unfolding place_of
      removal_numbered z = rw (eq-eqb gap 0 g, ne_eqb k 1 h, ne_eqb n 0 z)

      module _ (z : n ≡ 0) where
        pub left_removed : k ≡ 2 → Some (record { content = RemoveLeft }) ≡ place_of k gap n
        unfolding place_of
        left_removed e = rw (eq-eqb gap 0 g, ne_eqb k 1 h, eq-eqb n 0 z, eq-eqb k 2 e)

        pub right_removed : (k ≡ 2 → ⊥) → k ≡ 3 → Some (record { content = RemoveRight }) ≡ place_of k gap n
        unfolding place_of
        right_removed t e = rw (eq-eqb gap 0 g, ne_eqb k 1 h, eq-eqb n 0 z, ne_eqb k 2 t, eq-eqb k 3 e)

        pub no_kind : (k ≡ 2 → ⊥) → (k ≡ 3 → ⊥) → None ≡ place_of k gap n
        unfolding place_of
        no_kind t e = rw (eq-eqb gap 0 g, ne_eqb k 1 h, eq-eqb n 0 z, ne_eqb k 2 t, ne_eqb k 3 e)
