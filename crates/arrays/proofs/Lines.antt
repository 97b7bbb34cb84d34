-- The line that arrays hold (document 01, "The form each place needs"): its length, a node of it, a store and a removal.
use Prim.Native.Nat.{ℕ, ◌-◌, ◌≤◌, ◌<◌}
use mathlib.Core.Path.{◌≡◌, ap, ◌∙◌}
use mathlib.Core.Logic.{◌≢◌}
use mathlib.Core.List.{List, [], map}
use native.Mathlib.Omega.{arith}
use lib.ListN.{length, get_or, take, set, length-map}
use lib.Seq.{get_or-take, length-take-le, get_or-set_same, get_or-set_other}
use Rattle.lists.specs.Places.{remove_at}
use Rattle.lists.proofs.Elements.{map_at, map_store, map_remove}
use Rattle.line.specs.declared.Message.{Message}
use Rattle.line.specs.declared.Station as declared
use Rattle.line.specs.Node.{Node, nobody}
use Rattle.index.specs.Index.{slot_in}
use Rattle.arrays.specs.declared.Arrays.{Arrays}
use Rattle.arrays.specs.Arrays.{node_in, node_at, line_in}

-- the slot of the entry at i
abbrev pub slot_of : Arrays → ℕ → ℕ
slot_of a i = slot_in (get_or a.index i 0)

-- the slot of entry i is that of no other entry
abbrev pub Unshared : Arrays → ℕ → Type 0
Unshared a i = (j : ℕ) → j < a.n → j ≢ i → slot_of a j ≢ slot_of a i

-- a station, a row and a count stored in a slot; another index, one entry shorter
abbrev pub stored : Arrays → ℕ → declared.Station → List Message → ℕ → Arrays
stored a k s row c = record { n = a.n; index = a.index; stations = set a.stations k s; bags = set a.bags k row; counts = set a.counts k c }

abbrev pub shortened : Arrays → List ℕ → Arrays
shortened a index = record { n = a.n - 1; index = index; stations = a.stations; bags = a.bags; counts = a.counts }

module _ (a : Arrays) (long : a.n ≤ length a.index) where
  abbrev node : ℕ → Node
  node e = node_at a (slot_in e)

  size : length (take a.n a.index) ≡ a.n
  size = length-take-le a.n a.index long

  pub line_length : length (line_in a) ≡ a.n
  unfolding line_in
  line_length = length-map (take a.n a.index) node ∙ size

  -- without entry i
  pub line_without : (i : ℕ) (index : List ℕ) → take (a.n - 1) index ≡ remove_at i (take a.n a.index) → line_in (shortened a index) ≡ remove_at i (line_in a)
  unfolding line_in
  line_without i index e = ap (map node) e ∙ map_remove node (take a.n a.index) i

  module _ (i : ℕ) (h : i < a.n) where
    -- the node of entry i
    pub line_get : (x : Node) → get_or (line_in a) i x ≡ node_at a (slot_of a i)
    unfolding line_in
    line_get x = map_at node (take a.n a.index) i 0 x (omega (arith, size)) ∙ ap node (get_or-take a.n a.index i 0 h)

    -- a store in its slot
    pub line_set : Unshared a i → length a.stations ≡ 64 → length a.bags ≡ 64 → length a.counts ≡ 64 → (s : declared.Station) (row : List Message) (c : ℕ)
        → line_in (stored a (slot_of a i) s row c) ≡ set (line_in a) i (node_in s row c)
    unfolding line_in
    line_set unshared p q r s row c =
        let slot = slot_of a i in
        map_store node (λ (e : ℕ). node_at (stored a slot s row c) (slot_in e)) (take a.n a.index) i (node_in s row c) (omega (arith, size))
        (rw (get_or-take a.n a.index i 0 h, get_or-set_same a.stations slot s nobody.station (omega arith), get_or-set_same a.bags slot row [] (omega arith), get_or-set_same a.counts slot c 0 (omega arith)))
        (λ j u v.
        let w : j < a.n = omega (arith, size) in
        rw (get_or-take a.n a.index j 0 w, get_or-set_other a.stations slot (slot_of a j) s nobody.station (unshared j w v), get_or-set_other a.bags slot (slot_of a j) row [] (unshared j w v), get_or-set_other a.counts slot (slot_of a j) c 0 (unshared j w v)))
