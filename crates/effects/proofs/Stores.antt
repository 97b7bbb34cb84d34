-- The arrays between two steps, and what each store of a step does to the line that they hold.
use Prim.Native.Nat.{ℕ, ◌-◌, ◌≤◌, ◌<◌}
use Rattle.std.specs.Prelude.{Option, Some, None}
use mathlib.Core.Path.{◌≡◌, refl, sym, ap, ◌∙◌, ap₂}
use mathlib.Core.Logic.{◌≢◌}
use mathlib.Core.Bool.{Bool, true, false}
use mathlib.Core.List.{List, []}
use native.Mathlib.Omega.{arith}
use lib.Dec.{eqb}
use lib.ListN.{length, get_or, take, set, length-set, length-map, get_or-map}
use lib.Seq.{get_or-take, set-get_or, get_or-set_same, get_or-set_other, map-set_same}
use borrow.Author.Tests.{eqb-true, eqb-false}
use Rattle.lists.specs.Places.{remove_at}
use Rattle.lists.specs.Numbers.{Rising}
use Rattle.lists.proofs.Lists.{sort-length, insert-length}
use Rattle.lists.proofs.Elements.{map_remove, taken_length, stood, stood_within, remove_get}
use Rattle.lists.proofs.Numbers.{first_at_lem}
use Rattle.line.specs.declared.Message.{Message}
use Rattle.line.specs.declared.Station as declared
use Rattle.line.specs.Message.{precedes}
use Rattle.line.specs.Node.{Node, Line, number, numbers, nobody}
use Rattle.line.proofs.Whole.{Sound}
use Rattle.line.proofs.Places.{place, with_bag}
use Rattle.bag.specs.declared.Bag.{Bag}
use Rattle.bag.specs.Held.{held, ordered}
use Rattle.index.specs.Index.{slot_in, number_in, numbers_in}
use Rattle.arrays.specs.declared.Arrays.{Arrays}
use Rattle.arrays.specs.Arrays.{node_in, node_at, line_in}
use Rattle.arrays.proofs.Lines.{slot_of, Unshared, stored, shortened, line_length, line_get, line_set, line_without}
use Rattle.rules.specs.declared.Sending.{Sending}
use Rattle.moves.specs.Sends.{PutIn}
use Rattle.effects.proofs.Posting.{arrived}

-- The index and the counts beside the line in the arrays are those of its stations and bags.
pub record Consistent (a : Arrays) : Type 0 where
  pub few : a.n ≤ 64
  pub index_size : length a.index ≡ 64
  pub stations_size : length a.stations ≡ 64
  pub bags_size : length a.bags ≡ 64
  pub counts_size : length a.counts ≡ 64
  pub numbered : numbers_in (take a.n a.index) ≡ numbers (line_in a)
  pub rising : Rising (numbers_in (take a.n a.index))
  pub tallied : (j : ℕ) → j < a.n → get_or a.counts (slot_of a j) 0 ≡ length (place (line_in a) j).bag

-- Between two steps the line is sound as well.
pub record BetweenSteps (a : Arrays) : Type 0 where
  pub consistent : Consistent a
  pub sound : Sound (line_in a)

-- the bag in a slot
abbrev pub bag_at : Arrays → ℕ → Bag
bag_at a k = record { messages = get_or a.bags k []; count = get_or a.counts k 0 }

-- other bags and counts
abbrev pub with_bags : Arrays → List (List Message) → List ℕ → Arrays
with_bags a bags counts = record { n = a.n; index = a.index; stations = a.stations; bags = bags; counts = counts }

-- another station in slot k
abbrev pub with_station : Arrays → ℕ → declared.Station → Arrays
with_station a k s = record { n = a.n; index = a.index; stations = set a.stations k s; bags = a.bags; counts = a.counts }

-- what storing a bag in slot k makes of the arrays, where a message was taken out of it
abbrev pub OwnStored : Option Bag → ℕ → Arrays → Arrays → Type 0
OwnStored (Some b) k a after = after ≡ with_bags a (set a.bags k b.messages) (set a.counts k b.count)
OwnStored None k a after = after ≡ a

module _ (k : ℕ) (a : Arrays) {after : Arrays} {o : Option Bag} where
  pub own_taken : (b : Bag) → o ≡ Some b → after ≡ with_bags a (set a.bags k b.messages) (set a.counts k b.count) → OwnStored o k a after
  own_taken b e f = rw e f

  pub own_untaken : o ≡ None → after ≡ a → OwnStored o k a after
  own_untaken e f = rw e f

-- what storing a message in slot k makes of the arrays, where one is sent
abbrev pub Arrived : Option Sending → ℕ → Arrays → Arrays → Type 0
Arrived None k a after = after ≡ a
Arrived (Some x) k a after = (new : List Message) × (counts : List ℕ) × PutIn (get_or a.bags k []) a.counts k x.message new counts × (after ≡ with_bags a (set a.bags k new) counts)

module _ (x : Option Sending) (k : ℕ) (a : Arrays) {after : Arrays} where
  pub arrived_one : (y : Sending) → x ≡ Some y → {new : List Message} {counts : List ℕ} → PutIn (get_or a.bags k []) a.counts k y.message new counts
      → after ≡ with_bags a (set a.bags k new) counts → Arrived x k a after
  arrived_one y e {new} {counts} p f = rw e (new, counts, p, f)

  pub arrived_none : x ≡ None → after ≡ a → Arrived x k a after
  arrived_none e f = rw e f

-- the same entries
pub record SameIndex (a after : Arrays) : Type 0 where
  pub size : after.n ≡ a.n
  pub is : after.index ≡ a.index

pub own_index : (o : Option Bag) (k : ℕ) (a : Arrays) {after : Arrays} → OwnStored o k a after → SameIndex a after
own_index (Some b) k a p = rw p (record { size = refl; is = refl })
own_index None k a p = rw p (record { size = refl; is = refl })

pub arrived_index : (x : Option Sending) (k : ℕ) (a : Arrays) {after : Arrays} → Arrived x k a after → SameIndex a after
arrived_index None k a p = rw p (record { size = refl; is = refl })
arrived_index (Some x) k a p = rw p.3 (record { size = refl; is = refl })

module _ {a : Arrays} (t : Consistent a) where
  abbrev line : Line
  line = line_in a

  long : a.n ≤ length a.index
  long = omega (arith, t.few, t.index_size)

  pub consistent_length : length line ≡ a.n
  consistent_length = line_length a long

  -- the entries that count, as they are lent
  pub consistent_taken : a.n ≡ length (take a.n a.index)
  consistent_taken = taken_length a.n a.index long

  -- no other entry has the slot of entry i, since its station would have the same number
  pub unshared : (i : ℕ) → i < a.n → Unshared a i
  unshared i h j g ne e = ne (sym (first_at_lem (number (place line i)) (numbers line) j up (within g) (named j g ∙ ap number (same j g e))) ∙ first_at_lem (number (place line i)) (numbers line) i up (within h) (named i h))
    where
      up : Rising (numbers line)
      up = rw (← t.numbered) t.rising

      within : {j : ℕ} → j < a.n → j < length (numbers line)
      within g = omega (arith, length-map line number, consistent_length)

      named : (j : ℕ) → j < a.n → get_or (numbers line) j 0 ≡ number (place line j)
      named j g = get_or-map number line j nobody

      same : (j : ℕ) → j < a.n → slot_of a j ≡ slot_of a i → place line j ≡ place line i
      same j g e = line_get a long j g nobody ∙ ap (node_at a) e ∙ sym (line_get a long i h nobody)

  module _ (i : ℕ) (h : i < a.n) where
    abbrev slot : ℕ
    slot = slot_of a i

    pub consistent_place : place line i ≡ node_at a slot
    consistent_place = line_get a long i h nobody

    pub consistent_number : get_or (numbers_in (take a.n a.index)) i 0 ≡ number (place line i)
    consistent_number = ap (λ (l : List ℕ). get_or l i 0) t.numbered ∙ get_or-map number line i nobody

    pub consistent_bag : ordered (bag_at a slot) ≡ (place line i).bag
    consistent_bag = sym (ap (λ (s : Node). s.bag) consistent_place)

    pub consistent_count : get_or a.counts slot 0 ≡ length (held (bag_at a slot))
    consistent_count = t.tallied i h ∙ ap length (sym consistent_bag) ∙ sort-length precedes (held (bag_at a slot))

    -- a station, a row and a count stored in its slot
    module _ (s : declared.Station) (row : List Message) (c : ℕ) where
      pub stored_line : line_in (stored a slot s row c) ≡ set line i (node_in s row c)
      stored_line = line_set a long i h (unshared i h) t.stations_size t.bags_size t.counts_size s row c

      pub stored_consistent : s.number ≡ number (place line i) → c ≡ length (take c row) → Consistent (stored a slot s row c)
      stored_consistent e f = record {
        few = t.few;
        index_size = t.index_size;
        stations_size = simp length-set t.stations_size;
        bags_size = simp length-set t.bags_size;
        counts_size = simp length-set t.counts_size;
        numbered = t.numbered ∙ sym (ap numbers stored_line ∙ map-set_same number line i (node_in s row c) nobody e);
        rising = t.rising;
        tallied = λ j g. go j g (eqb j i) refl;
      }
        where
          Counted : ℕ → Type 0
          Counted j = get_or (set a.counts slot c) (slot_of a j) 0 ≡ length (place (line_in (stored a slot s row c)) j).bag

          here : (j : ℕ) → j < a.n → j ≡ i → Counted j
          here j g p =
              let l = consistent_length in
              rw (p, stored_line, get_or-set_same line i (node_in s row c) nobody (omega arith), get_or-set_same a.counts slot c 0 (omega (arith, t.counts_size))) (f ∙ sym (sort-length precedes (take c row)))

          elsewhere : (j : ℕ) → j < a.n → j ≢ i → Counted j
          elsewhere j g ne =
              rw (stored_line, get_or-set_other line i j (node_in s row c) nobody ne, get_or-set_other a.counts slot (slot_of a j) c 0 (unshared i h j g ne)) (t.tallied j g)

          go : (j : ℕ) → j < a.n → (b : Bool) → eqb j i ≡ b → Counted j
          go j g true e = here j g (eqb-true j i e)
          go j g false e = elsewhere j g (eqb-false j i e)

    -- a station alone stored in its slot, beside the bag that stands there
    restored : (s : declared.Station) → stored a slot s (get_or a.bags slot []) (get_or a.counts slot 0) ≡ with_station a slot s
    restored s =
        ap₂ (λ (b : List (List Message)) (c : List ℕ). record { n = a.n; index = a.index; stations = set a.stations slot s; bags = b; counts = c })
        (set-get_or a.bags slot []) (set-get_or a.counts slot 0)

    module _ (s : declared.Station) where
      pub station_line : line_in (with_station a slot s) ≡ set line i (record { station = s; bag = (place line i).bag })
      station_line =
          ap line_in (sym (restored s)) ∙ stored_line s (get_or a.bags slot []) (get_or a.counts slot 0) ∙ ap (λ (b : List Message). set line i (record { station = s; bag = b })) consistent_bag

      pub station_consistent : s.number ≡ number (place line i) → Consistent (with_station a slot s)
      station_consistent e = rw (restored s) at (stored_consistent s (get_or a.bags slot []) (get_or a.counts slot 0) e consistent_count)

    -- a message stored there, where one is sent
    abbrev standing : declared.Station
    standing = get_or a.stations slot nobody.station

    unmoved : (new : List Message) (c : ℕ) → with_bags a (set a.bags slot new) (set a.counts slot c) ≡ stored a slot standing new c
    unmoved new c = ap (λ (l : List declared.Station). record { n = a.n; index = a.index; stations = l; bags = set a.bags slot new; counts = set a.counts slot c }) (sym (set-get_or a.stations slot nobody.station))

    pub arrived_line : (x : Option Sending) (after : Arrays) → Arrived x slot a after → line_in after ≡ with_bag line i (arrived x (place line i).bag)
    arrived_line None after p = rw p (sym (set-get_or line i nobody))
    arrived_line (Some x) after p =
        let new = p.0 in
        let r = p.2 in
        rw (p.3, r.counts_are, unmoved new r.count)
        (stored_line standing new r.count
        ∙ ap (λ (b : List Message). set line i (record { station = standing; bag = b })) (r.put.ordered_is ∙ rw consistent_bag)
        ∙ ap (λ (s : declared.Station). set line i (record { station = s; bag = arrived (Some x) (place line i).bag })) (sym (ap (λ (s : Node). s.station) consistent_place)))

    pub arrived_consistent : (x : Option Sending) (after : Arrays) → Arrived x slot a after → Consistent after
    arrived_consistent None after p = rw p t
    arrived_consistent (Some x) after p =
        let new = p.0 in
        let r = p.2 in
        let b = bag_at a slot in
        let size : r.count ≡ length (take r.count new) =
        r.put.counted ∙ omega (arith, sort-length precedes (take r.count new), ap length r.put.ordered_is, insert-length precedes x.message (ordered b), sort-length precedes (held b), consistent_count) in
        rw (p.3, r.counts_are, unmoved new r.count) (stored_consistent standing new r.count (sym (ap number consistent_place)) size)

-- an index without entry i
pub record Dropped (n i : ℕ) (old new : List ℕ) : Type 0 where
  pub size : length new ≡ 64
  pub is : take (n - 1) new ≡ remove_at i (take n old)

module _ {a : Arrays} (t : Consistent a) (i : ℕ) {index : List ℕ} (d : Dropped a.n i a.index index) where
  pub dropped_line : line_in (shortened a index) ≡ remove_at i (line_in a)
  dropped_line = line_without a (omega (arith, t.few, t.index_size)) i index d.is

  -- the slots are among those that were
  dropped_slot : (j : ℕ) → j < a.n - 1 → slot_of (shortened a index) j ≡ slot_of a (stood i j)
  dropped_slot j h =
      ap slot_in (sym (get_or-take (a.n - 1) index j 0 h) ∙ ap (λ (l : List ℕ). get_or l j 0) d.is ∙ remove_get (take a.n a.index) i j 0 ∙ get_or-take a.n a.index (stood i j) 0 (stood_within a.n i j h))

  pub dropped_numbered : numbers_in (take (a.n - 1) index) ≡ numbers (line_in (shortened a index))
  dropped_numbered =
      ap numbers_in d.is ∙ map_remove number_in (take a.n a.index) i ∙ ap (remove_at i) t.numbered ∙ sym (map_remove number (line_in a) i) ∙ ap numbers (sym dropped_line)

  pub dropped_consistent : Rising (numbers_in (take (a.n - 1) index)) → Consistent (shortened a index)
  dropped_consistent up = record {
    few = omega (arith, t.few);
    index_size = d.size;
    stations_size = t.stations_size;
    bags_size = t.bags_size;
    counts_size = t.counts_size;
    numbered = dropped_numbered;
    rising = up;
    tallied = λ j h.
        ap (λ (m : ℕ). get_or a.counts m 0) (dropped_slot j h) ∙ t.tallied (stood i j) (stood_within a.n i j h)
        ∙ ap (λ (s : Node). length s.bag) (sym (ap (λ (l : Line). place l j) dropped_line ∙ remove_get (line_in a) i j nobody));
  }
