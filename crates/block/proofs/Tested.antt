-- The tests of a block say what document 01 says of its bytes.
use Prim.Native.Nat.{ℕ, zero, suc, ◌+◌, ◌-◌, ◌*◌, ◌≤◌, ◌<◌}
use Rattle.std.specs.Prelude.{Some, None}
use mathlib.Core.Path.{◌≡◌, refl, sym, ap, ◌∙◌}
use mathlib.Core.Logic.{◌↔◌, ◌⊎◌, ◌≢◌, inl, inr, ⊎_elim}
use mathlib.Core.Bool.{Bool, true, false, cond, ◌&&◌, and-false}
use mathlib.Core.List.Memᴰ
use mathlib.Core.List.{List, [], ◌∷◌}
use mathlib.Core.List.Memᴰ.{head as here}
use mathlib.Core.List.{Memᴰ as Member}
use native.Mathlib.Nat.{le_of_suc-le-suc, eq-or-lt_of_le}
use native.Mathlib.Omega.{arith}
use lib.Dec.{eqb, leb}
use lib.ListN.{length, drop, get_or, length-take}
use lib.Seq.{get_or-take, get_or-drop}
use borrow.Author.Tests.{eqb-true, eqb-false, eq-eqb, leb-true, leb-false, le-leb}
use Rattle.lists.proofs.Lists.{clash, both_and, fails}
use Rattle.line.specs.declared.Content.{Content}
use Rattle.line.specs.declared.Content.TheVariants.{Introduction, RemoveLeft, RemoveRight}
use Rattle.line.specs.declared.Message.{Message}
use Rattle.line.specs.declared.Side.{Side}
use Rattle.line.specs.declared.Side.TheVariants.{Left, Right}
use Rattle.line.specs.Message.{introduction, kind, carried}
use Rattle.line.specs.Marks.{flags_hold}
use Rattle.line.specs.Node.{beyond}
use Rattle.line.specs.Links.{Linked, by_neighbour, by_introduction}
use Rattle.line.specs.Accepted.{lies_beyond, has_sides}
use Rattle.line.proofs.AcceptedTest.{in_range_lem}
use Rattle.line.proofs.Sides.{none_station, station_inj, beyond_true, true_beyond}
use Rattle.octets.specs.Bytes.{word, quad, part, all_zero}
use Rattle.octets.proofs.Both.{and_left, and_right}
use Rattle.fields.specs.Fields.{neighbour_holds, place_of, message_of, neighbour_of}
use Rattle.fields.specs.Claims.{Ranged, IsMessage}
use Rattle.fields.proofs.Contents.{place_says}
use Rattle.fields.proofs.Tested.{good_message, message_good}
use Rattle.block.specs.Layout.{place_at, places_hold, messages, header_holds, rest_holds, fields_hold, station_of, node_of}
use Rattle.block.specs.Claims.{InLayout, Misplaced, WrongSide, Names, FieldsTested, SidesTested, NamesLinked}
use Rattle.block.proofs.FieldLaws.{field_facts}
use Rattle.block.proofs.PlaceLaws.{good_below}

-- none or a station number, of at most 999,999
maybe_ranged : (n : ℕ) → neighbour_holds n ≡ true → (n ≡ 0) ⊎ Ranged n
maybe_ranged n h = go (eqb n 0) refl
  where
    go : (t : Bool) → eqb n 0 ≡ t → (n ≡ 0) ⊎ Ranged n
    go true e = inl (eqb-true n 0 e)
    go false e = let f = eqb-false n 0 e in inr (omega arith, leb-true n 999999 h)

ranged_maybe : (n : ℕ) → (n ≡ 0) ⊎ Ranged n → neighbour_holds n ≡ true
ranged_maybe n h = le-leb n 999999 (⊎_elim (λ (e : n ≡ 0). omega arith) (λ (r : Ranged n). r.1) h)

-- zero bytes one by one
module _ (b : List ℕ) where
  zero_all : (l : List ℕ) → all_zero l ≡ true → (i : ℕ) → get_or l i 0 ≡ 0
  unfolding all_zero
  zero_all [] h i = refl
  zero_all (x ∷ l) h zero = eqb-true x 0 (and_left (eqb x 0) (all_zero l) h)
  zero_all (x ∷ l) h (suc i) = zero_all l (and_right (eqb x 0) (all_zero l) h) i

  all_zero_lem : (l : List ℕ) → ((i : ℕ) → i < length l → get_or l i 0 ≡ 0) → all_zero l ≡ true
  unfolding all_zero
  all_zero_lem [] h = refl
  all_zero_lem (x ∷ l) h = both_and (eq-eqb x 0 (h 0 (omega arith))) (all_zero_lem l (λ i k. h (suc i) (omega arith)))

  part_at : (a e i : ℕ) → a + i < e → get_or (part b a e) i 0 ≡ get_or b (a + i) 0
  part_at a e i h = get_or-take (e - a) (drop a b) i 0 (omega arith) ∙ get_or-drop a b i 0

  zero_at : (a e : ℕ) → all_zero (part b a e) ≡ true → (i : ℕ) → a ≤ i → i < e → get_or b i 0 ≡ 0
  zero_at a e h i low high =
      let at : a + (i - a) ≡ i = omega arith in
      ap (λ (k : ℕ). get_or b k 0) (sym at) ∙ sym (part_at a e (i - a) (omega arith)) ∙ zero_all (part b a e) h (i - a)

  at_zero : (a e : ℕ) → ((i : ℕ) → a ≤ i → i < e → get_or b i 0 ≡ 0) → all_zero (part b a e) ≡ true
  at_zero a e h = all_zero_lem (part b a e) (λ i k. let w : a + i < e = omega (arith, length-take (e - a) (drop a b)) in part_at a e i w ∙ h (a + i) (omega arith) w)

-- the fields
module _ (b : List ℕ) where
  places_good : (n : ℕ) → ((i : ℕ) → i < n → IsMessage (word b (20 + 8 * i)) (word b (22 + 8 * i)) (quad b (24 + 8 * i))) → places_hold b n ≡ true
  unfolding places_hold place_at
  places_good zero h = refl
  places_good (suc n) h = both_and (places_good n (λ i k. h i (omega arith))) (message_good (word b (20 + 8 * n)) (word b (22 + 8 * n)) (quad b (24 + 8 * n)) (h n (omega arith)))

  flags_said : (n : ℕ) → flags_hold n ≡ true → (n ≡ 0) ⊎ (n ≡ 1)
  flags_said n h = go (eqb n 0) refl
    where
      go : (t : Bool) → eqb n 0 ≡ t → (n ≡ 0) ⊎ (n ≡ 1)
      go true e = inl (eqb-true n 0 e)
      go false e = let f = eqb-false n 0 e in inr (omega (arith, leb-true n 1 h))

  held_layout : fields_hold b ≡ true → InLayout b
  unfolding place_at fields_hold header_holds
  held_layout h =
      let f = field_facts b h in
      record {
        layout = f.layout;
        leaving = flags_said (word b 2) f.flag;
        station = (in_range_lem (quad b 4)).0 f.number;
        left = maybe_ranged (quad b 8) (search (and_left, and_right) depth 10);
        right = maybe_ranged (quad b 12) (search (and_left, and_right) depth 10);
        count = f.count;
        site = leb-true (word b 18) 9999 f.site;
        messages = λ i k. good_message (word b (20 + 8 * i)) (word b (22 + 8 * i)) (quad b (24 + 8 * i)) (good_below b i (word b 16) f.places k);
        zeros = λ i low high. go f.count f.unused f.filler i low high (leb 276 i) refl;
      }
    where
      go : word b 16 ≤ 32 → all_zero (part b (20 + 8 * word b 16) 276) ≡ true → all_zero (part b 276 510) ≡ true
          → (i : ℕ) → 20 + 8 * word b 16 ≤ i → i < 510 → (t : Bool) → leb 276 i ≡ t → get_or b i 0 ≡ 0
      go few unused filler i low high true e = zero_at b 276 510 filler i (leb-true 276 i e) high
      go few unused filler i low high false e = zero_at b (20 + 8 * word b 16) 276 unused i low (leb-false 276 i e)

  layout_held : InLayout b → fields_hold b ≡ true
  unfolding fields_hold header_holds rest_holds
  layout_held l =
      let few = l.count in
      rw (
        eq-eqb (word b 0) 1 l.layout,
        le-leb (word b 2) 1 (⊎_elim (λ (e : word b 2 ≡ 0). omega arith) (λ (e : word b 2 ≡ 1). omega arith) l.leaving),
        (in_range_lem (quad b 4)).1 l.station,
        ranged_maybe (quad b 8) l.left,
        ranged_maybe (quad b 12) l.right,
        le-leb (word b 16) 32 l.count,
        le-leb (word b 18) 9999 l.site,
        places_good (word b 16) l.messages,
        at_zero b (20 + 8 * word b 16) 276 (λ i low high. l.zeros i low (omega arith)),
        at_zero b 276 510 (λ i low high. l.zeros i (omega arith) high),
      )

pub fields_tested : FieldsTested
fields_tested b = (held_layout b, layout_held b)

-- the sides
misplaced : (d : Side) (p n : ℕ) → (lies_beyond d p (neighbour_of n) ≡ false) ↔ Misplaced d p n
unfolding lies_beyond neighbour_of
misplaced d p n = go (eqb n 0) refl
  where
    go : (t : Bool) → eqb n 0 ≡ t → (lies_beyond d p (cond t None (Some n)) ≡ false) ↔ Misplaced d p n
    go true e = (λ k. clash refl k, λ w. absurd (w.0 (eqb-true n 0 e)))
    go false e = (λ k. (eqb-false n 0 e, λ y. clash (true_beyond d p n y) k), λ w. fails (beyond d p n) (λ y. w.1 (beyond_true d p n y)))

pub sides_tested : SidesTested
unfolding has_sides node_of station_of
sides_tested b =
    let l = misplaced Left (quad b 4) (quad b 8) in
    let r = misplaced Right (quad b 4) (quad b 12) in
    (λ h. go l r (lies_beyond Left (quad b 4) (neighbour_of (quad b 8))) refl h, back l r)
  where
    go : (lies_beyond Left (quad b 4) (neighbour_of (quad b 8)) ≡ false) ↔ Misplaced Left (quad b 4) (quad b 8)
        → (lies_beyond Right (quad b 4) (neighbour_of (quad b 12)) ≡ false) ↔ Misplaced Right (quad b 4) (quad b 12)
        → (t : Bool) → lies_beyond Left (quad b 4) (neighbour_of (quad b 8)) ≡ t → (t && lies_beyond Right (quad b 4) (neighbour_of (quad b 12))) ≡ false → WrongSide b
    go l r true e h = inr (r.0 h)
    go l r false e h = inl (l.0 e)

    back : (lies_beyond Left (quad b 4) (neighbour_of (quad b 8)) ≡ false) ↔ Misplaced Left (quad b 4) (quad b 8)
        → (lies_beyond Right (quad b 4) (neighbour_of (quad b 12)) ≡ false) ↔ Misplaced Right (quad b 4) (quad b 12)
        → WrongSide b → (lies_beyond Left (quad b 4) (neighbour_of (quad b 8)) && lies_beyond Right (quad b 4) (neighbour_of (quad b 12))) ≡ false
    back l r (inl w) = rw (l.1 w)
    back l r (inr w) = rw (r.1 w) (and-false (lies_beyond Left (quad b 4) (neighbour_of (quad b 8))))

-- the stations that are named: messages by their places
module _ (b : List ℕ) where
  message_placed : (n : ℕ) {m : Message} → Member m (messages b n) → (i : ℕ) × (i < n) × (m ≡ message_of (place_at b i))
  unfolding messages
  message_placed zero k = absurd (Memᴰ.not-nil k)
  message_placed (suc n) k = go (message_placed n) (Memᴰ.append_cases (messages b n) k)
    where
      go : {m : Message} → (Member m (messages b n) → (i : ℕ) × (i < n) × (m ≡ message_of (place_at b i)))
          → Member m (messages b n) ⊎ Member m (message_of (place_at b n) ∷ []) → (i : ℕ) × (i < suc n) × (m ≡ message_of (place_at b i))
      go r (inl h) = let w = r h in (w.0, omega (arith, w.1), w.2)
      go r (inr h) = (n, omega arith, Memᴰ.eq_of_singleton h)

  placed_message : (i n : ℕ) → i < n → Member (message_of (place_at b i)) (messages b n)
  unfolding messages
  placed_message i zero h = absurd (omega arith)
  placed_message i (suc n) h =
      ⊎_elim (λ (e : i ≡ n). Memᴰ.append_right (messages b n) (here (ap (λ (k : ℕ). message_of (place_at b k)) e)))
      (λ (k : i < n). Memᴰ.append_left (message_of (place_at b n) ∷ []) (placed_message i n k)) (eq-or-lt_of_le (le_of_suc-le-suc h))

  module _ (good : fields_hold b ≡ true) (q : ℕ) where
    -- place i introduces q exactly when it is of kind 1 and has that number
    introduces : (i : ℕ) → i < word b 16 → (introduction q ≡ message_of (place_at b i)) ↔ ((word b (20 + 8 * i) ≡ 1) × (quad b (24 + 8 * i) ≡ q))
    unfolding place_at
    introduces i h =
        let k = word b (20 + 8 * i) in
        let n = quad b (24 + 8 * i) in
        let s = place_says k (word b (22 + 8 * i)) n (good_below b i (word b 16) (field_facts b good).places h) in (
          λ e. (sym s.kind_is ∙ ap (λ (m : Message). kind m.content) (sym e), sym s.number_is ∙ ap (λ (m : Message). carried m.content) (sym e)),
          λ w. of_kind_lem (message_of (place_of k (word b (22 + 8 * i)) n)) (s.kind_is ∙ w.0) (s.number_is ∙ w.1),
        )
      where
        of_content : (c : Content) → kind c ≡ 1 → carried c ≡ q → Introduction q ≡ c
        of_content (Introduction n) e f = ap Introduction (sym f)
        of_content RemoveLeft e f = absurd (omega arith)
        of_content RemoveRight e f = absurd (omega arith)

        of_kind_lem : (m : Message) → kind m.content ≡ 1 → carried m.content ≡ q → introduction q ≡ m
        of_kind_lem m e f = ap (λ (c : Content). record { content = c }) (of_content m.content e f)

neighbour_is : (n q : ℕ) → (neighbour_of n ≡ Some q) ↔ ((q ≢ 0) × (n ≡ q))
unfolding neighbour_of
neighbour_is n q = go (eqb n 0) refl
  where
    go : (t : Bool) → eqb n 0 ≡ t → (cond t None (Some n) ≡ Some q) ↔ ((q ≢ 0) × (n ≡ q))
    go true e = (λ h. none_station h, λ w. absurd (w.0 (sym w.1 ∙ eqb-true n 0 e)))
    go false e = (λ h. let i : n ≡ q = station_inj h in (λ (z : q ≡ 0). eqb-false n 0 e (i ∙ z), i), λ w. ap Some w.1)

pub names_linked : NamesLinked
unfolding node_of station_of
names_linked b good q = (forth, back)
  where
    forth : Linked (node_of b) q → Names b q
    forth (by_neighbour Left h) = let w = (neighbour_is (quad b 8) q).0 h in inl (w.0, inl w.1)
    forth (by_neighbour Right h) = let w = (neighbour_is (quad b 12) q).0 h in inl (w.0, inr w.1)
    forth (by_introduction m) =
        let w = message_placed b (word b 16) m in
        let k = (introduces b good q w.0 w.1).0 w.2 in
        inr (w.0, w.1, k.0, k.1)

    back : Names b q → Linked (node_of b) q
    back (inl (z, inl h)) = by_neighbour Left ((neighbour_is (quad b 8) q).1 (z, h))
    back (inl (z, inr h)) = by_neighbour Right ((neighbour_is (quad b 12) q).1 (z, h))
    back (inr (i, h, k, n)) = by_introduction (Memᴰ.cast ((introduces b good q i h).1 (k, n)) (placed_message b i (word b 16) h))
