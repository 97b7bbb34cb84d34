-- The check refuses a table by the first cause that applies.
use Prim.Native.Nat.{ℕ, zero, suc, ◌/◌, ◌%◌, ◌<◌}
use Rattle.std.specs.Prelude.{Some, None}
use Rattle.line.specs.Types.{Neighbour}
use mathlib.Core.Path.{◌≡◌, refl, sym, ap, subst, ◌∙◌}
use mathlib.Core.Logic.{◌↔◌, ◌≢◌}
use mathlib.Core.Bool.{Bool, true, false, not, ◌&&◌}
use mathlib.Core.List.Memᴰ
use mathlib.Core.List.{List, [], ◌∷◌, map}
use native.Mathlib.Omega.{arith}
use lib.Dec.{eqb}
use lib.ListN.{length, get_or, length-map}
use borrow.Author.Tests.{eqb-true, eqb-false, ne_eqb, not-false, leb-true, leb-false}
use Rattle.lists.specs.Lists.{all}
use Rattle.lists.specs.Numbers.{Distinct, are_distinct}
use Rattle.lists.proofs.Lists.{clash, fails, all_true, all_false, map-mem, mem-map}
use Rattle.lists.proofs.Distinct.{are_distinct_lem}
use Rattle.lists.proofs.Elements.{member_at, member_place, map_at}
use Rattle.refusals.specs.Refusals.{Refusal, Refuses}
use Rattle.refusals.proofs.Refusing.{tested, refuses_exactly}
use Rattle.line.specs.declared.Content.{Content}
use Rattle.line.specs.declared.Content.TheVariants.{Introduction, RemoveLeft, RemoveRight}
use Rattle.line.specs.declared.Message.{Message}
use Rattle.line.specs.declared.Side.TheVariants.{Left, Right}
use Rattle.line.specs.Links.{Linked, by_neighbour, by_introduction}
use Rattle.line.specs.Node.{Node, Line, number, numbers, Present}
use Rattle.line.specs.Accepted.{has_sides, is_present, knows_neighbour, knows_content, names_present}
use Rattle.line.proofs.AcceptedTest.{is_present_lem, names_present_lem}
use Rattle.octets.specs.Bytes.{quad, sum_words}
use Rattle.block.specs.Layout.{check_holds, fields_hold, station_of, node_of}
use Rattle.block.specs.Claims.{InLayout, WrongSide, Names}
use Rattle.block.proofs.Tested.{fields_tested, sides_tested, names_linked}
use Rattle.table.specs.Blocks.{block_at, blocks, nodes}
use Rattle.table.specs.Fault.{Test, first_failing, fault_of}
use Rattle.table.specs.Refusals.{SomeBlock, HasBlock, TwoBlocks, table_refusals}
use Rattle.table.specs.Claims.{FaultExactly}
use Rattle.table.proofs.BlockLaws.{blocks_length, nodes_length, block_at_lem}

-- a test of every block, and the cause that some block is
module _ (t : List ℕ) (f : List ℕ → Bool) (P : List ℕ → Type 0) (tests : (b : List ℕ) → (f b ≡ false) ↔ P b) where
  some_fails : all f (blocks t) ≡ false → SomeBlock t P
  some_fails e = let w = all_false f (blocks t) e in (w.0, w.1, (tests w.0).0 w.2)

  none_fails : all f (blocks t) ≡ true → ¬ SomeBlock t P
  none_fails e w = clash (all_true f e w.1) ((tests w.0).1 w.2)

check_fails : (b : List ℕ) → (check_holds b ≡ false) ↔ (sum_words b % 65536 ≢ 65535)
unfolding check_holds
check_fails b = (eqb-false (sum_words b % 65536) 65535, ne_eqb (sum_words b % 65536) 65535)

fields_fail : (b : List ℕ) → (fields_hold b ≡ false) ↔ (¬ InLayout b)
fields_fail b = let w = fields_tested b in (λ e l. clash (w.1 l) e, λ h. fails (fields_hold b) (λ e. h (w.0 e)))

-- two equal numbers
twice : (l : List ℕ) → are_distinct l ≡ false → (i : ℕ) × (j : ℕ) × (i < j) × (j < length l) × (get_or l i 0 ≡ get_or l j 0)
unfolding are_distinct
twice [] e = clash refl e
twice (n ∷ l) e = go (all (λ (k : ℕ). not (eqb n k)) l) refl e (twice l)
  where
    go : (t : Bool) → all (λ (k : ℕ). not (eqb n k)) l ≡ t → (t && are_distinct l) ≡ false
        → (are_distinct l ≡ false → (i : ℕ) × (j : ℕ) × (i < j) × (j < length l) × (get_or l i 0 ≡ get_or l j 0))
        → (i : ℕ) × (j : ℕ) × (i < j) × (j < length (n ∷ l)) × (get_or (n ∷ l) i 0 ≡ get_or (n ∷ l) j 0)
    go true h e r = let w = r e in (suc w.0, suc w.1, omega (arith, w.2), omega (arith, w.3), w.4)
    go false h e r =
        let w = all_false (λ (k : ℕ). not (eqb n k)) l h in
        let p = member_place 0 w.1 in
        (0, suc p.0, omega arith, omega (arith, p.1), eqb-true n w.0 (not-false (eqb n w.0) w.2) ∙ sym p.2)

once : (l : List ℕ) → Distinct l → (i j : ℕ) → i < j → j < length l → get_or l i 0 ≢ get_or l j 0
once [] d i j h k e = absurd (omega arith)
once (n ∷ l) d zero zero h k e = absurd (omega arith)
once (n ∷ l) d zero (suc j) h k e = d.0 (get_or l j 0) (member_at l j 0 (omega arith)) e
once (n ∷ l) d (suc i) zero h k e = absurd (omega arith)
once (n ∷ l) d (suc i) (suc j) h k e = once l d.1 i j (omega arith) (omega arith) e

module _ (t : List ℕ) where
  -- the station number of block k
  number_at : (k : ℕ) → k < length t / 512 → get_or (numbers (nodes t)) k 0 ≡ quad (block_at t k) 4
  unfolding nodes node_of station_of
  number_at k h =
      let n = blocks_length t in
      map_at number (map node_of (blocks t)) k (node_of (block_at t 0)) 0 (omega (arith, length-map (blocks t) node_of))
      ∙ ap number (map_at node_of (blocks t) k (block_at t 0) (node_of (block_at t 0)) (omega arith) ∙ ap node_of (block_at_lem t k h))

  numbers_length : length (numbers (nodes t)) ≡ length t / 512
  numbers_length = length-map (nodes t) number ∙ nodes_length t

  two_blocks_lem : are_distinct (numbers (nodes t)) ≡ false → TwoBlocks t
  two_blocks_lem e =
      let w = twice (numbers (nodes t)) e in
      let n = numbers_length in
      let j : w.1 < length t / 512 = omega (arith, w.3) in
      (w.0, w.1, w.2, j, sym (number_at w.0 (omega (arith, w.2))) ∙ w.4 ∙ number_at w.1 j)

  one_block : are_distinct (numbers (nodes t)) ≡ true → ¬ TwoBlocks t
  one_block e w =
      let n = numbers_length in
      let same : get_or (numbers (nodes t)) w.0 0 ≡ get_or (numbers (nodes t)) w.1 0 =
      number_at w.0 (omega (arith, w.2, w.3)) ∙ w.4 ∙ sym (number_at w.1 w.3) in
      once (numbers (nodes t)) ((are_distinct_lem (numbers (nodes t))).0 e) w.0 w.1 w.2 (omega (arith, w.3)) same

  -- a station is present exactly when it has a block
  pub present_block : (q : ℕ) → Present (nodes t) q ↔ HasBlock t q
  unfolding nodes node_of station_of
  present_block q = (
    λ m. let w = map-mem number (map node_of (blocks t)) m in let v = map-mem node_of (blocks t) w.1 in (v.0, v.1, sym (w.2 ∙ ap number v.2)),
    λ w. Memᴰ.cast (sym w.2) (mem-map number (mem-map node_of w.1)),
  )

-- a station that is named and not present
module _ (line : Line) where
  abbrev Unknown : (ℕ → Type 0) → Type 0
  Unknown P = (q : ℕ) × P q × ¬ Present line q

  absent : (q : ℕ) → is_present line q ≡ false → ¬ Present line q
  absent q e m = clash ((is_present_lem line q).1 m) e

  unknown_neighbour : (k : Neighbour) → knows_neighbour line k ≡ false → Unknown (λ q. k ≡ Some q)
  unfolding knows_neighbour
  unknown_neighbour None e = clash refl e
  unknown_neighbour (Some q) e = (q, refl, absent q e)

  unknown_content : (c : Content) → knows_content line c ≡ false → Unknown (λ q. Introduction q ≡ c)
  unfolding knows_content
  unknown_content (Introduction q) e = (q, refl, absent q e)
  unknown_content RemoveLeft e = clash refl e
  unknown_content RemoveRight e = clash refl e

  heard : Message → Bool
  heard m = knows_content line m.content

  unknown : (s : Node) → names_present line s ≡ false → Unknown (Linked s)
  unfolding names_present heard
  unknown s e = go (knows_neighbour line s.station.left) refl (knows_neighbour line s.station.right) refl e
    where
      go : (l : Bool) → knows_neighbour line s.station.left ≡ l → (r : Bool) → knows_neighbour line s.station.right ≡ r
          → ((l && r) && all heard s.bag) ≡ false → Unknown (Linked s)
      go true p true q h =
          let w = all_false heard s.bag h in
          let v = unknown_content w.0.content w.2 in
          (v.0, by_introduction (Memᴰ.cast (ap (λ (c : Content). record { content = c }) v.1) w.1), v.2)
      go true p false q h = let w = unknown_neighbour s.station.right q in (w.0, by_neighbour Right w.1, w.2)
      go false p r q h = let w = unknown_neighbour s.station.left p in (w.0, by_neighbour Left w.1, w.2)

-- of blocks inside the layout
module _ (t : List ℕ) (good : all fields_hold (blocks t) ≡ true) where
  abbrev NamesAbsent : List ℕ → Type 0
  NamesAbsent b = (q : ℕ) × Names b q × ¬ HasBlock t q

  names_absent : all (names_present (nodes t)) (nodes t) ≡ false → SomeBlock t NamesAbsent
  unfolding nodes
  names_absent e =
      let w = all_false (names_present (nodes t)) (nodes t) e in
      let v = map-mem node_of (blocks t) w.1 in
      let u = unknown (nodes t) w.0 w.2 in
      (v.0, v.1, (u.0, (names_linked v.0 (all_true fields_hold good v.1) u.0).0 (subst (λ (s : Node). Linked s u.0) v.2 u.1), λ h. u.2 ((present_block t u.0).1 h)))

  names_known : all (names_present (nodes t)) (nodes t) ≡ true → ¬ SomeBlock t NamesAbsent
  unfolding nodes
  names_known e w =
      let s = node_of w.0 in
      let known = (names_present_lem (nodes t) s).0 (all_true (names_present (nodes t)) e (mem-map node_of w.1)) in
      let x = w.2 in
      x.2 ((present_block t x.0).0 (known x.0 ((names_linked w.0 (all_true fields_hold good w.1) x.0).1 x.1)))

-- a test of every station of a table is one of every block
all_nodes : (f : Node → Bool) (l : List (List ℕ)) → all f (map node_of l) ≡ all (λ (b : List ℕ). f (node_of b)) l
unfolding all
all_nodes f [] = refl
all_nodes f (b ∷ l) = rw (all_nodes f l)

module _ (t : List ℕ) where
  sides_fail : all has_sides (nodes t) ≡ false → SomeBlock t WrongSide
  unfolding nodes
  sides_fail e = some_fails t (λ (b : List ℕ). has_sides (node_of b)) WrongSide sides_tested (sym (all_nodes has_sides (blocks t)) ∙ e)

  sides_hold : all has_sides (nodes t) ≡ true → ¬ SomeBlock t WrongSide
  unfolding nodes
  sides_hold e = none_fails t (λ (b : List ℕ). has_sides (node_of b)) WrongSide sides_tested (sym (all_nodes has_sides (blocks t)) ∙ e)

-- tests beside refusals: each has the number of its refusal, and fails exactly where the cause applies, all before it holding
abbrev Agree : List Test → List Refusal → Type 0
Agree [] [] = Unit {0}
Agree [] (r ∷ m) = ⊥
Agree (x ∷ l) [] = ⊥
Agree (x ∷ l) (r ∷ m) = (x.number ≡ r.number) × (x.holds ≡ false → r.cause) × (x.holds ≡ true → (¬ r.cause) × Agree l m)

agreed : (l : List Test) (m : List Refusal) → Agree l m → Refuses m (first_failing l)
unfolding first_failing
agreed [] [] a = refl
agreed [] (r ∷ m) a = absurd a
agreed (x ∷ l) [] a = absurd a
agreed (x ∷ l) (r ∷ m) a =
    rw a.0 (tested (λ (n : ℕ). n ≡ 0) r m x.holds (first_failing l) a.1 (λ e. (a.2 e).0) (λ e. agreed l m (a.2 e).1))

pub table_refuses : (t : List ℕ) → Refuses (table_refusals t) (fault_of t)
unfolding fault_of
table_refuses t =
    agreed _ (table_refusals t) (
      refl,
      eqb-false (length t % 512) 0,
      λ e1. (
        λ h. h (eqb-true (length t % 512) 0 e1),
        (
          refl,
          leb-false (length t / 512) 64,
          λ e2. (
            λ h. omega (arith, leb-true (length t / 512) 64 e2),
            (
              refl,
              some_fails t check_holds _ check_fails,
              λ e3. (
                none_fails t check_holds _ check_fails e3,
                (
                  refl,
                  some_fails t fields_hold _ fields_fail,
                  λ e4. (
                    none_fails t fields_hold _ fields_fail e4,
                    (
                      refl,
                      sides_fail t,
                      λ e5. (
                        sides_hold t e5,
                        (
                          refl,
                          two_blocks_lem t,
                          λ e6. (
                            one_block t e6,
                            (refl, names_absent t e4, λ e7. (names_known t e4 e7, tt)),
                          ),
                        ),
                      ),
                    ),
                  ),
                ),
              ),
            ),
          ),
        ),
      ),
    )

pub fault_exactly : FaultExactly
fault_exactly t = refuses_exactly (table_refusals t) (fault_of t) (table_refuses t)
