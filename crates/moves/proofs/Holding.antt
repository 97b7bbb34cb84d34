-- Whether a station may leave, by its own bag and by the nodes of the line one after another: none of the first j holds it.
use mathlib.Core.Path.{◌≡◌, refl, sym, ap, ◌∙◌}
use Rattle.std.specs.Prelude.{Option, Some, None, Ok, Err}
use Rattle.line.specs.Types.{Leave, Neighbour}
use mathlib.Core.Bool.{Bool, true, false, cond, not, ◌&&◌, ◌||◌}
use mathlib.Core.List.{List, [], ◌∷◌}
use Prim.Native.Nat.{ℕ, suc, ◌+◌, ◌≤◌, ◌<◌}
use native.Mathlib.Numerals.{add-one}
use native.Mathlib.Omega.{arith}
use lib.Dec.{eqb, ltb, leb-suc-suc}
use lib.ListN.{length, get_or, drop, drop_of_length-le, length-map, get_or-map}
use lib.Seq.{drop-cons}
use borrow.Author.Tests.{eq-eqb, ne_eqb, lt-ltb, le-ltb}
use Rattle.lists.specs.Lists.{any}
use Rattle.lists.specs.Places.{first_at}
use Rattle.lists.specs.Numbers.{Rising}
use Rattle.lists.proofs.Lists.{clash, mem-map}
use Rattle.lists.proofs.Elements.{member_at}
use Rattle.line.specs.declared.Message.{Message}
use Rattle.line.specs.declared.Station as declared
use Rattle.line.specs.declared.Reason.TheVariants.{OwnBag, HeldBy}
use Rattle.line.specs.Message.{introduction, same, holds}
use Rattle.line.specs.Node.{Node, Line, number, numbers, nobody}
use Rattle.line.specs.Nidec.{is_neighbour, names, is_empty}
use Rattle.line.specs.Accepted.{Accepted}
use Rattle.line.specs.Leave.{is_holder, smaller, holder_of, held_by, leave_of}
use Rattle.line.proofs.LeaveTest.{Found, holder_found as holder-found-in}
use Rattle.index.specs.Index.{number_in, numbers_in}
use Rattle.index.proofs.Entries.{numbers_length, number_at}
use Rattle.moves.specs.Holders.{may_hold, leave_from}

-- whether p is a neighbour
pub neighbour_none : (p : ℕ) (n : Neighbour) → n ≡ None → false ≡ is_neighbour p n
unfolding is_neighbour
neighbour_none p n e = rw e

pub neighbour_same : (p : ℕ) (n : Neighbour) (q : ℕ) → n ≡ Some q → eqb p q ≡ is_neighbour p n
unfolding is_neighbour
neighbour_same p n q e = rw e

-- none of the first j nodes holds p
pub record NoneTo (p : ℕ) (line : Line) (j : ℕ) : Type 0 where
  pub within : j ≤ length line
  pub is : first_at (is_holder p) line ≡ j + first_at (is_holder p) (drop j line)

pub none_yet : {p : ℕ} {line : Line} → NoneTo p line 0
none_yet = record { within = omega arith; is = omega arith }

module _ {p : ℕ} {line : Line} {j : ℕ} (so_far : NoneTo p line j) where
  -- the node at j is asked
  pub none_next : j < length line → is_holder p (get_or line j nobody) ≡ false → NoneTo p line (j + 1)
  unfolding first_at
  none_next h e = record { within = omega arith; is = so_far.is ∙ rw (drop-cons line j nobody h, e, add-one) (omega arith) }

  pub holder_found : j < length line → is_holder p (get_or line j nobody) ≡ true → j ≡ first_at (is_holder p) line
  unfolding first_at
  holder_found h e = sym (so_far.is ∙ rw (drop-cons line j nobody h, e) (omega arith))

  pub none_holds : length line ≤ j → j ≡ first_at (is_holder p) line
  unfolding first_at
  none_holds h = sym (so_far.is ∙ rw (drop_of_length-le line h) (omega arith))

-- a bag is empty where its count is 0
empty_counted : (b : List Message) (c : ℕ) → c ≡ length b → is_empty b ≡ eqb c 0
unfolding is_empty
empty_counted [] c e = rw e
empty_counted (m ∷ b) c e = sym (ne_eqb c 0 (λ (z : c ≡ 0). omega arith))

-- In written order the smallest that holds p is the first.
abbrev held_at : List ℕ → ℕ → Leave
held_at numbers j = cond (ltb j (length numbers)) (Err (HeldBy (get_or numbers j 0))) (Ok tt)

first_held : (p : ℕ) (line : Line) → Rising (numbers line) → held_at (numbers line) (first_at (is_holder p) line) ≡ held_by (holder_of p line)
unfolding first_at holder_of
first_held p [] r = refl
first_held p (s ∷ line) r = go (is_holder p s) (holder_of p line) (holder-found-in p line) (first_held p line r.1)
  where
    stays : (o : Option ℕ) → Found p line o → smaller true (number s) o ≡ Some (number s)
    stays None h = refl
    stays (Some q) w = rw (le-ltb q (number s) (omega (arith, r.0 (number w.node) (mem-map number w.member), w.named)))

    go : (b : Bool) (o : Option ℕ) → Found p line o → held_at (numbers line) (first_at (is_holder p) line) ≡ held_by o
        → held_at (numbers (s ∷ line)) (cond b 0 (suc (first_at (is_holder p) line))) ≡ held_by (smaller b (number s) o)
    go true o w e = rw (lt-ltb 0 (suc (length (numbers line))) (omega arith), stays o w)
    go false o w e = rw (leb-suc-suc (suc (first_at (is_holder p) line)) (length (numbers line))) e

-- so the count of the own bag and the place of the first that holds it tell whether a station may leave
pub leave_counted_lem : (line : Line) (s : Node) → Rising (numbers line) → (c j : ℕ) → c ≡ length s.bag → j ≡ first_at (is_holder (number s)) line → leave_from (numbers line) c j ≡ leave_of line s
unfolding leave_of
leave_counted_lem line s r c j e f = rw (← empty_counted s.bag c e, f, first_held (number s) line r)

-- an index that has the numbers of an accepted line has no other numbers than the paper's
pub entry_ranged : (line : Line) (index : List ℕ) → Accepted line → numbers_in index ≡ numbers line → (j : ℕ) → j < length index → number_in (get_or index j 0) ≤ 999999
entry_ranged line index ok listed j h =
    let named : number_in (get_or index j 0) ≡ number (get_or line j nobody) = sym (number_at index j) ∙ ap (λ (l : List ℕ). get_or l j 0) listed ∙ get_or-map number line j nobody in
    omega
    (arith, named, (ok.ranged (get_or line j nobody) (member_at line j nobody (omega (arith, numbers_length index, ap length listed, length-map line number)))).1)

-- a station number fits a word of 32 bits
pub fits_word : (index : List ℕ) (j : ℕ) → (j < length index → number_in (get_or index j 0) ≤ 999999) → j < length index → number_in (get_or index j 0) < 4294967296
fits_word index j h k = omega (arith, h k)

-- of an index that has the line's numbers: the own bag is not empty, somebody holds, or nobody does
module _ (index : List ℕ) (c j : ℕ) where
  pub from_bag : (c ≡ 0 → ⊥) → Err OwnBag ≡ leave_from (numbers_in index) c j
  from_bag h = rw (ne_eqb c 0 h)

  module _ (empty : c ≡ 0) where
    pub from_holder : j < length index → Err (HeldBy (number_in (get_or index j 0))) ≡ leave_from (numbers_in index) c j
    from_holder h = rw (eq-eqb c 0 empty, numbers_length index, lt-ltb j (length index) h, number_at index j)

    pub from_nobody : length index ≤ j → (Ok tt) ≡ leave_from (numbers_in index) c j
    from_nobody h = rw (eq-eqb c 0 empty, numbers_length index, le-ltb j (length index) h)

-- whether one may hold, by its two sides
pub may_hold_by : (p : ℕ) (s : declared.Station) (c : ℕ) {l r : Bool} → l ≡ is_neighbour p s.left → r ≡ is_neighbour p s.right
    → (not (eqb s.number p) && ((l || r) || not (eqb c 0))) ≡ may_hold p s c
may_hold_by p s c f g = rw (f, g)

-- one that cannot hold does not, whatever its bag
pub holds_not : (p : ℕ) (s : declared.Station) (b : List Message) (c : ℕ) → c ≡ length b → may_hold p s c ≡ false → is_holder p (record { station = s; bag = b }) ≡ false
unfolding names any
holds_not p s b c e h = go (eqb s.number p) (is_neighbour p s.left) (is_neighbour p s.right) b e h
  where
    go : (t l r : Bool) (b : List Message) → c ≡ length b → (not t && ((l || r) || not (eqb c 0))) ≡ false → (not t && (l || (r || any (same (introduction p)) b))) ≡ false
    go true l r b e h = refl
    go false true r b e h = h
    go false false true b e h = h
    go false false false [] e h = refl
    go false false false (m ∷ b) e h = clash (rw (ne_eqb c 0 (λ (z : c ≡ 0). omega arith))) h

-- Whether one station holds: it is p itself; p is its left; its right; its bag tells.
module _ (p : ℕ) (s : declared.Station) (b : List Message) where
  pub holder_itself : s.number ≡ p → false ≡ is_holder p (record { station = s; bag = b })
  holder_itself e = rw (eq-eqb s.number p e)

  module _ (other : s.number ≡ p → ⊥) {l : Bool} (l-is : l ≡ is_neighbour p s.left) where
    pub holder_left : l ≡ true → true ≡ is_holder p (record { station = s; bag = b })
    unfolding names
    holder_left e = rw (ne_eqb s.number p other, ← l-is, e)

    module _ (no_left : l ≡ false) {r : Bool} (r-is : r ≡ is_neighbour p s.right) where
      pub holder_right : r ≡ true → true ≡ is_holder p (record { station = s; bag = b })
      unfolding names
      holder_right e = rw (ne_eqb s.number p other, ← l-is, no_left, ← r-is, e)

      pub holder_bag : r ≡ false → {t : Bool} → t ≡ holds (introduction p) b → t ≡ is_holder p (record { station = s; bag = b })
      unfolding names
      holder_bag e f = f ∙ rw (ne_eqb s.number p other, ← l-is, no_left, ← r-is, e)
