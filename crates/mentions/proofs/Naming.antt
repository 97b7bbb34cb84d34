-- Where a station that another one names stands in the index.
use Prim.Native.Nat.{ℕ}
use Rattle.std.specs.Prelude.{Some, None}
use Rattle.line.specs.Types.{Neighbour}
use mathlib.Core.Path.{◌≡◌, refl, sym, ◌∙◌}
use mathlib.Core.Logic.{◌≢◌}
use mathlib.Core.Bool.{Bool, true, false, not, ◌&&◌, and-false}
use mathlib.Core.List.{List}
use lib.Dec.{eqb}
use borrow.Author.Tests.{eqb-true, eqb-false, eq-eqb, ne_eqb}
use Rattle.lists.specs.Places.{first_at}
use Rattle.lists.proofs.Lists.{and_both}
use Rattle.lists.proofs.Firsts.{first_same}
use Rattle.line.specs.declared.Content.{Content}
use Rattle.line.specs.declared.Content.TheVariants.{Introduction, RemoveLeft, RemoveRight}
use Rattle.line.specs.declared.Message.{Message}
use Rattle.line.specs.Message.{kind, carried, same}
use Rattle.line.specs.Nidec.{is_neighbour}
use Rattle.index.specs.Index.{numbers_in}
use Rattle.mentions.specs.Tally.{is_other, is_beside, is_introduced}

-- Station p names station q, another than itself.
module _ (p q : ℕ) where
  another : p ≢ q → (m : ℕ) → eqb q m ≡ is_other p q m
  another d m = go (eqb m q) refl
    where
      go : (b : Bool) → eqb m q ≡ b → eqb q m ≡ (not (eqb p m) && b)
      go true f = rw (eq-eqb q m (sym (eqb-true m q f)), ne_eqb p m (λ (e : p ≡ m). d (e ∙ eqb-true m q f)))
      go false f = rw (ne_eqb q m (λ (e : q ≡ m). eqb-false m q f (sym e))) (sym (and-false (not (eqb p m))))

  pub place_another : (p ≡ q → ⊥) → (index : List ℕ) {i : ℕ} → i ≡ first_at (eqb q) (numbers_in index) → i ≡ first_at (is_other p q) (numbers_in index)
  place_another d index e = e ∙ first_same (eqb q) (is_other p q) (another d) (numbers_in index)

  -- no two stations are named at once
  pub other_one : (m k : ℕ) → is_other p q m ≡ true → is_other p q k ≡ true → m ≡ k
  other_one m k h j = eqb-true m q (and_both (not (eqb p m)) _ h).1 ∙ sym (eqb-true k q (and_both (not (eqb p k)) _ j).1)

-- No neighbour is nobody; a neighbour is the station that is named.
module _ (p : ℕ) (n : Neighbour) where
  pub beside_nobody : n ≡ None → (m : ℕ) → is_beside p n m ≡ false
  unfolding is_neighbour
  beside_nobody e m = rw (e, and-false)

  pub beside_station : (q : ℕ) → n ≡ Some q → (m : ℕ) → is_other p q m ≡ is_beside p n m
  unfolding is_neighbour
  beside_station q e m = rw e

-- A removal introduces nobody; an introduction, the station that is named.
module _ (p : ℕ) (x : Message) where
  pub nobody_introduced : ((q : ℕ) → x.content ≡ Introduction q → ⊥) → (m : ℕ) → is_introduced p x m ≡ false
  unfolding same
  nobody_introduced h m = go x.content refl
    where
      go : (c : Content) → x.content ≡ c → (not (eqb p m) && (eqb 1 (kind c) && eqb m (carried c))) ≡ false
      go (Introduction q) e = absurd (h q e)
      go RemoveLeft e = and-false (not (eqb p m))
      go RemoveRight e = and-false (not (eqb p m))

  pub station_introduced : (q : ℕ) → x.content ≡ Introduction q → (m : ℕ) → is_other p q m ≡ is_introduced p x m
  unfolding same
  station_introduced q e m = rw e
