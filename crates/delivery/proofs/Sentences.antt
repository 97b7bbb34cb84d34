-- The sentences of the text, each with its whole condition, say what the cases in their order say.
use mathlib.Core.Path.{◌≡◌, refl, sym, ap, subst, ◌∙◌}
use Rattle.std.specs.Prelude.{Some}
use mathlib.Core.Bool.{Bool, true, false}
use Prim.Native.Nat.{ℕ}
use lib.Dec.{eqb, ltb}
use borrow.Author.Tests.{eqb-true, eqb-false, eq-eqb, ne_eqb, ltb-true, ltb-false, lt-ltb, le-ltb}
use native.Mathlib.Omega.{arith}
use Rattle.lists.proofs.Lists.{clash}
use Rattle.line.specs.declared.Station as declared
use Rattle.line.specs.declared.Side.{Side}
use Rattle.line.specs.declared.Side.TheVariants.{Left, Right}
use Rattle.line.specs.Node.{with_neighbour}
use Rattle.line.specs.Act.{Reaction, unchanged}
use Rattle.line.specs.Report.{Id, −∞, +∞, process, Intro, less, mail}
use Rattle.delivery.specs.Lemma3.{below, equal, on_side, introduced}
use Rattle.delivery.specs.Claims.{Below, held, Sentences, SentencesPin}

module _ (id : ℕ) where
  -- the tests of a side, and what they say
  below_is : (d : Side) (q : Id) → Below d (process id) q → below d id q ≡ true
  unfolding below
  below_is Right q h = h
  below_is Left q h = h

  is_below : (d : Side) (q : Id) → below d id q ≡ true → Below d (process id) q
  unfolding below
  is_below Right q h = h
  is_below Left q h = h

  equal_itself : equal id (process id) ≡ true
  unfolding equal
  equal_itself = eq-eqb id id refl

  below_itself : (d : Side) → below d id (process id) ≡ false
  unfolding below less
  below_itself Right = le-ltb id id (omega arith)
  below_itself Left = le-ltb id id (omega arith)

  is_equal : (q : Id) → equal id q ≡ true → process id ≡ q
  unfolding equal
  is_equal −∞ h = clash h refl
  is_equal (process q) h = ap process (eqb-true id q h)
  is_equal +∞ h = clash h refl

  above_is : (d : Side) (q : Id) → Below d q (process id) → (below d id q ≡ false) × (equal id q ≡ false)
  unfolding below equal less
  above_is Right −∞ h = (refl, refl)
  above_is Right (process q) h = (le-ltb id q (omega (arith, ltb-true q id h)), ne_eqb id q (λ e. omega (arith, ltb-true q id h)))
  above_is Right +∞ h = clash h refl
  above_is Left −∞ h = clash h refl
  above_is Left (process q) h = (le-ltb q id (omega (arith, ltb-true id q h)), ne_eqb id q (λ e. omega (arith, ltb-true id q h)))
  above_is Left +∞ h = (refl, refl)

  is_above : (d : Side) (q : Id) → below d id q ≡ false → equal id q ≡ false → Below d q (process id)
  unfolding below equal less
  is_above Right −∞ h k = refl
  is_above Right (process q) h k = lt-ltb q id (omega (arith, ltb-false id q h, eqb-false id q k))
  is_above Right +∞ h k = clash refl h
  is_above Left −∞ h k = clash refl h
  is_above Left (process q) h k = lt-ltb id q (omega (arith, ltb-false q id h, eqb-false id q k))
  is_above Left +∞ h k = refl

  module _ (p : declared.Station) where
    introduced_itself : id ≡ p.number → introduced p id ≡ unchanged p
    unfolding introduced
    introduced_itself e = rw (eq-eqb id p.number e)

    -- id lies on side d of p
    introduced_on : (d : Side) → Below d (process p.number) (process id) → introduced p id ≡ on_side d p id (held d p)
    unfolding introduced less
    introduced_on Right h = rw (ne_eqb id p.number (λ e. omega (arith, ltb-true p.number id h)), h)
    introduced_on Left h = rw (ne_eqb id p.number (λ e. omega (arith, ltb-true id p.number h)), le-ltb p.number id (omega (arith, ltb-true id p.number h)))

    module _ (d : Side) (q : Id) where
      on_below : below d id q ≡ true → on_side d p id q ≡ record { station = with_neighbour d (Some id) p; sends = mail (Intro q) (process id) }
      unfolding on_side
      on_below h = rw h

      on_equal : below d id q ≡ false → equal id q ≡ true → on_side d p id q ≡ unchanged p
      unfolding on_side
      on_equal h k = rw (h, k)

      on_above : below d id q ≡ false → equal id q ≡ false → on_side d p id q ≡ record { station = p; sends = mail (Intro (process id)) q }
      unfolding on_side
      on_above h k = rw (h, k)

    sentences : Sentences p id (introduced p id)
    sentences = record {
      itself = introduced_itself;
      below = λ d s h. introduced_on d s ∙ on_below d (held d p) (below_is d (held d p) h);
      equal = λ d s e. introduced_on d s ∙ on_equal d (held d p) (subst (λ q. below d id q ≡ false) e (below_itself d)) (subst (λ q. equal id q ≡ true) e equal_itself);
      above = λ d s h. let w = above_is d (held d p) h in introduced_on d s ∙ on_above d (held d p) w.0 w.1;
    }

    module _ (r : Reaction) (c : Sentences p id r) where
      -- one of the sentences speaks of id, and it says what the cases say
      on_one : (d : Side) → Below d (process p.number) (process id) → r ≡ introduced p id
      on_one d s = go (below d id q) refl (equal id q) refl
        where
          q : Id
          q = held d p

          go : (t : Bool) → below d id q ≡ t → (u : Bool) → equal id q ≡ u → r ≡ introduced p id
          go true h u k = c.below d s (is_below d q h) ∙ sym (sentences.below d s (is_below d q h))
          go false h true k = c.equal d s (is_equal q k) ∙ sym (sentences.equal d s (is_equal q k))
          go false h false k = c.above d s (is_above d q h k) ∙ sym (sentences.above d s (is_above d q h k))

      only : r ≡ introduced p id
      unfolding less
      only = go (eqb id p.number) refl (ltb p.number id) refl
        where
          go : (t : Bool) → eqb id p.number ≡ t → (u : Bool) → ltb p.number id ≡ u → r ≡ introduced p id
          go true e u h = c.itself (eqb-true id p.number e) ∙ sym (introduced_itself (eqb-true id p.number e))
          go false e true h = on_one Right h
          go false e false h = on_one Left (lt-ltb id p.number (omega (arith, ltb-false p.number id h, eqb-false id p.number e)))

pub sentences_pin : SentencesPin
sentences_pin p id r = (λ e. subst (Sentences p id) (sym e) (sentences id p), λ c. only id p r c)
