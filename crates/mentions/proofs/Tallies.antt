-- One mention more: the count of the station that is mentioned rises, and the smallest that mentions it is the smaller of two.
use Prim.Native.Nat.{ℕ, suc, min, ◌+◌, ◌≤◌}
use Rattle.std.specs.Prelude.{Option, Some, None}
use mathlib.Core.Path.{◌≡◌, refl, sym, ap, ◌∙◌}
use mathlib.Core.Bool.{Bool, true, false, cond}
use mathlib.Core.List.{List, [], ◌∷◌, map}
use native.Mathlib.Omega.{arith}
use lib.Dec.{eqb, ltb}
use lib.ListN.{length, get_or, set}
use lib.Seq.{set_out, get_or-set_same, get_or-set_other}
use borrow.Author.Tests.{eqb-true, eqb-false, ltb-true, ltb-false, leb-true, leb-false}
use lib.Dec.{leb}
use Rattle.lists.specs.Places.{first_at}
use Rattle.lists.specs.Numbers.{Rising}
use Rattle.lists.proofs.Lists.{fails}
use Rattle.lists.proofs.Elements.{map_same}
use Rattle.line.specs.Leave.{smaller}
use Rattle.mentions.specs.Mentions.{once}
use Rattle.mentions.specs.Tally.{lowest, lesser, Tally, raised, lowered, Below}

-- past the end nothing is stored
pub none_raised : (counts : List ℕ) {i : ℕ} → length counts ≤ i → counts ≡ raised i counts
none_raised counts {i} past = sym (set_out counts i (get_or counts i 0 + 1) past)

pub none_lowered : (counts smallest : List ℕ) (p : ℕ) {i : ℕ} → length counts ≡ length smallest → length counts ≤ i → smallest ≡ lowered i p smallest
none_lowered counts smallest p {i} size past = sym (set_out smallest i (lesser p (get_or smallest i 0)) (omega arith))

-- the smaller of two numbers, in std's words
min_lesser : (a b : ℕ) → min a b ≡ lesser a b
min_lesser a b = go (ltb a b) refl
  where
    go : (t : Bool) → ltb a b ≡ t → min a b ≡ cond t a b
    go true e = omega (arith, ltb-true a b e)
    go false e = omega (arith, ltb-false a b e)

-- A list of numbers by rising stations, stored to at the first station that passes a test that no two pass.
module _ (test : ℕ → Bool) (one : (m k : ℕ) → test m ≡ true → test k ≡ true → m ≡ k) (u f : ℕ → ℕ) where
  stored : (n : List ℕ) → Rising n → map (λ (m : ℕ). cond (test m) (u (f m)) (f m)) n ≡ set (map f n) (first_at test n) (u (get_or (map f n) (first_at test n) 0))
  unfolding first_at
  stored [] r = refl
  stored (x ∷ l) r = go (test x) refl (stored l r.1)
    where
      go : (b : Bool) → test x ≡ b
          → map (λ (m : ℕ). cond (test m) (u (f m)) (f m)) l ≡ set (map f l) (first_at test l) (u (get_or (map f l) (first_at test l) 0))
          → (cond b (u (f x)) (f x) ∷ map (λ (m : ℕ). cond (test m) (u (f m)) (f m)) l)
          ≡ set (f x ∷ map f l) (cond b 0 (suc (first_at test l))) (u (get_or (f x ∷ map f l) (cond b 0 (suc (first_at test l))) 0))
      go true e rest = ap (λ (t : List ℕ). u (f x) ∷ t) (map_same l (λ m k. rw (fails (test m) (λ h. let z = one x m e h in omega (arith, r.0 m k)))))
      go false e rest = ap (λ (t : List ℕ). f x ∷ t) rest

-- the smaller of two as a number
lowest_lesser : (p : ℕ) (o : Option ℕ) → p ≤ 4294967295 → lesser p (lowest o) ≡ lowest (smaller true p o)
lowest_lesser p None h = go (ltb p 4294967295) refl
  where
    go : (b : Bool) → ltb p 4294967295 ≡ b → cond b p 4294967295 ≡ p
    go true e = refl
    go false e = omega (arith, ltb-false p 4294967295 e)
lowest_lesser p (Some q) h = go (ltb p q) refl (ltb q p) refl
  where
    go : (a : Bool) → ltb p q ≡ a → (b : Bool) → ltb q p ≡ b → cond a p q ≡ cond b q p
    go true e true f = omega (arith, ltb-true p q e, ltb-true q p f)
    go true e false f = refl
    go false e true f = refl
    go false e false f = omega (arith, ltb-false p q e, ltb-false q p f)

-- tallies of functions that agree are the same
pub tally_same : {n counts smallest : List ℕ} {f g : ℕ → ℕ} {o u : ℕ → Option ℕ} → ((m : ℕ) → f m ≡ g m) → ((m : ℕ) → o m ≡ u m) → Tally n counts smallest f o → Tally n counts smallest g u
tally_same {n} h k t = record {
  counted = t.counted ∙ map_same n (λ m _. h m);
  least = t.least ∙ map_same n (λ m _. ap lowest (k m));
}

module _ {n counts smallest : List ℕ} {f : ℕ → ℕ} {o : ℕ → Option ℕ} (rising : Rising n) (so_far : Tally n counts smallest f o) where
  -- station p mentions the one that passes the test
  pub tally_next : (test : ℕ → Bool) → ((m k : ℕ) → test m ≡ true → test k ≡ true → m ≡ k) → {i p : ℕ} → i ≡ first_at test n → p ≤ 4294967295
      → Tally n (raised i counts) (lowered i p smallest) (λ (m : ℕ). once (test m) + f m) (λ (m : ℕ). smaller (test m) p (o m))
  tally_next test one {i} {p} at few = record {
    counted = rw (at, so_far.counted) (sym (map_same n (λ m _. more (test m) (f m)) ∙ stored test one (λ (x : ℕ). x + 1) f n rising));
    least = rw (at, so_far.least) (sym (map_same n (λ m _. less (test m) (o m)) ∙ stored test one (lesser p) (λ (m : ℕ). lowest (o m)) n rising));
  }
    where
      more : (b : Bool) (x : ℕ) → once b + x ≡ cond b (x + 1) x
      more true x = omega arith
      more false x = omega arith

      less : (b : Bool) (x : Option ℕ) → lowest (smaller b p x) ≡ cond b (lesser p (lowest x)) (lowest x)
      less true x = sym (lowest_lesser p x few)
      less false x = refl

-- a raised count grows by one
pub raised_grows : (i : ℕ) (counts : List ℕ) (j : ℕ) → Below j counts → Below (j + 1) (raised i counts)
raised_grows i counts j h = record { at = λ k. go k (eqb k i) refl (leb (length counts) i) refl }
  where
    go : (k : ℕ) (a : Bool) → eqb k i ≡ a → (b : Bool) → leb (length counts) i ≡ b → get_or (raised i counts) k 0 ≤ j + 1
    go k a e true f = rw (set_out counts i (get_or counts i 0 + 1) (leb-true (length counts) i f)) (omega (arith, h.at k))
    go k true e false f = rw (eqb-true k i e, get_or-set_same counts i (get_or counts i 0 + 1) 0 (leb-false (length counts) i f)) (omega (arith, h.at i))
    go k false e false f = rw (get_or-set_other counts i k (get_or counts i 0 + 1) 0 (eqb-false k i e)) (omega (arith, h.at k))

-- the smaller of two is stored
pub now_lowered : (smallest : List ℕ) (i p : ℕ) {x : ℕ} → x ≡ min p (get_or smallest i 0) → set smallest i x ≡ lowered i p smallest
now_lowered smallest i p e = rw (e, min_lesser)
