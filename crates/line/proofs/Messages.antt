-- Laws of messages and bags. The laws of the machine cite only `Received`, `GivenUp` and `room_for` of a bag, so that another way of keeping bags can take their place.
use mathlib.Core.Path.{◌≡◌, refl, sym, ◌∙◌, ap}
use mathlib.Core.Logic.{◌↔◌, ◌⊎◌, inl, inr, ⊎_elim}
use mathlib.Core.Bool.{Bool, true, false, cond, ◌&&◌, ◌||◌}
use mathlib.Core.List.Memᴰ
use mathlib.Core.List.{List, [], ◌∷◌}
use mathlib.Core.List.Memᴰ.{head as here}
use mathlib.Core.List.{Memᴰ as Member}
use Prim.Native.Nat.{ℕ, suc, ◌≤◌, ◌<◌}
use native.Mathlib.Omega.{arith}
use lib.Dec.{eqb, ltb}
use borrow.Author.Tests.{eqb-true, ltb-true, ltb-false, lt-ltb, eq-eqb}
use lib.ListN.{length}
use Rattle.line.specs.declared.Content.{Content}
use Rattle.line.specs.declared.Content.TheVariants.{Introduction, RemoveLeft, RemoveRight}
use Rattle.line.specs.declared.Message.{Message}
use Rattle.lists.specs.Lists.{count, Ordered, sort}
use Rattle.line.specs.Message.{kind, carried, introduction, same, precedes, copies, holds, remove, put, capacity}
use Rattle.lists.proofs.Lists.{and_both, both_and, or_none, or_cases, fails, any_true, true_any, counted, counts_one, insert_self, insert_keeps, insert-mem, insert-length, Order, insert_ordered, sort_ordered, sort-count, removed_mem, mem_removed, removed_length, removed_ordered}

-- a message is its kind and its number
content_of : (c d : Content) → kind c ≡ kind d → carried c ≡ carried d → c ≡ d
content_of (Introduction m) (Introduction n) k e = ap Introduction e
content_of (Introduction m) RemoveLeft k e = absurd (omega arith)
content_of (Introduction m) RemoveRight k e = absurd (omega arith)
content_of RemoveLeft (Introduction n) k e = absurd (omega arith)
content_of RemoveLeft RemoveLeft k e = refl
content_of RemoveLeft RemoveRight k e = absurd (omega arith)
content_of RemoveRight (Introduction n) k e = absurd (omega arith)
content_of RemoveRight RemoveLeft k e = absurd (omega arith)
content_of RemoveRight RemoveRight k e = refl

message_of_lem : (m k : Message) → kind m.content ≡ kind k.content → carried m.content ≡ carried k.content → m ≡ k
message_of_lem m k p q = ap (λ (c : Content). record { content = c }) (content_of m.content k.content p q)

pub introduction_inj : {a b : ℕ} → introduction a ≡ introduction b → a ≡ b
introduction_inj e = let z = ap (λ (m : Message). m.content) e in cc

-- `same` is equality
pub same_true : (m k : Message) → same m k ≡ true → m ≡ k
unfolding same
same_true m k e =
    let h = and_both (eqb (kind m.content) (kind k.content)) (eqb (carried m.content) (carried k.content)) e in
    message_of_lem m k (eqb-true (kind m.content) (kind k.content) h.0) (eqb-true (carried m.content) (carried k.content) h.1)

pub same_refl : (m : Message) → same m m ≡ true
unfolding same
same_refl m = both_and (eq-eqb (kind m.content) (kind m.content) refl) (eq-eqb (carried m.content) (carried m.content) refl)

-- Written order goes by two numbers: first by a and c, then by b and d.
module _ (a b c d : ℕ) where
  lex : Bool
  lex = ltb a c || (eqb a c && ltb b d)

  lex_true : lex ≡ true → (a < c) ⊎ ((a ≡ c) × (b < d))
  unfolding lex
  lex_true e = ⊎_elim (λ h. inl (ltb-true a c h)) (λ h. let w = and_both (eqb a c) (ltb b d) h in inr (eqb-true a c w.0, ltb-true b d w.1)) (or_cases (ltb a c) (eqb a c && ltb b d) e)

  lex_false : (a < c → ⊥) → (a ≡ c → b < d → ⊥) → lex ≡ false
  unfolding lex
  lex_false p q = fails lex (λ e. ⊎_elim p (λ w. q w.0 w.1) (lex_true e))

  false_lex : lex ≡ false → (c ≤ a) × (a ≡ c → d ≤ b)
  unfolding lex
  false_lex e =
      let h = or_none (ltb a c) (eqb a c && ltb b d) e in
      (ltb-false a c h.0, λ z. ltb-false b d (rw (eq-eqb a c z) at h.1))

module _ (m k : Message) where
  before_cases : precedes m k ≡ true
      → (kind m.content < kind k.content) ⊎ ((kind m.content ≡ kind k.content) × (carried m.content < carried k.content))
  unfolding precedes lex
  before_cases e = lex_true (kind m.content) (carried m.content) (kind k.content) (carried k.content) e

  not_before : (kind m.content < kind k.content → ⊥) → (kind m.content ≡ kind k.content → carried m.content < carried k.content → ⊥)
      → precedes m k ≡ false
  unfolding precedes lex
  not_before p q = lex_false (kind m.content) (carried m.content) (kind k.content) (carried k.content) p q

  not_before_cases : precedes m k ≡ false
      → (kind k.content ≤ kind m.content) × (kind m.content ≡ kind k.content → carried k.content ≤ carried m.content)
  unfolding precedes lex
  not_before_cases e = false_lex (kind m.content) (carried m.content) (kind k.content) (carried k.content) e

pub precedes_order : Order precedes
precedes_order = record {
  asymmetric = λ x y e. ⊎_elim (λ h. not_before y x (λ p. omega arith) (λ p q. omega arith)) (λ h. not_before y x (λ p. omega arith) (λ p q. omega arith)) (before_cases x y e);
  transitive = λ x y z p q.
      let u = not_before_cases z y p in
      let v = not_before_cases y x q in
      not_before z x (λ h. omega arith) (λ h i. omega (arith, u.1 (omega arith), v.1 (omega arith)));
}

pub precedes_self : (m : Message) → precedes m m ≡ false
precedes_self m = not_before m m (λ h. omega arith) (λ h i. omega arith)

-- two messages neither of which precedes the other are one
pub precedes_total : (m k : Message) → precedes m k ≡ false → precedes k m ≡ false → m ≡ k
precedes_total m k p q =
    let u = not_before_cases m k p in
    let v = not_before_cases k m q in
    let e : kind m.content ≡ kind k.content = omega arith in
    message_of_lem m k e (omega (arith, u.1 e, v.1 (sym e)))

-- Bags.
pub held_mem : (m : Message) (b : List Message) → holds m b ≡ true → Member m b
held_mem m b e = let w = any_true (same m) b e in Memᴰ.cast (same_true m w.0 w.2) w.1

pub mem_held : (m : Message) {b : List Message} → Member m b → holds m b ≡ true
mem_held m k = true_any (same m) k (same_refl m)

-- r is the bag b after it has received m
pub record Received (m : Message) (b r : List Message) : Type 0 where
  pub arrives : Member m r
  pub keeps : (y : Message) → Member y b → Member y r
  pub only : (y : Message) → Member y r → (y ≡ m) ⊎ Member y b
  pub more : length b ≤ length r
  pub size : length r ≤ suc (length b)
  pub order : Ordered precedes b → Ordered precedes r

pub receives : (m : Message) (b : List Message) → Received m b (put m b)
receives m b = record {
  arrives = insert_self precedes m b;
  keeps = λ y k. insert_keeps precedes m b k;
  only = λ y k. insert-mem precedes m b k;
  more = omega (arith, insert-length precedes m b);
  size = omega (arith, insert-length precedes m b);
  order = insert_ordered precedes precedes_order m b;
}

-- the test for room says that the bag stays within its bound; this law alone knows that every copy counts
pub room_for : (m : Message) (b : List Message) → (ltb (length b) capacity ≡ true) ↔ (length (put m b) ≤ capacity)
room_for m b = (
  λ e. omega (arith, insert-length precedes m b, ltb-true (length b) capacity e),
  λ h. lt-ltb (length b) capacity (omega (arith, insert-length precedes m b)),
)

-- r is the bag b after it has given up m
pub record GivenUp (m : Message) (b r : List Message) : Type 0 where
  pub from : (y : Message) → Member y r → Member y b
  pub kept : (y : Message) → Member y b → (y ≡ m) ⊎ Member y r
  pub size : length r ≤ length b
  pub order : Ordered precedes b → Ordered precedes r

pub gives_up : (m : Message) (b : List Message) → GivenUp m b (remove m b)
gives_up m b = record {
  from = λ y k. removed_mem (same m) b k;
  kept = λ y k. ⊎_elim (λ e. inl (sym (same_true m y e))) inr (mem_removed (same m) b k);
  size = removed_length (same m) b;
  order = removed_ordered (same m) precedes b;
}

-- bags in written order with as many copies of each message are equal
pub same_bag : (b c : List Message) → Ordered precedes b → Ordered precedes c → ((m : Message) → copies m b ≡ copies m c) → b ≡ c
unfolding count
same_bag [] [] p q e = refl
same_bag [] (y ∷ c) p q e = absurd (omega (arith, e y, counts_one (same y) {l = y ∷ c} (here refl) (same_refl y)))
same_bag (x ∷ b) [] p q e = absurd (omega (arith, e x, counts_one (same x) {l = x ∷ b} (here refl) (same_refl x)))
same_bag (x ∷ b) (y ∷ c) p q e = go first (same_bag b c p.1 q.1 rest)
  where
    -- what has a copy in an ordered bag does not precede its first message
    after_first : (m k : Message) (l : List Message) → Ordered precedes (k ∷ l) → 1 ≤ copies m (k ∷ l) → precedes m k ≡ false
    after_first m k l h n =
        let w = counted (same m) (k ∷ l) n in
        let z = same_true m w.0 w.2 in
        ⊎_elim (λ (i : w.0 ≡ k). rw (z ∙ i) (precedes_self k)) (λ i. rw z (h.0 w.0 i)) (Memᴰ.cases_cons w.1)

    first : x ≡ y
    first =
        precedes_total x y (after_first x y c q (omega (arith, e x, counts_one (same x) {l = x ∷ b} (here refl) (same_refl x))))
        (after_first y x b p (omega (arith, e y, counts_one (same y) {l = y ∷ c} (here refl) (same_refl y))))

    rest : (m : Message) → copies m b ≡ copies m c
    rest m = omega (arith, e m, ap (λ (k : Message). cond {A = ℕ} (same m k) 1 0) first)

    go : x ≡ y → b ≡ c → (x ∷ b) ≡ (y ∷ c)
    go h k = cc

-- so the written order of a bag depends on its copies alone
pub same_sort : (b c : List Message) → ((m : Message) → copies m b ≡ copies m c) → sort precedes b ≡ sort precedes c
same_sort b c e =
    same_bag (sort precedes b) (sort precedes c) (sort_ordered precedes precedes_order b) (sort_ordered precedes precedes_order c)
    (λ m. sort-count precedes (same m) b ∙ e m ∙ sym (sort-count precedes (same m) c))
