-- The written order: accepted lines that are alike have one, it keeps what the line says, and a line in written order is left as it is.
use mathlib.Core.Path.{◌≡◌, refl, sym, ◌∙◌, ap, subst}
use mathlib.Core.Logic.{◌↔◌, ⊎_elim}
use mathlib.Core.List.Memᴰ
use mathlib.Core.List.{List, [], ◌∷◌, map}
use mathlib.Core.List.Memᴰ.{head as here}
use mathlib.Core.List.Memᴰ.{tail as there}
use mathlib.Core.List.{Memᴰ as Member}
use Prim.Native.Nat.{ℕ}
use native.Mathlib.Omega.{arith}
use lib.Dec.{ltb}
use borrow.Author.Tests.{le-ltb}
use lib.ListN.{length}
use Rattle.line.specs.declared.Message.{Message}
use Rattle.lists.specs.Lists.{Ordered, sort}
use Rattle.line.specs.Message.{precedes, same}
use Rattle.line.specs.Node.{Node, Line, number, numbers, Present, lower, with_bag_in_order, in_written_order, Written}
use Rattle.lists.specs.Numbers.{Rising, Distinct}
use Rattle.line.specs.Links.{Linked, by_neighbour, by_introduction, Link, link}
use Rattle.line.specs.Accepted.{Sided, Accepted}
use Rattle.line.specs.Alike.{AlikeNodes, Alike}
use Rattle.line.specs.Claims.{AlikeAgree, WrittenOrderKeeps, WrittenOrderStays}
use Rattle.lists.proofs.Lists.{mem-map, map-mem, map-length, map_self, sort_ordered, sort-mem, mem-sort, sort-length, sort-count, sort_self, sort-map}
use Rattle.line.proofs.Messages.{precedes_order, same_bag}
use Rattle.line.proofs.Chains.{forward, carry}
use Rattle.line.proofs.Changes.{node_of_lem, unique}
use Rattle.lists.proofs.Distinct.{rising_distinct, sorted_rising}

-- a node with its bag in order is the node, but for the order of its bag
tidy_number : (s : Node) → number (with_bag_in_order s) ≡ number s
unfolding with_bag_in_order
tidy_number s = refl

tidy_alike : (s : Node) → AlikeNodes s (with_bag_in_order s)
unfolding with_bag_in_order
tidy_alike s = record { left = refl; right = refl; marks = refl; bag = λ m. sym (sort-count precedes (same m) s.bag) }

in_order : (s : Node) → Ordered precedes (with_bag_in_order s).bag
unfolding with_bag_in_order
in_order s = sort_ordered precedes precedes_order s.bag

tidy_size : (s : Node) → length (with_bag_in_order s).bag ≡ length s.bag
unfolding with_bag_in_order
tidy_size s = sort-length precedes s.bag

tidy_sided : (s : Node) → Sided s → Sided (with_bag_in_order s)
unfolding with_bag_in_order
tidy_sided s h d q e = h d q e

tidy_marks : (s : Node) → (with_bag_in_order s).station.marks ≡ s.station.marks
unfolding with_bag_in_order
tidy_marks s = refl

tidy_links : (s : Node) {q : ℕ} → Linked (with_bag_in_order s) q → Linked s q
unfolding with_bag_in_order
tidy_links s (by_neighbour d e) = by_neighbour d e
tidy_links s (by_introduction m) = by_introduction (sort-mem precedes s.bag m)

links_tidy : (s : Node) {q : ℕ} → Linked s q → Linked (with_bag_in_order s) q
unfolding with_bag_in_order
links_tidy s (by_neighbour d e) = by_neighbour d e
links_tidy s (by_introduction m) = by_introduction (mem-sort precedes s.bag m)

-- alike nodes of one number are one node once their bags are in order
tidy_same : (s t : Node) → number s ≡ number t → AlikeNodes s t → with_bag_in_order s ≡ with_bag_in_order t
unfolding with_bag_in_order
tidy_same s t n h = λ i. record {
  station = record { number = n i; left = h.left i; right = h.right i; marks = h.marks i };
  bag = bags i;
}
  where
    bags : sort precedes s.bag ≡ sort precedes t.bag
    bags =
        same_bag (sort precedes s.bag) (sort precedes t.bag) (sort_ordered precedes precedes_order s.bag) (sort_ordered precedes precedes_order t.bag)
        (λ m. sort-count precedes (same m) s.bag ∙ h.bag m ∙ sym (sort-count precedes (same m) t.bag))

-- the nodes of the written order
module _ (line : Line) where
  ordered_mem : {s : Node} → Member s (in_written_order line) → (t : Node) × Member t line × (s ≡ with_bag_in_order t)
  unfolding in_written_order
  ordered_mem m = map-mem with_bag_in_order line (sort-mem lower (map with_bag_in_order line) m)

  mem_ordered : {t : Node} → Member t line → Member (with_bag_in_order t) (in_written_order line)
  unfolding in_written_order
  mem_ordered m = mem-sort lower (map with_bag_in_order line) (mem-map with_bag_in_order m)

  ordered_present : {n : ℕ} → Present (in_written_order line) n → Present line n
  ordered_present m =
      let w = node_of_lem (in_written_order line) m in
      let v = ordered_mem w.1 in
      Memᴰ.cast (w.2 ∙ ap number v.2 ∙ tidy_number v.0) (mem-map number v.1)

  present_ordered : {n : ℕ} → Present line n → Present (in_written_order line) n
  present_ordered m = let w = node_of_lem line m in Memᴰ.cast (w.2 ∙ sym (tidy_number w.0)) (mem-map number (mem_ordered w.1))

tidy_numbers : (l : Line) → numbers (map with_bag_in_order l) ≡ numbers l
unfolding with_bag_in_order
tidy_numbers [] = refl
tidy_numbers (s ∷ l) = ap (λ (r : List ℕ). number s ∷ r) (tidy_numbers l)

module _ (line : Line) (d : Distinct (numbers line)) where
  ordered_written : Written (in_written_order line)
  unfolding in_written_order lower
  ordered_written = record {
    rising = rw (sort-map number ltb (map with_bag_in_order line), tidy_numbers line) (sorted_rising (numbers line) d);
    bags = λ s m. let w = ordered_mem line m in subst (λ (t : Node). Ordered precedes t.bag) (sym w.2) (in_order w.0);
  }

  ordered_alike : Alike line (in_written_order line)
  ordered_alike = record {
    stations = λ n. (present_ordered line, ordered_present line);
    nodes = λ s t m k e.
        let w = ordered_mem line k in
        let z = unique line d m w.1 (e ∙ ap number w.2 ∙ tidy_number w.0) in
        subst (AlikeNodes s) (sym w.2) (subst (λ (u : Node). AlikeNodes s (with_bag_in_order u)) z (tidy_alike s));
  }

pub ordered_accepted : (line : Line) → Accepted line → Accepted (in_written_order line)
unfolding in_written_order
ordered_accepted line a = record {
  few = rw (sort-length lower (map with_bag_in_order line), map-length with_bag_in_order line) a.few;
  ranged = λ s m. let w = ordered_mem line m in rw (ap number w.2 ∙ tidy_number w.0) (a.ranged w.0 w.1);
  marked = λ s m. let w = ordered_mem line m in rw (ap (λ (t : Node). t.station.marks) w.2 ∙ tidy_marks w.0) (a.marked w.0 w.1);
  small = λ s m. let w = ordered_mem line m in rw (ap (λ (t : Node). length t.bag) w.2 ∙ tidy_size w.0) (a.small w.0 w.1);
  sided = λ s m. let w = ordered_mem line m in subst Sided (sym w.2) (tidy_sided w.0 (a.sided w.0 w.1));
  distinct = rising_distinct (numbers (in_written_order line)) (ordered_written line a.distinct).rising;
  known = λ s m q l. let w = ordered_mem line m in present_ordered line (a.known w.0 w.1 q (tidy_links w.0 (subst (λ (t : Node). Linked t q) w.2 l)));
}

-- the links are those of the line
module _ (line : Line) where
  ordered_link : (x y : ℕ) → Link (in_written_order line) x y → Link line x y
  ordered_link x y (link s m e l) =
      let w = ordered_mem line m in
      link w.0 w.1 (sym (tidy_number w.0) ∙ sym (ap number w.2) ∙ e) (tidy_links w.0 (subst (λ (t : Node). Linked t y) w.2 l))

  link_ordered : (x y : ℕ) → Link line x y → Link (in_written_order line) x y
  link_ordered x y (link s m e l) = link (with_bag_in_order s) (mem_ordered line m) (tidy_number s ∙ e) (links_tidy s l)

pub written_order_keeps : WrittenOrderKeeps
written_order_keeps line a = (
  ordered_accepted line a,
  ordered_written line a.distinct,
  ordered_alike line a.distinct,
  λ x y. (carry (λ p q l. forward (link_ordered line p q l)), carry (λ p q l. forward (ordered_link line p q l))),
)

-- two lines with rising numbers, the same stations and the same node for each number are equal
same_line : (a b : Line) → Rising (numbers a) → Rising (numbers b) → ((n : ℕ) → Present a n ↔ Present b n)
    → ((s t : Node) → Member s a → Member t b → number s ≡ number t → s ≡ t) → a ≡ b
same_line [] [] p q e f = refl
same_line [] (t ∷ b) p q e f = absurd (Memᴰ.not-nil ((e (number t)).1 (here refl)))
same_line (s ∷ a) [] p q e f = absurd (Memᴰ.not-nil ((e (number s)).0 (here refl)))
same_line (s ∷ a) (t ∷ b) p q e f =
    go (f s t (here refl) (here refl) first) (same_line a b p.1 q.1 (λ n. (left n, right n)) (λ u v m k. f u v (there m) (there k)))
  where
    -- the first of each is in the other, so neither is below the other
    first : number s ≡ number t
    first =
        ⊎_elim (λ h. h)
        (λ m. ⊎_elim (λ h. sym h) (λ k. absurd (omega (arith, q.0 (number s) m, p.0 (number t) k))) (Memᴰ.cases_cons ((e (number t)).1 (here refl))))
        (Memᴰ.cases_cons ((e (number s)).0 (here refl)))

    left : (n : ℕ) → Present a n → Present b n
    left n m = ⊎_elim (λ h. absurd (omega (arith, p.0 n m, h, first))) (λ k. k) (Memᴰ.cases_cons ((e n).0 (there m)))

    right : (n : ℕ) → Present b n → Present a n
    right n m = ⊎_elim (λ h. absurd (omega (arith, q.0 n m, h, first))) (λ k. k) (Memᴰ.cases_cons ((e n).1 (there m)))

    go : s ≡ t → a ≡ b → (s ∷ a) ≡ (t ∷ b)
    go h k = cc

pub alike_agree : AlikeAgree
alike_agree a b x y h =
    same_line (in_written_order a) (in_written_order b) (ordered_written a x.distinct).rising (ordered_written b y.distinct).rising
    (λ n. (λ m. present_ordered b ((h.stations n).0 (ordered_present a m)), λ m. present_ordered a ((h.stations n).1 (ordered_present b m)))) agree
  where
    agree : (s t : Node) → Member s (in_written_order a) → Member t (in_written_order b) → number s ≡ number t → s ≡ t
    agree s t m k e =
        let w = ordered_mem a m in
        let v = ordered_mem b k in
        let n = sym (tidy_number w.0) ∙ sym (ap number w.2) ∙ e ∙ ap number v.2 ∙ tidy_number v.0 in
        w.2 ∙ tidy_same w.0 v.0 n (h.nodes w.0 v.0 w.1 v.1 n) ∙ sym v.2

-- what is in written order already
rising_ordered : (line : Line) → Rising (numbers line) → Ordered lower line
unfolding lower
rising_ordered [] h = tt
rising_ordered (s ∷ line) h = (λ t m. le-ltb (number t) (number s) (omega (arith, h.0 (number t) (mem-map number m))), rising_ordered line h.1)

pub written_order_stays : WrittenOrderStays
unfolding in_written_order with_bag_in_order
written_order_stays line w =
    rw (map_self with_bag_in_order line (λ s m. ap (λ (b : List Message). record { station = s.station; bag = b }) (sort_self precedes s.bag (w.bags s m))))
    (sort_self lower line (rising_ordered line w.rising))
