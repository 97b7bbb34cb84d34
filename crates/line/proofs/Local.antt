-- What one station does in a step, as far as its links go: each link that it had is joined after, and each new one was joined before.
use mathlib.Core.Path.{◌≡◌, refl, sym, ◌∙◌, ap, subst}
use Rattle.std.specs.Prelude.{Option, Some, None, Ok}
use Rattle.line.specs.Types.{Leave, Neighbour}
use mathlib.Core.Logic.{◌≢◌, ◌⊎◌, inl, inr, ⊎_elim}
use mathlib.Core.Bool.{Bool, true, false, cond}
use mathlib.Core.List.Memᴰ
use mathlib.Core.List.{List, [], ◌++◌}
use mathlib.Core.List.Memᴰ.{head as here}
use mathlib.Core.List.{Memᴰ as Member}
use Prim.Native.Nat.{ℕ, ◌≤◌}
use native.Mathlib.Omega.{arith}
use lib.Dec.{eqb}
use borrow.Author.Tests.{eqb-true, eqb-false}
use lib.ListN.{length}
use Rattle.line.specs.declared.Content.{Content}
use Rattle.line.specs.declared.Content.TheVariants.{Introduction, RemoveLeft, RemoveRight}
use Rattle.line.specs.declared.Message.{Message}
use Rattle.line.specs.declared.Station as declared
use Rattle.line.specs.declared.Side.{Side}
use Rattle.line.specs.declared.Side.TheVariants.{Left, Right}
use Rattle.line.specs.declared.Refusal.TheVariants.{NotInBag, Staying}
use Rattle.line.specs.declared.Action.{Action}
use Rattle.line.specs.declared.Action.TheVariants.{Timeout, Deliver, Exit}
use Rattle.lists.specs.Lists.{Ordered}
use Rattle.line.specs.Answer.{done}
use Rattle.line.specs.Message.{introduction, removal, precedes, holds, remove, capacity}
use Rattle.line.specs.Node.{Node, Line, number, leaving, Beyond, beyond, opposite, side_of, neighbour, with_neighbour}
use Rattle.line.specs.Links.{Linked, by_neighbour, by_introduction, Chain, same_station, along}
use Rattle.line.specs.Nidec.{Nidec}
use Rattle.line.specs.Accepted.{Sided}
use Rattle.line.specs.Act.{Send, send, send_to, notice, timeout, Reaction, unchanged, meet, introduced, drop_neighbour, obeys, removed, received, introduce_both, Effect, act}
use Rattle.line.proofs.Answers.{done_inj, required, unheld}
use Rattle.line.proofs.Messages.{introduction_inj, held_mem, GivenUp, gives_up}
use Rattle.line.proofs.Chains.{forward, backward, equal}
use Rattle.line.proofs.Sides.{station_inj, none_station, beyond_other, side_of_beyond, changed_number, changed_marks, changed_neighbour, node, changed_links, links_changed, changed_sided}
use Rattle.line.proofs.Sends.{sent_to, sent_message}

-- the links that a list of sends makes, and those of a node with such a list
abbrev pub Sent : List Send → ℕ → ℕ → Type 0
Sent l x y = Member (record { to = x; message = introduction y }) l

pub data Edge (s : Node) (l : List Send) (x y : ℕ) : Type 0 where
  own : x ≡ number s → Linked s y → Edge s l x y
  sent : Sent l x y → Edge s l x y

-- what is sent goes to stations of P, and introduces stations of Q
pub record Fair (P Q : ℕ → Type 0) (l : List Send) : Type 0 where
  pub reaches : (m : Send) → Member m l → P m.to
  pub says : (x y : ℕ) → Sent l x y → Q y

abbrev pub SelfOr : ℕ → (ℕ → Type 0) → ℕ → Type 0
SelfOr n P y = (y ≡ n) ⊎ P y

-- Station n, which was linked to all of P, sends l and is s afterwards.
pub record Remains (n : ℕ) (P : ℕ → Type 0) (s : Node) (l : List Send) : Type 0 where
  pub fair : Fair P (SelfOr n P) l
  pub named : number s ≡ n
  pub sided : Sided s
  pub small : length s.bag ≤ capacity
  pub fewer : (y : ℕ) → Linked s y → P y
  pub joined : (y : ℕ) → P y → Chain (Edge s l) n y

-- Or it is gone: nobody else is linked to it, and all of P is joined to one station that stands for it.
pub record Gone (line : Line) (n : ℕ) (P : ℕ → Type 0) (l : List Send) : Type 0 where
  pub fair : Fair P P l
  pub other : (y : ℕ) → P y → y ≢ n
  pub unlinked : (t : Node) → Member t line → number t ≢ n → ¬ Linked t n
  pub proxy : ℕ
  pub joined : (y : ℕ) → P y → Chain (Sent l) proxy y

-- Either way its links are kept.
abbrev pub LinksKept : Line → ℕ → (ℕ → Type 0) → Option Node → List Send → Type 0
LinksKept line n P None l = Gone line n P l
LinksKept line n P (Some s) l = Remains n P s l

-- sends
fair_none : {P Q : ℕ → Type 0} → Fair P Q []
fair_none = record { reaches = λ m k. absurd (Memᴰ.not-nil k); says = λ x y k. absurd (Memᴰ.not-nil k) }

fair_one : {P Q : ℕ → Type 0} (r : ℕ) (c : Message) → P r → ((y : ℕ) → introduction y ≡ c → Q y) → Fair P Q (send r c)
fair_one {P} r c p f = record {
  reaches = λ m k. subst P (sym (ap (λ (z : Send). z.to) (Memᴰ.eq_of_singleton k))) p;
  says = λ x y k. f y (ap (λ (z : Send). z.message) (Memᴰ.eq_of_singleton k));
}

fair_two : {Q : ℕ → Type 0} (s : Node) {a b : Neighbour} → s.station.left ≡ a → s.station.right ≡ b → (c e : Message)
    → ((y : ℕ) → introduction y ≡ c → Q y) → ((y : ℕ) → introduction y ≡ e → Q y) → Fair (Linked s) Q (send_to a c ++ send_to b e)
fair_two s {a} {b} p q c e f g = record {
  reaches = λ m h. ⊎_elim (λ k. by_neighbour Left (p ∙ sent_to a c k)) (λ k. by_neighbour Right (q ∙ sent_to b e k)) (Memᴰ.append_cases (send_to a c) h);
  says = λ x y h. ⊎_elim (λ k. f y (sent_message a c k)) (λ k. g y (sent_message b e k)) (Memᴰ.append_cases (send_to a c) h);
}

sent_one : {r q : ℕ} → Sent (send r (introduction q)) r q
sent_one = here refl

pub no_removal : (d : Side) {y : ℕ} {C : Type 0} → introduction y ≡ removal d → C
unfolding removal
no_removal Left e = absurd (let z = ap (λ (m : Message). m.content) e in let w : ◌≡◌ {A = ℕ} 0 1 = cc in omega arith)
no_removal Right e = absurd (let z = ap (λ (m : Message). m.content) e in let w : ◌≡◌ {A = ℕ} 0 1 = cc in omega arith)

-- A delivery at station p, whose bag is b afterwards: it was linked to all of P.
abbrev AfterDelivery : (ℕ → Type 0) → List Message → declared.Station → Reaction → Type 0
AfterDelivery P b p r = Remains p.number P (node r.station b) r.sends

module _ (p : declared.Station) (b : List Message) (ok : Sided (node p b)) (small : length b ≤ capacity) (P : ℕ → Type 0) (keep : (y : ℕ) → Linked (node p b) y → P y) where
  -- the station as it is
  still : (l : List Send) → Fair P (SelfOr p.number P) l → ((y : ℕ) → P y → Chain (Edge (node p b) l) p.number y) → Remains p.number P (node p b) l
  still l f j = record { fair = f; named = refl; sided = ok; small = small; fewer = keep; joined = j }

  -- the station with another neighbour k on side d
  module _ (d : Side) (k : Neighbour) (l : List Send) where
    after : Node
    after = node (with_neighbour d k p) b

    turned : ((q : ℕ) → k ≡ Some q → Beyond d p.number q × P q) → Fair P (SelfOr p.number P) l → ((y : ℕ) → P y → Chain (Edge after l) p.number y)
        → Remains p.number P after l
    unfolding after
    turned g f j = record {
      fair = f;
      named = changed_number d k p;
      sided = changed_sided d k p b ok (λ q e. (g q e).0);
      small = small;
      fewer = λ y h. ⊎_elim (λ e. (g y e).1) (keep y) (changed_links d k p b h);
      joined = j;
    }

    -- a link that is no link by the old neighbour is still there
    other_link : (y : ℕ) → (neighbour d p ≡ Some y → Chain (Edge after l) p.number y) → Linked (node p b) y → Chain (Edge after l) p.number y
    unfolding after
    other_link y f h = ⊎_elim f (λ i. forward (own (sym (changed_number d k p)) i)) (links_changed d k p b h)

  to_new : (d : Side) (q : ℕ) (l : List Send) → Edge (node (with_neighbour d (Some q) p) b) l p.number q
  to_new d q l = own (sym (changed_number d (Some q) p)) (by_neighbour d (changed_neighbour d (Some q) p))

  -- an introduction of q has been taken: P is q and what the station is linked to
  module _ (q : ℕ) (isq : P q) (split : (y : ℕ) → P y → (y ≡ q) ⊎ Linked (node p b) y) where
    becomes : (d : Side) (l : List Send) → Beyond d p.number q → Fair P (SelfOr p.number P) l
        → ((y : ℕ) → neighbour d p ≡ Some y → Chain (Edge (node (with_neighbour d (Some q) p) b) l) p.number y)
        → Remains p.number P (node (with_neighbour d (Some q) p) b) l
    unfolding after
    becomes d l h f g =
        turned d (Some q) l (λ x z. (rw (sym (station_inj z)) h, rw (sym (station_inj z)) isq)) f
        (λ y i. ⊎_elim (λ (e : y ≡ q). rw e (forward (to_new d q l))) (other_link d (Some q) l y (g y)) (split y i))

    met : (d : Side) (k : Neighbour) → neighbour d p ≡ k → Beyond d p.number q → AfterDelivery P b p (meet d p q k)
    unfolding meet
    met d None e h = becomes d [] h fair_none (λ y z. none_station (sym e ∙ z))
    met d (Some r) e h = go (beyond d q r) (eqb q r) refl
      where
        isr : P r
        isr = keep r (by_neighbour d e)

        nearer : Remains p.number P (node (with_neighbour d (Some q) p) b) (send q (introduction r))
        nearer =
            becomes d (send q (introduction r)) h (fair_one q (introduction r) isq (λ y z. inr (rw (introduction_inj z) isr)))
            (λ y z. along (to_new d q (send q (introduction r))) (forward (sent (rw (station_inj (sym z ∙ e)) sent_one))))

        equal_to : q ≡ r → Remains p.number P (node p b) []
        equal_to z = still [] fair_none (λ y i. ⊎_elim (λ (f : y ≡ q). forward (own refl (rw (f, z) (by_neighbour d e)))) (λ f. forward (own refl f)) (split y i))

        farther : Remains p.number P (node p b) (send r (introduction q))
        farther =
            still (send r (introduction q)) (fair_one r (introduction q) isr (λ y z. inr (rw (introduction_inj z) isq)))
            (λ y i. ⊎_elim (λ (f : y ≡ q). along (own refl (by_neighbour d e)) (forward (sent (rw f sent_one)))) (λ f. forward (own refl f)) (split y i))

        go : (t u : Bool) → eqb q r ≡ u
            → AfterDelivery P b p
            (cond t (record { station = with_neighbour d (Some q) p; sends = send q (introduction r) }) (cond u (unchanged p) (record { station = p; sends = send r (introduction q) })))
        go true u z = nearer
        go false true z = equal_to (eqb-true q r z)
        go false false z = farther

    introduced_kept : AfterDelivery P b p (introduced p q)
    unfolding introduced
    introduced_kept = go (eqb q p.number) refl
      where
        itself : q ≡ p.number → Remains p.number P (node p b) []
        itself z = still [] fair_none (λ y i. ⊎_elim (λ (f : y ≡ q). rw (f, z) same_station) (λ f. forward (own refl f)) (split y i))

        go : (t : Bool) → eqb q p.number ≡ t → AfterDelivery P b p (cond t (unchanged p) (meet (side_of p.number q) p q (neighbour (side_of p.number q) p)))
        go true z = itself (eqb-true q p.number z)
        go false z = met (side_of p.number q) (neighbour (side_of p.number q) p) refl (side_of_beyond p.number q (eqb-false q p.number z))

  -- a removal has been taken: P is what the station is linked to
  module _ (split : (y : ℕ) → P y → Linked (node p b) y) where
    as_it_is : Remains p.number P (node p b) []
    as_it_is = still [] fair_none (λ y i. forward (own refl (split y i)))

    dropped_kept : (d : Side) (k : Neighbour) → neighbour d p ≡ k → AfterDelivery P b p (drop_neighbour d p k)
    unfolding drop_neighbour after
    dropped_kept d None e = as_it_is
    dropped_kept d (Some r) e =
        turned d None (send r (introduction p.number)) (λ x z. none_station z)
        (fair_one r (introduction p.number) (keep r (by_neighbour d e)) (λ y z. inl (introduction_inj z)))
        (λ y i. other_link d None (send r (introduction p.number)) y (λ z. backward (sent (rw (station_inj (sym z ∙ e)) sent_one))) (split y i))

    removed_kept : (d : Side) → AfterDelivery P b p (removed p d)
    unfolding removed
    removed_kept d = go (obeys d p)
      where
        go : (t : Bool) → AfterDelivery P b p (cond t (drop_neighbour d p (neighbour d p)) (unchanged p))
        go true = dropped_kept d (neighbour d p) refl
        go false = as_it_is

module _ (line : Line) (s : Node) (ok : Sided s) (small : length s.bag ≤ capacity) where
  -- timeout
  notice_says : (d : Side) (y : ℕ) → introduction y ≡ notice s.station d → y ≡ number s
  unfolding notice
  notice_says d y = go s.station.marks.leaving
    where
      go : (t : Bool) → introduction y ≡ cond t (removal (opposite d)) (introduction (number s)) → y ≡ number s
      go true e = no_removal (opposite d) e
      go false e = introduction_inj e

  timeout_kept : Remains (number s) (Linked s) s (timeout s.station)
  unfolding timeout
  timeout_kept =
      still s.station s.bag ok small (Linked s) (λ y h. h)
      (send_to s.station.left (notice s.station Left) ++ send_to s.station.right (notice s.station Right))
      (fair_two s refl refl (notice s.station Left) (notice s.station Right) (λ y z. inl (notice_says Left y z)) (λ y z. inl (notice_says Right y z)))
      (λ y h. forward (own refl h))

  -- delivery of m, with the bag b afterwards
  module _ (m : Message) (b : List Message) (was : Member m s.bag) (o : GivenUp m s.bag b) where
    keep : (y : ℕ) → Linked (node s.station b) y → Linked s y
    keep y (by_neighbour d e) = by_neighbour d e
    keep y (by_introduction k) = by_introduction (o.from (introduction y) k)

    split : (y : ℕ) → Linked s y → (introduction y ≡ m) ⊎ Linked (node s.station b) y
    split y (by_neighbour d e) = inr (by_neighbour d e)
    split y (by_introduction k) = ⊎_elim inl (λ h. inr (by_introduction h)) (o.kept (introduction y) k)

    whole : (d : Side) → m ≡ removal d → (y : ℕ) → Linked s y → Linked (node s.station b) y
    whole d e y h = ⊎_elim (λ z. no_removal d (z ∙ e)) (λ i. i) (split y h)

    small_after : length b ≤ capacity
    small_after = omega (arith, o.size)

    message_is : (c : Content) → m.content ≡ c → m ≡ record { content = c }
    message_is c e = ap (λ (z : Content). record { content = z }) e

    received_kept : AfterDelivery (Linked s) b s.station (received s.station m.content)
    unfolding received removal
    received_kept = go m.content refl
      where
        go : (c : Content) → m.content ≡ c → AfterDelivery (Linked s) b s.station (received s.station c)
        go (Introduction q) e =
            introduced_kept s.station b ok small_after (Linked s) keep q (by_introduction (rw (← message_is (Introduction q) e) was))
            (λ y h. ⊎_elim (λ z. inl (introduction_inj (z ∙ message_is (Introduction q) e))) inr (split y h))
        go RemoveLeft e = removed_kept s.station b ok small_after (Linked s) keep (whole Left (message_is RemoveLeft e)) Left
        go RemoveRight e = removed_kept s.station b ok small_after (Linked s) keep (whole Right (message_is RemoveRight e)) Right

  -- exit
  module _ (nidecHolds : Nidec line s) where
    no_message : {m : Message} → Member m s.bag → ⊥
    no_message k = Memᴰ.not-nil (rw nidecHolds.empty at k)

    by_side : {y : ℕ} → Linked s y → (s.station.left ≡ Some y) ⊎ (s.station.right ≡ Some y)
    by_side (by_neighbour Left h) = inl h
    by_side (by_neighbour Right h) = inr h
    by_side (by_introduction m) = absurd (no_message m)

    other_station : (y : ℕ) → Linked s y → y ≢ number s
    other_station y (by_neighbour d h) = beyond_other d (number s) y (ok d y h)
    other_station y (by_introduction m) = absurd (no_message m)

    -- the neighbours that there are, one at each side, and the station that stands for s
    gone : (l : List Send) → Fair (Linked s) (Linked s) l → (n : ℕ) → ((y : ℕ) → (s.station.left ≡ Some y) ⊎ (s.station.right ≡ Some y) → Chain (Sent l) n y)
        → Gone line (number s) (Linked s) l
    gone l f n j = record { fair = f; other = other_station; unlinked = nidecHolds.unnamed; proxy = n; joined = λ y h. j y (by_side h) }

    exit_gone : (a c : Neighbour) → s.station.left ≡ a → s.station.right ≡ c → Gone line (number s) (Linked s) (introduce_both a c)
    unfolding introduce_both send_to
    exit_gone None None p q = gone [] fair_none 0 (λ y. ⊎_elim (λ z. none_station (sym p ∙ z)) (λ z. none_station (sym q ∙ z)))
    exit_gone None (Some r) p q = gone [] fair_none r (λ y. ⊎_elim (λ z. none_station (sym p ∙ z)) (λ z. equal (station_inj (sym q ∙ z))))
    exit_gone (Some l) None p q = gone [] fair_none l (λ y. ⊎_elim (λ z. equal (station_inj (sym p ∙ z))) (λ z. none_station (sym q ∙ z)))
    exit_gone (Some l) (Some r) p q =
        gone (send l (introduction r) ++ send r (introduction l))
        (fair_two s p q (introduction r) (introduction l) (λ y z. by_neighbour Right (q ∙ ap Some (sym (introduction_inj z)))) (λ y z. by_neighbour Left (p ∙ ap Some (sym (introduction_inj z)))))
        l (λ y. ⊎_elim (λ z. equal (station_inj (sym p ∙ z))) (λ z. forward (here (ap (λ (n : ℕ). record { to = l; message = introduction n }) (station_inj (sym z ∙ q))))))

  -- every action
  pub act_links : (l : Leave) → (l ≡ Ok tt → Nidec line s) → (a : Action) {e : Effect} → act l s a ≡ done e → LinksKept line (number s) (Linked s) e.after e.sends
  unfolding act
  act_links l n Timeout h = subst (λ (e : Effect). LinksKept line (number s) (Linked s) e.after e.sends) (done_inj h) timeout_kept
  act_links l n (Deliver m) h =
      let w = required (holds m s.bag) NotInBag h in
      subst (λ (e : Effect). LinksKept line (number s) (Linked s) e.after e.sends) (done_inj w.1)
      (received_kept m (remove m s.bag) (held_mem m s.bag w.0) (gives_up m s.bag))
  act_links l n Exit h =
      let w = unheld l (required (leaving s) Staying h).1 in
      subst (λ (e : Effect). LinksKept line (number s) (Linked s) e.after e.sends) (done_inj w.1)
      (exit_gone (n w.0) s.station.left s.station.right refl refl)

-- What no action changes: what a station carries, and that its bag is in written order.
pub record Keeps (s t : Node) : Type 0 where
  pub marks : t.station.marks ≡ s.station.marks
  pub order : Ordered precedes s.bag → Ordered precedes t.bag

abbrev pub KeepsIfThere : Node → Option Node → Type 0
KeepsIfThere s None = Unit {0}
KeepsIfThere s (Some t) = Keeps s t

module _ (p : declared.Station) where
  met_marks : (d : Side) (q : ℕ) (k : Neighbour) → (meet d p q k).station.marks ≡ p.marks
  unfolding meet
  met_marks d q None = changed_marks d (Some q) p
  met_marks d q (Some r) = go (beyond d q r) (eqb q r)
    where
      go : (t u : Bool)
          → (cond t (record { station = with_neighbour d (Some q) p; sends = send q (introduction r) }) (cond u (unchanged p) (record { station = p; sends = send r (introduction q) }))).station.marks ≡ p.marks
      go true u = changed_marks d (Some q) p
      go false true = refl
      go false false = refl

  dropped_marks : (d : Side) (k : Neighbour) → (drop_neighbour d p k).station.marks ≡ p.marks
  unfolding drop_neighbour
  dropped_marks d None = refl
  dropped_marks d (Some r) = changed_marks d None p

  either_marks : (t : Bool) (a b : Reaction) → a.station.marks ≡ p.marks → b.station.marks ≡ p.marks → (cond t a b).station.marks ≡ p.marks
  either_marks true a b g h = g
  either_marks false a b g h = h

  received_marks : (c : Content) → (received p c).station.marks ≡ p.marks
  unfolding received introduced removed
  received_marks (Introduction q) =
      either_marks (eqb q p.number) (unchanged p) (meet (side_of p.number q) p q (neighbour (side_of p.number q) p)) refl
      (met_marks (side_of p.number q) q (neighbour (side_of p.number q) p))
  received_marks RemoveLeft = either_marks (obeys Left p) (drop_neighbour Left p (neighbour Left p)) (unchanged p) (dropped_marks Left (neighbour Left p)) refl
  received_marks RemoveRight = either_marks (obeys Right p) (drop_neighbour Right p (neighbour Right p)) (unchanged p) (dropped_marks Right (neighbour Right p)) refl

pub act_keeps : (l : Leave) (s : Node) (a : Action) {e : Effect} → act l s a ≡ done e → KeepsIfThere s e.after
unfolding act
act_keeps l s Timeout h = subst (λ (e : Effect). KeepsIfThere s e.after) (done_inj h) (record { marks = refl; order = λ o. o })
act_keeps l s (Deliver m) h =
    subst (λ (e : Effect). KeepsIfThere s e.after) (done_inj (required (holds m s.bag) NotInBag h).1)
    (record { marks = received_marks s.station m.content; order = (gives_up m s.bag).order })
act_keeps l s Exit h = subst (λ (e : Effect). KeepsIfThere s e.after) (done_inj (unheld l (required (leaving s) Staying h).1).1) tt
