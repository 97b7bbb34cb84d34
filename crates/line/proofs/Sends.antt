-- No step sends to its own station, and no step sends two messages to one station (document 01, "What a step does at station p").
use mathlib.Core.Path.{◌≡◌, refl, sym, ◌∙◌, ap, subst}
use Rattle.std.specs.Prelude.{Some, None}
use Rattle.line.specs.Types.{Leave, Neighbour}
use mathlib.Core.Logic.{◌≢◌, ⊎_elim}
use mathlib.Core.Bool.{Bool, true, false, cond}
use mathlib.Core.List.Memᴰ
use mathlib.Core.List.{List, [], ◌++◌}
use mathlib.Core.List.{Memᴰ as Member}
use Prim.Native.Nat.{ℕ}
use native.Mathlib.Omega.{arith}
use lib.Dec.{eqb}
use borrow.Author.Tests.{eqb-false}
use Rattle.line.specs.declared.Content.{Content}
use Rattle.line.specs.declared.Content.TheVariants.{Introduction, RemoveLeft, RemoveRight}
use Rattle.line.specs.declared.Message.{Message}
use Rattle.line.specs.declared.Refusal.TheVariants.{NotInBag, Staying}
use Rattle.line.specs.declared.Side.{Side}
use Rattle.line.specs.declared.Side.TheVariants.{Left, Right}
use Rattle.line.specs.declared.Action.{Action}
use Rattle.line.specs.declared.Action.TheVariants.{Timeout, Deliver, Exit}
use Rattle.line.specs.Answer.{done}
use Rattle.line.specs.Message.{introduction, holds}
use Rattle.line.specs.Node.{Node, number, leaving, beyond, side_of, neighbour, with_neighbour}
use Rattle.line.specs.Accepted.{Sided}
use Rattle.line.specs.Act.{Send, send, send_to, notice, timeout, unchanged, meet, introduced, drop_neighbour, obeys, removed, received, introduce_both, Effect, act}
use Rattle.line.specs.Claims.{Apart, SendsApart}
use Rattle.line.proofs.Answers.{required, unheld, done_inj}
use Rattle.line.proofs.Sides.{beyond_other}

-- sends that go elsewhere than to station n, no two to one station
pub record Clear (n : ℕ) (l : List Send) : Type 0 where
  pub away : (m : Send) → Member m l → m.to ≢ n
  pub once : Apart l

clear_none : {n : ℕ} → Clear n []
clear_none = record { away = λ m k. absurd (Memᴰ.not-nil k); once = tt }

clear_one : {n : ℕ} (r : ℕ) (c : Message) → r ≢ n → Clear n (send r c)
clear_one r c h = record {
  away = λ m k e. h (sym (ap (λ (z : Send). z.to) (Memᴰ.eq_of_singleton k)) ∙ e);
  once = (λ k m. absurd (Memᴰ.not-nil m), tt);
}

-- a message to each neighbour that there is: where it goes, and what it is
pub sent_to : (k : Neighbour) (c : Message) {m : Send} → Member m (send_to k c) → k ≡ Some m.to
unfolding send_to
sent_to None c h = absurd (Memᴰ.not-nil h)
sent_to (Some r) c h = ap Some (sym (ap (λ (z : Send). z.to) (Memᴰ.eq_of_singleton h)))

pub sent_message : (k : Neighbour) (c : Message) {m : Send} → Member m (send_to k c) → m.message ≡ c
unfolding send_to
sent_message None c h = absurd (Memᴰ.not-nil h)
sent_message (Some r) c h = ap (λ (z : Send). z.message) (Memᴰ.eq_of_singleton h)

clear_two : (s : Node) → Sided s → {a b : Neighbour} → s.station.left ≡ a → s.station.right ≡ b → (c e : Message) → Clear (number s) (send_to a c ++ send_to b e)
unfolding send_to
clear_two s ok {a} {b} p q c e = record {
  away = λ m h. ⊎_elim (λ k. beyond_other Left (number s) m.to (ok Left m.to (p ∙ sent_to a c k)))
      (λ k. beyond_other Right (number s) m.to (ok Right m.to (q ∙ sent_to b e k))) (Memᴰ.append_cases (send_to a c) h);
  once = apart a b p q;
}
  where
    apart : (a b : Neighbour) → s.station.left ≡ a → s.station.right ≡ b → Apart (send_to a c ++ send_to b e)
    apart None None p q = tt
    apart None (Some r) p q = (λ k m. absurd (Memᴰ.not-nil m), tt)
    apart (Some l) None p q = (λ k m. absurd (Memᴰ.not-nil m), tt)
    apart (Some l) (Some r) p q =
        (λ k m z. omega (arith, ok Left l p, ok Right r q, z, ap (λ (y : Send). y.to) (Memᴰ.eq_of_singleton m)), (λ k m. absurd (Memᴰ.not-nil m), tt))

module _ (s : Node) (ok : Sided s) where
  clear_timeout : Clear (number s) (timeout s.station)
  unfolding timeout
  clear_timeout = clear_two s ok refl refl (notice s.station Left) (notice s.station Right)

  clear_exit : (a b : Neighbour) → s.station.left ≡ a → s.station.right ≡ b → Clear (number s) (introduce_both a b)
  unfolding introduce_both send_to
  clear_exit None b p q = clear_none
  clear_exit (Some l) None p q = clear_none
  clear_exit (Some l) (Some r) p q = clear_two s ok p q (introduction r) (introduction l)

  clear_meet : (d : Side) (q : ℕ) (k : Neighbour) → neighbour d s.station ≡ k → q ≢ number s → Clear (number s) (meet d s.station q k).sends
  unfolding meet
  clear_meet d q None e h = clear_none
  clear_meet d q (Some r) e h = go (beyond d q r) (eqb q r)
    where
      go : (t u : Bool)
          → Clear (number s)
          (cond t (record { station = with_neighbour d (Some q) s.station; sends = send q (introduction r) })
          (cond u (unchanged s.station) (record { station = s.station; sends = send r (introduction q) }))).sends
      go true u = clear_one q (introduction r) h
      go false true = clear_none
      go false false = clear_one r (introduction q) (beyond_other d (number s) r (ok d r e))

  clear_introduced : (q : ℕ) → Clear (number s) (introduced s.station q).sends
  unfolding introduced
  clear_introduced q = go (eqb q (number s)) refl
    where
      go : (t : Bool) → eqb q (number s) ≡ t → Clear (number s) (cond t (unchanged s.station) (meet (side_of (number s) q) s.station q (neighbour (side_of (number s) q) s.station))).sends
      go true e = clear_none
      go false e = clear_meet (side_of (number s) q) q (neighbour (side_of (number s) q) s.station) refl (eqb-false q (number s) e)

  clear_dropped : (d : Side) (k : Neighbour) → neighbour d s.station ≡ k → Clear (number s) (drop_neighbour d s.station k).sends
  unfolding drop_neighbour
  clear_dropped d None e = clear_none
  clear_dropped d (Some r) e = clear_one r (introduction (number s)) (beyond_other d (number s) r (ok d r e))

  clear_removed : (d : Side) → Clear (number s) (removed s.station d).sends
  unfolding removed
  clear_removed d = go (obeys d s.station)
    where
      go : (t : Bool) → Clear (number s) (cond t (drop_neighbour d s.station (neighbour d s.station)) (unchanged s.station)).sends
      go true = clear_dropped d (neighbour d s.station) refl
      go false = clear_none

  clear_received : (c : Content) → Clear (number s) (received s.station c).sends
  unfolding received
  clear_received (Introduction q) = clear_introduced q
  clear_received RemoveLeft = clear_removed Left
  clear_received RemoveRight = clear_removed Right

  pub clear_act : (l : Leave) (a : Action) {e : Effect} → act l s a ≡ done e → Clear (number s) e.sends
  unfolding act
  clear_act l Timeout h = subst (λ (e : Effect). Clear (number s) e.sends) (done_inj h) clear_timeout
  clear_act l (Deliver m) h = subst (λ (e : Effect). Clear (number s) e.sends) (done_inj (required (holds m s.bag) NotInBag h).1) (clear_received m.content)
  clear_act l Exit h =
      let v = (required (leaving s) Staying h).1 in
      subst (λ (e : Effect). Clear (number s) e.sends) (done_inj (unheld l v).1) (clear_exit s.station.left s.station.right refl refl)

pub sends_apart : SendsApart
sends_apart l s a e ok h = let c = clear_act s ok l a h in (c.away, c.once)
