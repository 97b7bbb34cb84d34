-- One law for each way through the code: what was tested and what was called give what the rules say. Each premise is one fact of the way,
-- as the code has it, so that `search` finds it.
use mathlib.Core.Path.{◌≡◌, refl, sym, ap, ap₂, ◌∙◌}
use Rattle.std.specs.Prelude.{Some, None, Ok, Err, Option, Result}
use Rattle.std.specs.Result.{MatchResult}
use Rattle.line.specs.Types.{Ending, Leave, Neighbour}
use mathlib.Core.Bool.{Bool, true, false, cond, not}
use mathlib.Core.List.{List, [], ◌++◌, append-nil}
use Prim.Native.Nat.{ℕ, ◌≤◌, ◌<◌}
use borrow.Author.Tests.{eq-eqb, ne_eqb, lt-ltb, le-ltb, not-true, not-false}
use Rattle.line.specs.declared.Content.{Content}
use Rattle.line.specs.declared.Content.TheVariants.{Introduction, RemoveLeft, RemoveRight}
use Rattle.line.specs.declared.Message.{Message}
use Rattle.line.specs.declared.Station as declared
use Rattle.line.specs.declared.Side.{Side}
use Rattle.line.specs.declared.Side.TheVariants.{Left, Right}
use Rattle.line.specs.declared.Action.{Action}
use Rattle.line.specs.declared.Action.TheVariants.{Timeout, Deliver, Exit}
use Rattle.line.specs.declared.Refusal.{Refusal}
use Rattle.line.specs.declared.Refusal.TheVariants.{NotInBag, Staying, Held}
use Rattle.line.specs.Answer.{Answer, refused, done, require, unless_held}
use Rattle.line.specs.Message.{introduction, removal, holds, remove}
use Rattle.line.specs.Node.{opposite, beyond, neighbour, with_neighbour}
use Rattle.line.specs.Act.{Send, send_to, notice, timeout, Reaction, Effect, unchanged, drop_neighbour, obeys, removed, received, introduce_both, kept, act}
use Rattle.line.specs.Report.{process, Intro, less, mail, left_id, right_id, variable}
use Rattle.line.proofs.Report.{intro_to}
use Rattle.line.proofs.ReportLocal.{variable_station}
use Rattle.lists.proofs.Lists.{clash}
use Rattle.delivery.specs.Lemma3.{below, equal, on_side, introduced}
use Rattle.delivery.proofs.Agreement.{order_agrees}
use Rattle.rules.specs.declared.Sending.{Sending}
use Rattle.rules.specs.declared.Sendings.{Sendings}
use Rattle.rules.specs.declared.Reacted.{Reacted}
use Rattle.rules.specs.declared.Decision.{Decision}
use Rattle.rules.specs.Decided.{sent, both_sent, reaction, is_found, Decides}

-- The sides.
module _ (d : Side) where
  pub with_left : (n : Neighbour) (s : declared.Station) → d ≡ Left → record { number = s.number; left = n; right = s.right; marks = s.marks } ≡ with_neighbour d n s
  unfolding with_neighbour
  with_left n s e = rw e

  pub with_right : (n : Neighbour) (s : declared.Station) → d ≡ Right → record { number = s.number; left = s.left; right = n; marks = s.marks } ≡ with_neighbour d n s
  unfolding with_neighbour
  with_right n s e = rw e

  pub removal_left : d ≡ Left → record { content = RemoveLeft } ≡ removal d
  unfolding removal
  removal_left e = rw e

  pub removal_right : d ≡ Right → record { content = RemoveRight } ≡ removal d
  unfolding removal
  removal_right e = rw e

-- A timeout.
module _ (p : declared.Station) (d : Side) (m : Message) where
  pub notice_leaving : (o : Side) → p.marks.leaving ≡ true → o ≡ opposite d → m ≡ removal o → m ≡ notice p d
  unfolding notice
  notice_leaving o e f g = g ∙ ap removal f ∙ sym (ap (λ (t : Bool). cond t (removal (opposite d)) (introduction p.number)) e)

  pub notice_staying : p.marks.leaving ≡ false → m ≡ introduction p.number → m ≡ notice p d
  unfolding notice
  notice_staying e g = g ∙ sym (ap (λ (t : Bool). cond t (removal (opposite d)) (introduction p.number)) e)

pub timed_out : (p : declared.Station) (m k : Message) (a b : Option Sending) → m ≡ notice p Left → k ≡ notice p Right → sent a ≡ send_to p.left m → sent b ≡ send_to p.right k
    → both_sent (record { first = a; second = b }) ≡ timeout p
unfolding timeout
timed_out p m k a b e f g h = ap₂ (λ (x y : List Send). x ++ y) (g ∙ ap (send_to p.left) e) (h ∙ ap (send_to p.right) f)

-- What holds on the left and on the right holds on each side.
on_each : (P : Side → Type 0) → P Left → P Right → (d : Side) → P d
on_each P l r Left = l
on_each P l r Right = r

-- An introduction of id beside a neighbour n, which the text takes for its variable.
module _ (id : ℕ) (n : Neighbour) (d : Side) where
  pub below_none : n ≡ None → true ≡ below d id (variable d n)
  unfolding below less left_id right_id
  below_none e = rw e (on_each (λ d. true ≡ below d id (variable d None)) refl refl d)

  pub below_station : (q : ℕ) {b : Bool} → n ≡ Some q → b ≡ beyond d id q → b ≡ below d id (variable d n)
  unfolding below less beyond
  below_station q e f = rw (e, variable_station d q) (f ∙ on_each (λ d. beyond d id q ≡ below d id (process q)) refl refl d)

-- An introduction of id, who lies on side d of p, where the neighbour is n: below, equal and above; t is p afterwards.
module _ (d : Side) (p : declared.Station) (id : ℕ) (n : Neighbour) (b : Bool) (f : b ≡ below d id (variable d n)) where
  pub on_below : (t : declared.Station) (x : Option Sending) → b ≡ true → t ≡ with_neighbour d (Some id) p → ((e : Side) → sent x ≡ mail (Intro (variable e n)) (process id))
      → reaction (record { station = t; sending = x }) ≡ on_side d p id (variable d n)
  unfolding on_side
  on_below t x i g h = rw (← f, i, g, h d)

  module _ (c : Bool) (h : (e : Side) → c ≡ equal id (variable e n)) where
    pub on_equal : (x : Reacted) → b ≡ false → c ≡ true → reaction x ≡ unchanged p → reaction x ≡ on_side d p id (variable d n)
    unfolding on_side
    on_equal x i k g = g ∙ rw (← f, i, ← h d, k)

    pub on_above : (m : Message) (x : Option Sending) → b ≡ false → c ≡ false → m ≡ introduction id → sent x ≡ send_to n m
        → reaction (record { station = p; sending = x }) ≡ on_side d p id (variable d n)
    unfolding on_side
    on_above m x i k e g = ap (λ (l : List Send). record { station = p; sends = l }) (g ∙ ap (send_to n) e ∙ sym (intro_to d id n)) ∙ rw (← f, i, ← h d, k)

-- The neighbour n on side d is dropped, or there is none.
module _ (d : Side) (p : declared.Station) (n : Neighbour) where
  pub dropped_none : (x : Reacted) → n ≡ None → reaction x ≡ unchanged p → reaction x ≡ drop_neighbour d p n
  unfolding drop_neighbour
  dropped_none x e h = h ∙ rw e

  pub dropped : (r : ℕ) (t : declared.Station) (m : Message) → n ≡ Some r → t ≡ with_neighbour d None p → m ≡ introduction p.number
      → reaction (record { station = t; sending = Some (record { to = r; message = m }) }) ≡ drop_neighbour d p n
  unfolding drop_neighbour
  dropped r t m e f g = rw (e, f, g)

-- x is what the call gave
module _ (x : Reacted) (p : declared.Station) where
  module _ (id : ℕ) where
    pub introduced_itself : id ≡ p.number → reaction x ≡ unchanged p → reaction x ≡ introduced p id
    unfolding introduced
    introduced_itself e h = h ∙ rw (eq-eqb id p.number e)

    pub introduced_right : (id ≡ p.number → ⊥) → p.number < id → reaction x ≡ on_side Right p id (variable Right p.right) → reaction x ≡ introduced p id
    unfolding introduced
    introduced_right i k h = h ∙ rw (ne_eqb id p.number i, lt-ltb p.number id k)

    pub introduced_left : (id ≡ p.number → ⊥) → id ≤ p.number → reaction x ≡ on_side Left p id (variable Left p.left) → reaction x ≡ introduced p id
    unfolding introduced
    introduced_left i k h = h ∙ rw (ne_eqb id p.number i, le-ltb p.number id k)

  pub removed_obeyed : (d : Side) (n : Neighbour) (b : Bool) → b ≡ obeys d p → b ≡ true → n ≡ neighbour d p → reaction x ≡ drop_neighbour d p n → reaction x ≡ removed p d
  unfolding removed
  removed_obeyed d n b e i f h = h ∙ rw f (sym (ap (λ (t : Bool). cond t (drop_neighbour d p (neighbour d p)) (unchanged p)) (sym e ∙ i)))

  pub removed_ignored : (d : Side) (b : Bool) → b ≡ obeys d p → b ≡ false → reaction x ≡ unchanged p → reaction x ≡ removed p d
  unfolding removed
  removed_ignored d b e i h = h ∙ sym (ap (λ (t : Bool). cond t (drop_neighbour d p (neighbour d p)) (unchanged p)) (sym e ∙ i))

  module _ (c : Content) where
    pub received_introduction : (q : ℕ) → c ≡ Introduction q → reaction x ≡ introduced p q → reaction x ≡ received p c
    unfolding received
    received_introduction q e h = rw e (h ∙ order_agrees p q)

    pub received_left : c ≡ RemoveLeft → reaction x ≡ removed p Left → reaction x ≡ received p c
    unfolding received
    received_left e h = rw e h

    pub received_right : c ≡ RemoveRight → reaction x ≡ removed p Right → reaction x ≡ received p c
    unfolding received
    received_right e h = rw e h

-- Both neighbours, or not.
none_sent : (x : Sendings) → (x.first ≡ None) × (x.second ≡ None) → both_sent x ≡ []
none_sent x h = rw (h.0, h.1)

module _ (a b : Neighbour) where
  pub no_left : (x : Sendings) → a ≡ None → (x.first ≡ None) × (x.second ≡ None) → both_sent x ≡ introduce_both a b
  unfolding introduce_both
  no_left x e h = none_sent x h ∙ rw e

  pub no_right : (x : Sendings) (l : ℕ) → a ≡ Some l → b ≡ None → (x.first ≡ None) × (x.second ≡ None) → both_sent x ≡ introduce_both a b
  unfolding introduce_both
  no_right x l e f h = none_sent x h ∙ rw (e, f)

  pub both_introduced : (l r : ℕ) (m k : Message) → a ≡ Some l → b ≡ Some r → m ≡ introduction r → k ≡ introduction l
      → both_sent (record { first = Some (record { to = l; message = m }); second = Some (record { to = r; message = k }) }) ≡ introduce_both a b
  unfolding introduce_both
  both_introduced l r m k e f g h = rw (e, f, g, h)

-- Refusals.
module _ (l : Leave) (s : declared.Station) (b : List Message) where
  refuses : (r : Refusal) {a : Action} → act l (record { station = s; bag = b }) a ≡ refused r → Decides l s b a (Err r)
  refuses r g = record { says = sym g; itself = tt }

  pub not_in_bag : (m : Message) (found : Bool) → not found ≡ true → found ≡ holds m b → Decides l s b (Deliver m) (Err NotInBag)
  unfolding act require
  not_in_bag m found i h = refuses NotInBag (rw (sym h ∙ not-true found i))

  pub exit_staying : not s.marks.leaving ≡ true → Decides l s b Exit (Err Staying)
  unfolding act require
  exit_staying h =
      refuses Staying
      (ap (λ t. require t Staying (unless_held l (done (record { after = None; sends = introduce_both s.left s.right })))) (not-true s.marks.leaving h))

  pub exit_held : not s.marks.leaving ≡ false → (r : Refusal) → MatchResult l (λ u. ◌≡◌ {A = Ending} (Err r) (Ok u)) (λ why. r ≡ Held why) → Decides l s b Exit (Err r)
  unfolding act require unless_held
  exit_held h r i = refuses r (rw (not-false s.marks.leaving h) (held l i _))
    where
      held : (l : Leave) → MatchResult l (λ u. ◌≡◌ {A = Ending} (Err r) (Ok u)) (λ why. r ≡ Held why) → (a : Answer Effect) → unless_held l a ≡ refused r
      held (Ok _) i a = cc
      held (Err why) i a = ap refused (sym i)

-- What is done.
module _ (l : Leave) (s : declared.Station) (b : List Message) where
  pub exits : (p : Sendings) → not s.marks.leaving ≡ false → (P : Unit {0} → Type 0) → MatchResult l P (λ why. ⊥) → both_sent p ≡ introduce_both s.left s.right
      → Decides l s b Exit (Ok (record { gone = true; station = s; sendings = p }))
  unfolding act require unless_held
  exits p h P k e = record {
    says = ap (λ (l : List Send). done (record { after = None; sends = l })) e ∙ sym (rw (not-false s.marks.leaving h, free l k));
    itself = λ z. refl;
  }
    where
      free : (l : Leave) → MatchResult l P (λ why. ⊥) → l ≡ Ok tt
      free (Ok _) k = refl
      free (Err why) k = absurd k

  pub delivers : (m : Message) (found : Bool) (r : Reacted) → not found ≡ false → reaction r ≡ received s m.content → found ≡ holds m b
      → Decides l s b (Deliver m) (Ok (record { gone = false; station = r.station; sendings = record { first = r.sending; second = None } }))
  unfolding act require
  delivers m found r f e h = record {
    says = ap (λ (u : Reaction). done (record { after = Some (record { station = u.station; bag = remove m b }); sends = u.sends })) (sends_one ∙ e)
        ∙ sym (ap (λ (h : Bool). require h NotInBag (done (kept (remove m b) (received s m.content)))) (sym h ∙ not-false found f));
    itself = λ z. clash z refl;
  }
    where
      -- nothing after the one message
      sends_one : record { station = r.station; sends = sent r.sending ++ [] } ≡ reaction r
      sends_one = ap (λ (l : List Send). record { station = r.station; sends = l }) (append-nil (sent r.sending))

  -- by the action
  module _ (a : Action) where
    pub timeout_decides : (p : Sendings) → a ≡ Timeout → both_sent p ≡ timeout s → Decides l s b a (Ok (record { gone = false; station = s; sendings = p }))
    unfolding act
    timeout_decides p i e = rw i (record {
      says = ap (λ (l : List Send). done (record { after = Some (record { station = s; bag = b }); sends = l })) e;
      itself = λ z. refl;
    })

    pub delivery_decides : (m : Message) (found : Bool) (d : Result Decision Refusal) → a ≡ Deliver m
        → ((l : Leave) (b : List Message) → found ≡ holds m b → Decides l s b (Deliver m) d) → found ≡ is_found a b → Decides l s b a d
    delivery_decides m found d i f h = rw i (f l b (h ∙ ap (λ (z : Action). is_found z b) i))

    pub exit_decides : (d : Result Decision Refusal) → a ≡ Exit → ((b : List Message) → Decides l s b Exit d) → Decides l s b a d
    exit_decides d i f = rw i (f b)
