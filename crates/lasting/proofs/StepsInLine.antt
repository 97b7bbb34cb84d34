-- Steps in a line in line: each that is done leaves its station as it is and sends introductions alone, so the line is in line again. A
-- station that is introduced to another already has the nearest neighbours; there is no removal to deliver and nobody to exit.
use Prim.Native.Nat.{ℕ}
use Rattle.std.specs.Prelude.{Some, None}
use Rattle.line.specs.Types.{Leave, Neighbour}
use mathlib.Core.Path.{◌≡◌, refl, sym, ap, ◌∙◌, subst}
use mathlib.Core.Logic.{◌≢◌, ⊎_elim}
use mathlib.Core.Bool.{Bool, true, false, cond}
use mathlib.Core.List.Memᴰ
use mathlib.Core.List.{List, map}
use mathlib.Core.List.{Memᴰ as Member}
use native.Mathlib.Omega.{arith}
use lib.Dec.{eqb}
use borrow.Author.Tests.{eqb-false}
use Rattle.lists.proofs.Lists.{clash}
use Rattle.line.specs.declared.Content.{Content}
use Rattle.line.specs.declared.Content.TheVariants.{Introduction, RemoveLeft, RemoveRight}
use Rattle.line.specs.declared.Message.{Message}
use Rattle.line.specs.declared.Station as declared
use Rattle.line.specs.declared.Side.{Side}
use Rattle.line.specs.declared.Side.TheVariants.{Left, Right}
use Rattle.line.specs.declared.Action.{Action}
use Rattle.line.specs.declared.Action.TheVariants.{Timeout, Deliver, Exit}
use Rattle.line.specs.declared.Step as steps
use Rattle.line.specs.declared.Refusal.TheVariants.{NotInBag, Staying}
use Rattle.line.specs.Answer.{done}
use Rattle.line.specs.Message.{introduction, removal, holds, remove}
use Rattle.line.specs.Node.{Node, Line, number, numbers, leaving, Present, Beyond, beyond, side_of, neighbour, with_neighbour}
use Rattle.line.specs.Links.{by_introduction}
use Rattle.line.specs.Leave.{leave_of}
use Rattle.line.specs.Accepted.{Accepted}
use Rattle.line.specs.Act.{Send, send, send_to, notice, timeout, Reaction, unchanged, meet, introduced, received, Effect, act}
use Rattle.line.specs.Step.{change, replace, with_message, send_all, step}
use Rattle.line.specs.InLine.{IsNext, InLine}
use Rattle.line.specs.Situations.{deliver_to}
use Rattle.line.proofs.Answers.{required, done_inj}
use Rattle.line.proofs.Messages.{held_mem, receives, gives_up}
use Rattle.line.proofs.Sides.{beyond_true, side_of_beyond}
use Rattle.line.proofs.Changes.{unique, found, changed_numbers, send_numbers}
use Rattle.line.proofs.Sends.{sent_message}
use Rattle.line.proofs.Local.{no_removal}
use Rattle.line.proofs.Whole.{stepped}
use Rattle.line.proofs.InLineKept.{StandsFor, stands_itself, in_line_kept}
use Rattle.lasting.specs.Claims.{stations, IntroductionsKeepLine}
use Rattle.lasting.proofs.Everywhere.{KeptIn, kept_everywhere}
use Rattle.lasting.proofs.Stations.{changed_stations, sent_stations}

-- every message sent is an introduction
abbrev Introduces : List Send → Type 0
Introduces l = (m : Send) → Member m l → (n : ℕ) × (m.message ≡ introduction n)

-- A step at s that leaves its station as it is, puts no removal into its bag and sends introductions alone.
record Keeps (s : Node) (e : Effect) : Type 0 where
  node : Node
  after : e.after ≡ Some node
  station : node.station ≡ s.station
  removals : (d : Side) → Member (removal d) node.bag → Member (removal d) s.bag
  introduces : Introduces e.sends

-- An introduction put into the bag of a node brings no removal.
receives_introduction : {line : Line} (m : Message) (n : ℕ) → m ≡ introduction n → (t : Node) → StandsFor line t → StandsFor line (with_message m t)
unfolding with_message
receives_introduction m n e t w = record {
  node = w.node;
  member = w.member;
  named = w.named;
  sides = w.sides;
  mark = w.mark;
  removals = λ d k. w.removals d (⊎_elim (λ z. no_removal d (sym (z ∙ e))) (λ i. i) ((receives m t.bag).only (removal d) k));
}

-- Such a step leaves all stations as they are, and a line in line in line.
module _ (line : Line) (ok : Accepted line) (s : Node) (member : Member s line) (e : Effect) (keeps : Keeps s e) where
  only : {t : Node} → Member t line → number t ≡ number s → t ≡ s
  only k h = unique line ok.distinct k member h

  after : Line
  after = send_all e.sends (replace (number s) e.after line)

  same_stations : stations after ≡ stations line
  unfolding replace after
  same_stations =
      rw keeps.after
      (sent_stations e.sends (map (change (number s) (λ (t : Node). keeps.node)) line)
      ∙ changed_stations (number s) (λ (t : Node). keeps.node) line (λ t k h. keeps.station ∙ sym (ap (λ (z : Node). z.station) (only k h))))

  same_numbers : numbers after ≡ numbers line
  unfolding replace after
  same_numbers =
      rw keeps.after
      (send_numbers e.sends (map (change (number s) (λ (t : Node). keeps.node)) line)
      ∙ changed_numbers (number s) (λ (t : Node). keeps.node) (λ t h. ap (λ (p : declared.Station). p.number) keeps.station) line)

  stands : KeptIn (StandsFor line) e
  stands = record {
    own = rw keeps.after (record {
      node = s;
      member = member;
      named = ap (λ (p : declared.Station). p.number) keeps.station;
      sides = λ d. ap (neighbour d) keeps.station;
      mark = ap (λ (p : declared.Station). p.marks.leaving) keeps.station;
      removals = keeps.removals;
    });
    receivers = λ m k t h w. let i = keeps.introduces m k in receives_introduction m.message i.0 i.1 t w;
  }

  effect_keeps : InLine line → (stations after ≡ stations line) × InLine after
  unfolding after
  effect_keeps l =
      (same_stations, in_line_kept line after (λ n. (λ k. rw same_numbers k, λ k. rw same_numbers at k)) (kept_everywhere (StandsFor line) line (number s) e stands stands_itself) l)

-- An introduction of q, present in the line, reaches a station p whose neighbours are the next on their sides.
abbrev Passes : declared.Station → Reaction → Type 0
Passes p r = (r.station ≡ p) × Introduces r.sends

module _ (line : Line) (p : declared.Station) (q : ℕ) (present : Present line q) where
  no_more : Passes p (unchanged p)
  no_more = (refl, λ m k. absurd (Memᴰ.not-nil k))

  passed_on : (r : ℕ) → Passes p (record { station = p; sends = send r (introduction q) })
  passed_on r = (refl, λ m k. (q, ap (λ (z : Send). z.message) (Memᴰ.eq_of_singleton k)))

  -- nothing lies between it and its neighbour
  passes_met : (d : Side) (k : Neighbour) → IsNext line d p.number k → Beyond d p.number q → Passes p (meet d p q k)
  unfolding meet
  passes_met d None n h = absurd (n q present h)
  passes_met d (Some r) n h = go (beyond d q r) (eqb q r) refl
    where
      go : (t u : Bool) → beyond d q r ≡ t
          → Passes p (cond t (record { station = with_neighbour d (Some q) p; sends = send q (introduction r) }) (cond u (unchanged p) (record { station = p; sends = send r (introduction q) })))
      go true u z = absurd (n.nearest q present h (beyond_true d q r z))
      go false true z = no_more
      go false false z = passed_on r

  passes : ((d : Side) → IsNext line d p.number (neighbour d p)) → Passes p (introduced p q)
  unfolding introduced
  passes next = go (eqb q p.number) refl
    where
      go : (t : Bool) → eqb q p.number ≡ t → Passes p (cond t (unchanged p) (meet (side_of p.number q) p q (neighbour (side_of p.number q) p)))
      go true z = no_more
      go false z = passes_met (side_of p.number q) (neighbour (side_of p.number q) p) (next (side_of p.number q)) (side_of_beyond p.number q (eqb-false q p.number z))

-- Of a station of a line in line:
module _ (line : Line) (ok : Accepted line) (lined : InLine line) (s : Node) (member : Member s line) where
  -- it stays, so its timeout introduces it on each side where it has a neighbour
  introduces_itself : (d : Side) → notice s.station d ≡ introduction (number s)
  unfolding notice
  introduces_itself d = rw (lined.staying s member) refl

  sent_on : (d : Side) {m : Send} → Member m (send_to (neighbour d s.station) (notice s.station d)) → (n : ℕ) × (m.message ≡ introduction n)
  sent_on d k = (number s, sent_message (neighbour d s.station) (notice s.station d) k ∙ introduces_itself d)

  timed_out : Keeps s (record { after = Some s; sends = timeout s.station })
  unfolding timeout
  timed_out = record {
    node = s;
    after = refl;
    station = refl;
    removals = λ d k. k;
    introduces = λ m k. ⊎_elim (sent_on Left) (sent_on Right) (Memᴰ.append_cases (send_to s.station.left (notice s.station Left)) k);
  }

  -- what it can be delivered is an introduction
  delivered : (m : Message) → Member m s.bag → (c : Content) → m ≡ record { content = c } → Passes s.station (received s.station c)
  unfolding received removal
  delivered m k (Introduction q) e = passes line s.station q (ok.known s member q (by_introduction (Memᴰ.cast (sym e) k))) (lined.neighbours s member)
  delivered m k RemoveLeft e = absurd (lined.quiet s member Left (Memᴰ.cast (sym e) k))
  delivered m k RemoveRight e = absurd (lined.quiet s member Right (Memᴰ.cast (sym e) k))

  -- so every step keeps what it must keep, and none is an exit
  acts_in_line : (l : Leave) (a : Action) {e : Effect} → act l s a ≡ done e → Keeps s e × (a ≢ Exit)
  unfolding act
  acts_in_line l Timeout h = (subst (Keeps s) (done_inj h) timed_out, λ z. let w : ◌≡◌ {A = ℕ} 0 1 = cc in omega arith)
  acts_in_line l (Deliver m) h =
      let w = required (holds m s.bag) NotInBag h in
      let r = delivered m (held_mem m s.bag w.0) m.content refl in (
        subst (Keeps s) (done_inj w.1) (record {
          node = record { station = (received s.station m.content).station; bag = remove m s.bag };
          after = refl;
          station = r.0;
          removals = λ d k. (gives_up m s.bag).from (removal d) k;
          introduces = r.1;
        }),
        λ z. let w : ◌≡◌ {A = ℕ} 0 1 = cc in omega arith,
      )
  acts_in_line l Exit h = clash (required (leaving s) Staying h).0 (lined.staying s member)

-- What a step in a line in line leaves.
pub record StillInLine (line : Line) (x : steps.Step) (after : Line) : Type 0 where
  pub same : stations after ≡ stations line
  pub lined : InLine after
  pub stays : x.action ≢ Exit

pub step_in_line : (line : Line) (x : steps.Step) {after : Line} → Accepted line → InLine line → step line x ≡ done after → StillInLine line x after
unfolding after
step_in_line line x ok l h =
    let v = stepped line x h in
    let m = (found x.station line v.finds).0 in
    let a = acts_in_line line ok l v.node m (leave_of line v.node) x.action v.acts in
    let k = effect_keeps line ok v.node m v.effect a.0 l in
    subst (StillInLine line x) v.result (record { same = k.0; lined = k.1; stays = a.1 })

pub introductions_keep_line : IntroductionsKeepLine
introductions_keep_line line after p q ok l h = let k = step_in_line line (deliver_to p (introduction q)) ok l h in (k.same, k.lined)
