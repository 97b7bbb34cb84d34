-- Steps elsewhere: a station for which NIDEC holds is linked to by nobody else, and a station that is not linked to it neither sends to it nor
-- introduces it to anybody; so NIDEC still holds after a step at another station.
use Prim.Native.Nat.{ℕ}
use Rattle.std.specs.Prelude.{Option, Some, None, Ok}
use mathlib.Core.Path.{◌≡◌, sym, ◌∙◌, subst}
use mathlib.Core.Logic.{◌≢◌, ⊎_elim}
use mathlib.Core.List.Memᴰ
use mathlib.Core.List.{List, []}
use mathlib.Core.List.{Memᴰ as Member}
use Rattle.lists.proofs.Lists.{mem-map}
use Rattle.line.specs.declared.Step as declared
use Rattle.line.specs.Answer.{done}
use Rattle.line.specs.Node.{Node, Line, number, Present}
use Rattle.line.specs.Links.{Linked}
use Rattle.line.specs.Nidec.{Nidec}
use Rattle.line.specs.Leave.{leave_of}
use Rattle.line.specs.Accepted.{Accepted}
use Rattle.line.specs.Cause.{BlockWith}
use Rattle.line.specs.Act.{Send}
use Rattle.line.specs.Step.{replace, with_message, send_all, step}
use Rattle.line.proofs.Changes.{node_of_lem, unique, found, changed_numbers, present_without, receive_number, send_numbers}
use Rattle.line.proofs.LeaveTest.{leave_tested}
use Rattle.line.proofs.Local.{Fair, SelfOr, LinksKept, act_links}
use Rattle.line.proofs.Whole.{receive_links, stepped}
use Rattle.lasting.proofs.Everywhere.{Everywhere, KeptIn, kept_everywhere}

-- what NIDEC for station n asks of one node
record Free (n : ℕ) (t : Node) : Type 0 where
  empty : number t ≡ n → t.bag ≡ []
  unnamed : number t ≢ n → ¬ Linked t n

-- station n has a block, and NIDEC holds for it
abbrev pub NidecAt : ℕ → Line → Type 0
NidecAt n line = BlockWith line n (Nidec line)

nidec_free : (n : ℕ) (line : Line) → Accepted line → NidecAt n line → Everywhere (Free n) line
nidec_free n line ok b t m = record {
  empty = λ e. subst (λ (s : Node). s.bag ≡ []) (unique line ok.distinct b.member m (b.named ∙ sym e)) b.holds.empty;
  unnamed = λ h l. b.holds.unnamed t m (λ z. h (z ∙ b.named)) (subst (Linked t) (sym b.named) l);
}

free_nidec : (n : ℕ) (line : Line) → Present line n → Everywhere (Free n) line → NidecAt n line
free_nidec n line p f =
    let w = node_of_lem line p in
    record {
      block = w.0;
      member = w.1;
      named = sym w.2;
      holds = record {
        empty = (f w.0 w.1).empty (sym w.2);
        unnamed = λ t m h l. (f t m).unnamed (λ z. h (z ∙ w.2)) (subst (Linked t) (sym w.2) l);
      };
    }

-- What is sent reaches stations of P and introduces stations of Q, and n is neither: a node that receives it is free of n as it was.
fair_free : (n : ℕ) {P Q : ℕ → Type 0} (l : List Send) → Fair P Q l → ¬ P n → ¬ Q n
    → (m : Send) → Member m l → (t : Node) → number t ≡ m.to → Free n t → Free n (with_message m.message t)
fair_free n {P} l fair p q m k t e f = record {
  empty = λ z. absurd (away (sym (receive_number m.message t) ∙ z));
  unnamed = λ h i. ⊎_elim (f.unnamed away) (λ z. q (fair.says m.to n (Memᴰ.cast (λ j. record { to = m.to; message = z j }) k))) (receive_links m.message t i);
}
  where
    away : number t ≢ n
    away z = p (subst P (sym e ∙ z) (fair.reaches m k))

-- A step at a station s that is not n and not linked to n, by what any action does to the links of its station:
module _ (n : ℕ) (line : Line) (s : Node) (other : number s ≢ n) (unlinked : ¬ Linked s n) where
  not_self : ¬ SelfOr (number s) (Linked s) n
  not_self h = ⊎_elim (λ z. other (sym z)) unlinked h

  -- it keeps every node free of n
  keeps_free : (o : Option Node) (l : List Send) → LinksKept line (number s) (Linked s) o l → KeptIn (Free n) (record { after = o; sends = l })
  keeps_free None l k = record { own = tt; receivers = fair_free n l k.fair unlinked unlinked }
  keeps_free (Some v) l k = record {
    own = record { empty = λ z. absurd (other (sym k.named ∙ z)); unnamed = λ h i. unlinked (k.fewer n i) };
    receivers = fair_free n l k.fair unlinked not_self;
  }

  -- and n present
  keeps_present : (o : Option Node) (l : List Send) → LinksKept line (number s) (Linked s) o l → Present line n → Present (send_all l (replace (number s) o line)) n
  unfolding replace
  keeps_present None l k p = rw (send_numbers l (replace (number s) None line)) (present_without (number s) line p (λ z. other (sym z)))
  keeps_present (Some v) l k p =
      rw (send_numbers l (replace (number s) (Some v) line), changed_numbers (number s) (λ (t : Node). v) (λ t e. k.named) line) p

pub step_elsewhere : (n : ℕ) (line : Line) (x : declared.Step) {after : Line} → Accepted line → NidecAt n line → x.station ≢ n → step line x ≡ done after → NidecAt n after
step_elsewhere n line x ok b h e =
    let v = stepped line x e in
    let s = v.node in
    let f = found x.station line v.finds in
    let free = nidec_free n line ok b in
    let other : number s ≢ n = λ z. h (sym f.1 ∙ z) in
    let unlinked = (free s f.0).unnamed other in
    let o = v.effect.after in
    let l = v.effect.sends in
    let kept = act_links line s (ok.sided s f.0) (ok.small s f.0) (leave_of line s) (leave_tested line s (Ok tt)).0 x.action v.acts in
    let here : Present line n = Memᴰ.cast (sym b.named) (mem-map number b.member) in
    subst (NidecAt n) v.result
    (free_nidec n (send_all l (replace (number s) o line)) (keeps_present n line s other unlinked o l kept here)
    (kept_everywhere (Free n) line (number s) v.effect (keeps_free n line s other unlinked o l kept) free))
