-- The question is asked of the line in written order, and answers what the paper says of the blocks in stored order, because NIDEC and what
-- holds a station are the same of alike lines (document 02, T-02).
use Prim.Native.Nat.{ℕ}
use Rattle.std.specs.Prelude.{Ok, Err}
use Rattle.line.specs.Types.{Leave}
use mathlib.Core.Path.{◌≡◌, refl, sym, ap, ◌∙◌, subst}
use mathlib.Core.List.Memᴰ
use mathlib.Core.List.{List, [], ◌∷◌}
use mathlib.Core.List.Memᴰ.{head as here}
use mathlib.Core.List.{Memᴰ as Member}
use Rattle.lists.proofs.Lists.{mem-map}
use Rattle.line.specs.declared.Message.{Message}
use Rattle.line.specs.declared.Reason.TheVariants.{OwnBag, HeldBy}
use Rattle.line.specs.Answer.{done}
use Rattle.line.specs.Node.{Node, Line, number}
use Rattle.line.specs.Links.{Linked, by_neighbour, by_introduction, Link, link}
use Rattle.line.specs.Alike.{AlikeNodes, Alike}
use Rattle.line.specs.Nidec.{Nidec}
use Rattle.line.specs.Leave.{Holder, LeaveIs, leave_of}
use Rattle.line.specs.Step.{find}
use Rattle.line.proofs.Changes.{found, present_found}
use Rattle.line.proofs.LeaveTest.{leave_tested}
use Rattle.table.specs.Blocks.{nodes, line_of}
use Rattle.table.specs.Fault.{fault_of}
use Rattle.questions.proofs.Meanings.{nodes_back, alike_back, same_neighbour, same_messages, partner, reading_alike, answered}
use Rattle.leave.specs.Leave.{leave_at, may_leave, LeaveTold}
use Rattle.leave.specs.Claims.{MayLeaveMeans}

-- a bag without messages is empty
nothing_in : (b : List Message) → ((m : Message) → ¬ Member m b) → b ≡ []
nothing_in [] h = refl
nothing_in (m ∷ b) h = absurd (h m (here refl))

-- Of alike nodes:
module _ {s t : Node} (h : AlikeNodes s t) where
  -- the links are the same
  same_links : {q : ℕ} → Linked s q → Linked t q
  same_links (by_neighbour d e) = by_neighbour d (sym (same_neighbour h d) ∙ e)
  same_links (by_introduction m) = by_introduction (same_messages h m)

-- an empty bag is empty in the alike node
same_empty : {s t : Node} → AlikeNodes s t → s.bag ≡ [] → t.bag ≡ []
same_empty {s} {t} h e = nothing_in t.bag (λ m k. Memᴰ.not-nil (subst (Member m) e (same_messages (nodes_back h) k)))

-- Of alike lines:
module _ (a b : Line) (h : Alike a b) where
  -- what links in one links in the other
  link_alike : {p q : ℕ} → Link b p q → Link a p q
  link_alike (link u i e l) = let w = partner a b h u i in link w.node w.member (sym w.named ∙ e) (same_links w.alike l)

  -- NIDEC holds for alike nodes
  nidec_alike : {s t : Node} → Member s a → Member t b → number s ≡ number t → Nidec a s → Nidec b t
  nidec_alike {s} {t} m k e n = record {
    empty = same_empty (h.nodes s t m k e) n.empty;
    unnamed = λ u i x l.
        let p = partner a b h u i in
        n.unnamed p.node p.member (λ z. x (p.named ∙ z ∙ e)) (subst (Linked p.node) (sym e) (same_links p.alike l));
  }

-- a station has the same holder
holder_alike : (a b : Line) → Alike a b → {p q : ℕ} → Holder a p q → Holder b p q
holder_alike a b h w = record {
  other = w.other;
  linked = link_alike b a (alike_back h) w.linked;
  smallest = λ r x l. w.smallest r x (link_alike a b h l);
}

-- so what is said of a station's leaving is the same
leave_alike : (a b : Line) → Alike a b → {s t : Node} → Member s a → Member t b → number s ≡ number t → (l : Leave) → LeaveIs a s l → LeaveIs b t l
leave_alike a b h m k e (Ok _) w = nidec_alike a b h m k e w
leave_alike a b h {s} {t} m k e (Err OwnBag) w = λ z. w (same_empty (nodes_back (h.nodes s t m k e)) z)
leave_alike a b h {s} {t} m k e (Err (HeldBy q)) w = (same_empty (h.nodes s t m k e) w.0, rw (← e) (holder_alike a b h w.1))

-- a station with a block is found, and asked whether it may leave
leave_answered : (t : List ℕ) (n : ℕ) {s : Node} → fault_of t ≡ 0 → find n (line_of t) ≡ done s → may_leave t n ≡ Ok (leave_of (line_of t) s)
unfolding may_leave
leave_answered t n h e = answered t Err (leave_at (line_of t) (find n (line_of t))) h ∙ ap (leave_at (line_of t)) e

told_once : {l k : Leave} → ◌≡◌ {A = LeaveTold} (Ok l) (Ok k) → l ≡ k
told_once e = cc

-- the question looks for the station and tests the written order, and what is said is that of the stored order
pub may_leave_means : MayLeaveMeans
may_leave_means t s l h m =
    let a = reading_alike t h in
    let w = present_found (number s) (line_of t) ((a.stations (number s)).0 (mem-map number m)) in
    let f = found (number s) (line_of t) w.1 in
    let tested = leave_tested (line_of t) w.0 l in
    rw (leave_answered t (number s) h w.1) (
      λ e. leave_alike (line_of t) (nodes t) (alike_back a) f.0 m f.1 l (tested.0 (told_once e)),
      λ n. ap Ok (tested.1 (leave_alike (nodes t) (line_of t) a m f.0 (sym f.1) l n)),
    )
