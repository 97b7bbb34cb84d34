-- A step on the whole line: it stays accepted and in written order, and no two stations that stay are cut apart or newly joined.
use mathlib.Core.Path.{◌≡◌, refl, sym, ◌∙◌, ap, subst}
use Rattle.std.specs.Prelude.{Option, Some, None, Ok}
use mathlib.Core.Logic.{◌≢◌, ◌⊎◌, inl, inr, ⊎_elim, by_cases}
use mathlib.Core.Bool.{true, cond}
use mathlib.Core.List.Memᴰ
use mathlib.Core.List.{List, [], ◌∷◌, map}
use mathlib.Core.List.Memᴰ.{head as here}
use mathlib.Core.List.Memᴰ.{tail as there}
use mathlib.Core.List.{Memᴰ as Member}
use Prim.Native.Nat.{ℕ, ◌≤◌, ◌<◌}
use native.Mathlib.Omega.{arith}
use native.Mathlib.Decide.{ℕ_discrete}
use lib.Dec.{eqb}
use borrow.Author.Tests.{eq-eqb, ne_eqb}
use lib.ListN.{length}
use Rattle.line.specs.declared.Message.{Message}
use Rattle.line.specs.declared.Refusal.TheVariants.{Full}
use Rattle.line.specs.declared.Step as declared
use Rattle.lists.specs.Lists.{all, Ordered}
use Rattle.line.specs.Answer.{done, ◌>>=◌}
use Rattle.line.specs.Message.{introduction, precedes, put, capacity}
use Rattle.line.specs.Node.{Node, Line, number, numbers, Present, Written}
use Rattle.lists.specs.Numbers.{Distinct}
use Rattle.line.specs.Links.{Linked, by_neighbour, by_introduction, Link, link, same_station, along, against, Joined}
use Rattle.line.specs.Leave.{leave_of}
use Rattle.line.specs.Accepted.{Sided, Accepted}
use Rattle.line.specs.Act.{Send, Effect, act}
use Rattle.line.specs.Step.{find, change, without, replace, with_message, send_all, has_room, commit, step}
use Rattle.line.specs.Claims.{Apart, StepKeepsAccepted, StepKeepsWritten}
use Rattle.lists.proofs.Lists.{all_true, mem-map, map-length}
use Rattle.line.proofs.Answers.{bound, required, done_inj}
use Rattle.line.proofs.Messages.{receives, room_for}
use Rattle.line.proofs.Chains.{forward, equal, append, transport, carry}
use Rattle.line.proofs.LeaveTest.{leave_tested}
use Rattle.line.proofs.Changes.{node_of_lem, unique, found, changed_mem, keeps_other, takes_it, changed_numbers, changed_all, receive_number, without_mem, mem_without, without_present, present_without, without_pairwise, without_length, room_true}
use Rattle.line.proofs.Sends.{Clear, clear_act}
use Rattle.line.proofs.Local.{Sent, Edge, own, sent, Fair, SelfOr, Remains, Gone, LinksKept, act_links, Keeps, KeepsIfThere, act_keeps}

-- its bag is within its bound; its bag is in written order
abbrev Small : Node → Type 0
Small s = length s.bag ≤ capacity

abbrev InOrder : Node → Type 0
InOrder s = Ordered precedes s.bag

-- numbers
source : {line : Line} {x y : ℕ} → Link line x y → Present line x
source (link s m e p) = Memᴰ.cast (sym e) (mem-map number m)

target : {line : Line} → Accepted line → {x y : ℕ} → Link line x y → Present line y
target ok {y = y} (link s m e p) = ok.known s m y p

-- what is joined to a present station is present
joined_present : {line : Line} → Accepted line → {x y : ℕ} → Joined line x y → Present line x → Present line y
joined_present h same_station m = m
joined_present h (along r j) m = joined_present h j (target h r)
joined_present h (against r j) m = joined_present h j (source r)

-- each station that is there afterwards was there before, with its marks
abbrev pub Came : Line → Line → Type 0
Came line after = (t : Node) → Member t after → (s : Node) × Member s line × (number s ≡ number t) × (s.station.marks ≡ t.station.marks)

pub came_same : {line : Line} → Came line line
came_same t m = (t, m, refl, refl)

pub came_then : {a b c : Line} → Came a b → Came b c → Came a c
came_then f g t m =
    let w = g t m in
    let v = f w.0 w.1 in
    (v.0, v.1, v.2 ∙ w.2, v.3 ∙ w.3)

pub came_present : {line after : Line} → Came line after → (x : ℕ) → Present after x → Present line x
came_present {line} {after} f x m =
    let v = node_of_lem after m in
    let w = f v.0 v.1 in
    Memᴰ.cast (v.2 ∙ sym w.2) (mem-map number w.1)

changed_came : (n : ℕ) (f : Node → Node) (line : Line)
    → ((t : Node) → Member t line → number t ≡ n → (number t ≡ number (f t)) × (t.station.marks ≡ (f t).station.marks)) → Came line (map (change n f) line)
changed_came n f line h t m =
    ⊎_elim (λ w. (t, w.0, refl, refl))
    (λ w. let v = h w.0 w.1 w.2 in (w.0, w.1, v.0 ∙ ap number (sym w.3), v.1 ∙ ap (λ (z : Node). z.station.marks) (sym w.3)))
    (changed_mem n f line m)

-- A message is put into a bag.
pub receive_links : (m : Message) (t : Node) {y : ℕ} → Linked (with_message m t) y → Linked t y ⊎ (introduction y ≡ m)
unfolding with_message
receive_links m t (by_neighbour d e) = inl (by_neighbour d e)
receive_links m t {y} (by_introduction k) = ⊎_elim inr (λ h. inl (by_introduction h)) ((receives m t.bag).only (introduction y) k)

links_receive : (m : Message) (t : Node) {y : ℕ} → Linked t y → Linked (with_message m t) y
unfolding with_message
links_receive m t (by_neighbour d e) = by_neighbour d e
links_receive m t {y} (by_introduction k) = by_introduction ((receives m t.bag).keeps (introduction y) k)

receive_there : (m : Message) (t : Node) {y : ℕ} → introduction y ≡ m → Linked (with_message m t) y
unfolding with_message
receive_there m t e = by_introduction (Memᴰ.cast e (receives m t.bag).arrives)

receive_sided : (m : Message) (t : Node) → Sided t → Sided (with_message m t)
unfolding with_message
receive_sided m t h d q e = h d q e

receive_marks : (m : Message) (t : Node) → (with_message m t).station.marks ≡ t.station.marks
unfolding with_message
receive_marks m t = refl

receive_small : (m : Message) (t : Node) → length (put m t.bag) ≤ capacity → Small (with_message m t)
unfolding with_message
receive_small m t h = h

receive_order : (m : Message) (t : Node) → InOrder t → InOrder (with_message m t)
unfolding with_message
receive_order m t h = (receives m t.bag).order h

module _ (n : ℕ) (m : Message) (line : Line) where
  posted : Line
  posted = map (change n (with_message m)) line

  posted_numbers : numbers posted ≡ numbers line
  unfolding posted
  posted_numbers = changed_numbers n (with_message m) (λ t e. receive_number m t ∙ e) line

  posted_links : {x y : ℕ} → Link posted x y → Link line x y ⊎ ((x ≡ n) × (introduction y ≡ m))
  unfolding posted
  posted_links {x} {y} (link s k e p) =
      ⊎_elim (λ h. inl (link s h.0 e p))
      (λ w. ⊎_elim (λ q. inl (link w.0 w.1 (sym (receive_number m w.0) ∙ ap number (sym w.3) ∙ e) q))
      (λ q. inr (sym e ∙ ap number w.3 ∙ receive_number m w.0 ∙ w.2, q))
      (receive_links m w.0 (subst (λ (z : Node). Linked z y) w.3 p)))
      (changed_mem n (with_message m) line k)

  posted_keeps : {x y : ℕ} → Link line x y → Link posted x y
  unfolding posted
  posted_keeps (link s k e p) =
      by_cases (ℕ_discrete (number s) n) (λ h. link (with_message m s) (takes_it n (with_message m) k h) (receive_number m s ∙ e) (links_receive m s p))
      (λ h. link s (keeps_other n (with_message m) k h) e p)

  posted_arrives : {x y : ℕ} → x ≡ n → introduction y ≡ m → Present line x → Link posted x y
  unfolding posted
  posted_arrives h e p =
      let w = node_of_lem line p in
      link (with_message m w.0) (takes_it n (with_message m) w.1 (sym w.2 ∙ h)) (receive_number m w.0 ∙ sym w.2) (receive_there m w.0 e)

-- there is room for what is sent: the bag that receives it stays within its bound
abbrev pub Room : Line → Send → Type 0
Room line m = (t : Node) → Member t line → number t ≡ m.to → length (put m.message t.bag) ≤ capacity

pub has_room_lem : (m : Send) (line : Line) → has_room line m ≡ true → Room line m
has_room_lem m line e t k h = (room_for m.message t.bag).0 (room_true m line e t k h)

posted_room : (n : ℕ) (m : Message) (line : Line) (k : Send) → n ≢ k.to → Room line k → Room (posted n m line) k
unfolding posted
posted_room n m line k h r t i e =
    ⊎_elim (λ q. r t q.0 e) (λ w. absurd (h (sym w.2 ∙ sym (receive_number m w.0) ∙ sym (ap number w.3) ∙ e))) (changed_mem n (with_message m) line i)

-- All messages are sent.
pub record Posted (line : Line) (l : List Send) (after : Line) : Type 0 where
  pub alike : numbers after ≡ numbers line
  pub links : (x y : ℕ) → Link after x y → Link line x y ⊎ Sent l x y
  pub keeps : (x y : ℕ) → Link line x y → Link after x y
  pub arrives : (x y : ℕ) → Sent l x y → Present line x → Link after x y
  pub sided : ((s : Node) → Member s line → Sided s) → (s : Node) → Member s after → Sided s
  pub came : Came line after
  pub small : ((s : Node) → Member s line → Small s) → (s : Node) → Member s after → Small s
  pub order : ((s : Node) → Member s line → InOrder s) → (s : Node) → Member s after → InOrder s

sent_all : (l : List Send) (line : Line) → Apart l → ((m : Send) → Member m l → Room line m) → Posted line l (send_all l line)
unfolding send_all posted
sent_all [] line a r = record {
  alike = refl;
  links = λ x y h. inl h;
  keeps = λ x y h. h;
  arrives = λ x y k. absurd (Memᴰ.not-nil k);
  sided = λ h. h;
  came = came_same;
  small = λ h. h;
  order = λ h. h;
}
sent_all (m ∷ l) line a r =
    go (sent_all l (posted m.to m.message line) a.1 (λ k i. posted_room m.to m.message line k (a.0 k i) (r k (there i))))
  where
    next : Line
    next = posted m.to m.message line

    go : Posted next l (send_all l next) → Posted line (m ∷ l) (send_all l next)
    go p = record {
      alike = p.alike ∙ posted_numbers m.to m.message line;
      links = λ x y h. ⊎_elim
          (λ k. ⊎_elim inl (λ z. inr (here (λ i. record { to = z.0 i; message = z.1 i }))) (posted_links m.to m.message line k))
          (λ k. inr (there k)) (p.links x y h);
      keeps = λ x y h. p.keeps x y (posted_keeps m.to m.message line h);
      arrives = λ x y k h. ⊎_elim
          (λ z. p.keeps x y (posted_arrives m.to m.message line (ap (λ (t : Send). t.to) z) (ap (λ (t : Send). t.message) z) h))
          (λ n. p.arrives x y n (rw posted_numbers h)) (Memᴰ.cases_cons k);
      sided = λ h. p.sided (changed_all m.to (with_message m.message) Sided line h (λ t k q. receive_sided m.message t (h t k)));
      came = came_then (changed_came m.to (with_message m.message) line (λ t k q. (sym (receive_number m.message t), sym (receive_marks m.message t)))) p.came;
      small = λ h. p.small (changed_all m.to (with_message m.message) Small line h (λ t k q. receive_small m.message t (r m (here refl) t k q)));
      order = λ h. p.order (changed_all m.to (with_message m.message) InOrder line h (λ t k q. receive_order m.message t (h t k)));
    }

numbers_length : (a b : Line) → numbers a ≡ numbers b → length a ≡ length b
numbers_length a b e = sym (map-length number a) ∙ ap length e ∙ map-length number b

-- What a step, or a run, has done to an accepted line.
pub record Result (line after : Line) : Type 0 where
  pub accepted : Accepted after
  pub written : Written line → Written after
  pub came : Came line after
  pub backed : (x y : ℕ) → Link after x y → Joined line x y
  pub stays : (a b : ℕ) → Present after a → Present after b → Joined line a b → Joined after a b

-- a line is accepted again if its nodes are as they must be and it names nobody but present ones
accepted_again : {line after : Line} → Accepted line → length after ≤ length line → Distinct (numbers after) → Came line after
    → ((s : Node) → Member s after → Sided s) → ((s : Node) → Member s after → Small s) → ((x y : ℕ) → Link after x y → Present after y) → Accepted after
accepted_again {line} {after} ok few apart came sided small known = record {
  few = omega (arith, ok.few, few);
  ranged = λ s m. let w = came s m in rw (← w.2) (ok.ranged w.0 w.1);
  marked = λ s m. let w = came s m in rw (← w.3) (ok.marked w.0 w.1);
  small = small;
  sided = sided;
  distinct = apart;
  known = λ s m q l. known (number s) q (link s m refl l);
}

module _ (line : Line) (ok : Accepted line) (s : Node) (there_is : Member s line) where
  from_here : {x y : ℕ} → x ≡ number s → Linked s y → Link line x y
  from_here e p = link s there_is (sym e) p

  is_here : {t : Node} → Member t line → number t ≡ number s → {y : ℕ} → Linked t y → Linked s y
  is_here m e {y} p = subst (λ (z : Node). Linked z y) (unique line ok.distinct m there_is e) p

  -- what is sent was joined before
  sent_joined : {l : List Send} {Q : ℕ → Type 0} → Fair (Linked s) Q l → ((y : ℕ) → Q y → SelfOr (number s) (Linked s) y) → (x y : ℕ) → Sent l x y → Joined line x y
  sent_joined f q x y k =
      against (from_here refl (f.reaches (record { to = x; message = introduction y }) k))
      (⊎_elim (λ e. equal (sym e)) (λ p. forward (from_here refl p)) (q y (f.says x y k)))

  -- the station stays, as u
  module _ (u : Node) (l : List Send) (k : Remains (number s) (Linked s) u l) (same : Keeps s u) (after : Line) (p : Posted (map (change (number s) (λ (t : Node). u)) line) l after) where
    stay_numbers : numbers after ≡ numbers line
    stay_numbers = p.alike ∙ changed_numbers (number s) (λ (t : Node). u) (λ t e. k.named) line

    stay_backed : (x y : ℕ) → Link after x y → Joined line x y
    stay_backed x y h = ⊎_elim before (sent_joined k.fair (λ z r. r) x y) (p.links x y h)
      where
        before : Link (map (change (number s) (λ (t : Node). u)) line) x y → Joined line x y
        before (link t m e q) =
            ⊎_elim (λ i. forward (link t i.0 e q))
            (λ w. forward (from_here (sym e ∙ ap number w.3 ∙ k.named) (k.fewer y (subst (λ (z : Node). Linked z y) w.3 q))))
            (changed_mem (number s) (λ (t : Node). u) line m)

    stay_edge : (x y : ℕ) → Edge u l x y → Link after x y
    stay_edge x y (own e q) = p.keeps x y (link u (takes_it (number s) (λ (t : Node). u) there_is refl) (sym e) q)
    stay_edge x y (sent q) =
        p.arrives x y q
        (rw (changed_numbers (number s) (λ (t : Node). u) (λ t e. k.named) line)
        (ok.known s there_is x (k.fair.reaches (record { to = x; message = introduction y }) q)))

    stay_joined : (x y : ℕ) → Link line x y → Joined after x y
    stay_joined x y (link t m e q) =
        by_cases (ℕ_discrete (number t) (number s))
        (λ h. append (equal (sym e ∙ h)) (carry (λ a b r. forward (stay_edge a b r)) (k.joined y (is_here m h q))))
        (λ h. forward (p.keeps x y (link t (keeps_other (number s) (λ (t : Node). u) m h) e q)))

    stay_came : Came line after
    stay_came =
        came_then
        (changed_came (number s) (λ (t : Node). u) line
        (λ t m e. (e ∙ sym k.named, ap (λ (z : Node). z.station.marks) (unique line ok.distinct m there_is e) ∙ sym same.marks))) p.came

    stay_result : Result line after
    stay_result = record {
      accepted = accepted_again ok (omega (arith, numbers_length after line stay_numbers)) (rw stay_numbers ok.distinct) stay_came
          (p.sided (changed_all (number s) (λ (t : Node). u) Sided line ok.sided (λ t m e. k.sided)))
          (p.small (changed_all (number s) (λ (t : Node). u) Small line ok.small (λ t m e. k.small)))
          (λ x y h. rw stay_numbers (joined_present ok (stay_backed x y h) (rw stay_numbers at (source h))));
      written = λ w. record {
        rising = rw stay_numbers w.rising;
        bags = p.order (changed_all (number s) (λ (t : Node). u) InOrder line w.bags (λ t m e. same.order (w.bags s there_is)));
      };
      came = stay_came;
      backed = stay_backed;
      stays = λ a b m n j. carry stay_joined j;
    }

  -- the station goes
  module _ (l : List Send) (k : Gone line (number s) (Linked s) l) (after : Line) (p : Posted (without (number s) line) l after) where
    remains : {x : ℕ} → Present after x → Present line x × (x ≢ number s)
    remains m = without_present (number s) line (rw p.alike at m)

    leave_backed : (x y : ℕ) → Link after x y → Joined line x y × (y ≢ number s)
    leave_backed x y h = ⊎_elim before (λ q. (sent_joined k.fair (λ z r. inr r) x y q, k.other y (k.fair.says x y q))) (p.links x y h)
      where
        before : Link (without (number s) line) x y → Joined line x y × (y ≢ number s)
        before (link t m e q) =
            let w = without_mem (number s) line m in
            (forward (link t w.0 e q), λ z. k.unlinked t w.0 w.1 (subst (λ (i : ℕ). Linked t i) z q))

    leave_sent : (x y : ℕ) → Sent l x y → Link after x y
    leave_sent x y q =
        let r = k.fair.reaches (record { to = x; message = introduction y }) q in
        p.arrives x y q (present_without (number s) line (ok.known s there_is x r) (k.other x r))

    -- the proxy stands for s, everyone else for themselves
    stands_for : ℕ → ℕ
    stands_for x = cond (eqb x (number s)) k.proxy x

    for_gone : {x : ℕ} → x ≡ number s → stands_for x ≡ k.proxy
    unfolding stands_for
    for_gone {x} e = rw (eq-eqb x (number s) e)

    for_other : {x : ℕ} → x ≢ number s → stands_for x ≡ x
    unfolding stands_for
    for_other {x} h = rw (ne_eqb x (number s) h)

    leave_joined : (x y : ℕ) → Link line x y → Joined after (stands_for x) (stands_for y)
    leave_joined x y (link t m e q) =
        by_cases (ℕ_discrete (number t) (number s))
        (λ h. let r = is_here m h q in rw (for_gone (sym e ∙ h), for_other (k.other y r)) (carry (λ a b g. forward (leave_sent a b g)) (k.joined y r)))
        (λ h. rw (for_other (λ z. h (e ∙ z)), for_other (λ z. k.unlinked t m h (subst (λ (i : ℕ). Linked t i) z q)))
        (forward (p.keeps x y (link t (mem_without (number s) line m h) e q))))

    leave_came : Came line after
    leave_came = came_then (λ t m. (t, (without_mem (number s) line m).0, refl, refl)) p.came

    leave_result : Result line after
    leave_result = record {
      accepted = accepted_again ok (omega (arith, numbers_length after (without (number s) line) p.alike, without_length (number s) line))
          (rw p.alike (without_pairwise (number s) (λ (n k : ℕ). n ≢ k) line ok.distinct)) leave_came
          (p.sided (λ t m. ok.sided t (without_mem (number s) line m).0))
          (p.small (λ t m. ok.small t (without_mem (number s) line m).0))
          (λ x y h. rw p.alike (present_without (number s) line (joined_present ok (leave_backed x y h).0 (remains (source h)).0) (leave_backed x y h).1));
      written = λ w. record {
        rising = rw p.alike (without_pairwise (number s) (λ (n k : ℕ). n < k) line w.rising);
        bags = p.order (λ t m. w.bags t (without_mem (number s) line m).0);
      };
      came = leave_came;
      backed = λ x y h. (leave_backed x y h).0;
      stays = λ a b m n j. rw (for_other (remains m).1, for_other (remains n).1) at (transport stands_for leave_joined j);
    }

-- the room that a receiver has is not touched by what happens at the sender
replaced_room : (n : ℕ) (o : Option Node) (line : Line) (k : Send) → ((u : Node) → o ≡ Some u → number u ≡ n) → k.to ≢ n → Room line k → Room (replace n o line) k
unfolding replace
replaced_room n None line k h z r t m e = r t (without_mem n line m).0 e
replaced_room n (Some u) line k h z r t m e =
    ⊎_elim (λ w. r t w.0 e) (λ w. absurd (z (sym e ∙ ap number w.3 ∙ h u refl))) (changed_mem n (λ (t : Node). u) line m)

-- A step that was done, in its parts: the station found, its effect, the room of every receiver, and what came of it.
pub record Stepped (line : Line) (x : declared.Step) (after : Line) : Type 0 where
  pub node : Node
  pub finds : find x.station line ≡ done node
  pub effect : Effect
  pub acts : act (leave_of line node) node x.action ≡ done effect
  pub room : all (has_room line) effect.sends ≡ true
  pub result : send_all effect.sends (replace (number node) effect.after line) ≡ after

pub stepped : (line : Line) (x : declared.Step) {after : Line} → step line x ≡ done after → Stepped line x after
unfolding step commit
stepped line x e =
    let w = bound (find x.station line) (λ (s : Node). act (leave_of line s) s x.action >>= (λ (e : Effect). commit line (number s) e)) e in
    let v = bound (act (leave_of line w.0) w.0 x.action) (λ (e : Effect). commit line (number w.0) e) w.2 in
    let r = required (all (has_room line) v.0.sends) Full v.2 in
    record { node = w.0; finds = w.1; effect = v.0; acts = v.1; room = r.0; result = done_inj r.1 }

pub step_result : (line : Line) (x : declared.Step) {after : Line} → Accepted line → step line x ≡ done after → Result line after
unfolding replace
step_result line x {after} ok e =
    let v = stepped line x e in
    let s = v.node in
    let m = (found x.station line v.finds).0 in
    let sided = ok.sided s m in
    subst (Result line) v.result
    (go s m v.effect.after v.effect.sends (act_links line s sided (ok.small s m) (leave_of line s) (leave_tested line s (Ok tt)).0 x.action v.acts)
    (act_keeps (leave_of line s) s x.action v.acts) (clear_act s sided (leave_of line s) x.action v.acts) (λ k i. has_room_lem k line (all_true (has_room line) v.room i)))
  where
    go : (s : Node) → Member s line → (o : Option Node) (l : List Send) → LinksKept line (number s) (Linked s) o l → KeepsIfThere s o → Clear (number s) l → ((k : Send) → Member k l → Room line k)
        → Result line (send_all l (replace (number s) o line))
    go s m None l k g c r =
        leave_result line ok s m l k (send_all l (without (number s) line))
        (sent_all l (without (number s) line) c.once (λ i j. replaced_room (number s) None line i (λ u z. absurd (none_some z)) (c.away i j) (r i j)))
      where
        none_some : {u : Node} → None ≡ Some u → ⊥
        none_some z = let w : ◌≡◌ {A = ℕ} 0 1 = cc in omega arith
    go s m (Some u) l k g c r =
        stay_result line ok s m u l k g (send_all l (map (change (number s) (λ (t : Node). u)) line))
        (sent_all l (map (change (number s) (λ (t : Node). u)) line) c.once
        (λ i j. replaced_room (number s) (Some u) line i (λ v z. rw (← some_inj z) k.named) (c.away i j) (r i j)))
      where
        some_inj : {a b : Node} → Some a ≡ Some b → a ≡ b
        some_inj z = cc

pub step_keeps_accepted : StepKeepsAccepted
step_keeps_accepted line after x a e = (step_result line x a e).accepted

pub step_keeps_written : StepKeepsWritten
step_keeps_written line after x a w e = (step_result line x a e).written w

-- What a line between two steps of a run is: accepted, and in written order.
pub record Sound (line : Line) : Type 0 where
  pub accepted : Accepted line
  pub written : Written line

pub step_sound : (line : Line) (x : declared.Step) {after : Line} → Sound line → step line x ≡ done after → Sound after
step_sound line x ok e = let r = step_result line x ok.accepted e in record { accepted = r.accepted; written = r.written ok.written }
