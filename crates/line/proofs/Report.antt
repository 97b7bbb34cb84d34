-- Figure 1 of the report and the step rules allow the same steps with the same effect, up to the bound of 32 messages a bag.
use mathlib.Core.Path.{◌≡◌, refl, sym, ◌∙◌, ap, ap₂, subst}
use Rattle.std.specs.Prelude.{Option, Some, None, Ok}
use Rattle.line.specs.Types.{Leave, Neighbour}
use mathlib.Core.Logic.{◌≢◌, ⊎_elim, by_cases}
use mathlib.Core.Bool.{Bool, true, false, cond, not}
use mathlib.Core.List.Memᴰ
use mathlib.Core.List.{List, [], ◌∷◌, ◌++◌, map}
use mathlib.Core.List.{Memᴰ as Member}
use Prim.Native.Nat.{ℕ, ◌≤◌}
use native.Mathlib.Omega.{arith}
use native.Mathlib.Decide.{ℕ_discrete}
use lib.ListN.{length}
use Rattle.line.specs.declared.Content.{Content}
use Rattle.line.specs.declared.Content.TheVariants.{Introduction, RemoveLeft, RemoveRight}
use Rattle.line.specs.declared.Message.{Message}
use Rattle.line.specs.declared.Refusal.TheVariants.{NotInBag, Staying, Full}
use Rattle.line.specs.declared.Step as steps
use Rattle.line.specs.declared.Side.{Side}
use Rattle.line.specs.declared.Side.TheVariants.{Left, Right}
use Rattle.line.specs.declared.Action.{Action}
use Rattle.line.specs.declared.Action.TheVariants.{Timeout, Deliver, Exit}
use Rattle.lists.specs.Lists.{all}
use Rattle.line.specs.Answer.{refused, done, ◌>>=◌, require}
use Rattle.line.specs.Message.{introduction, removal, holds, remove, put}
use Rattle.line.specs.Node.{Node, Line, number, leaving}
use Rattle.line.specs.Leave.{leave_of}
use Rattle.line.specs.Accepted.{Sided, Accepted}
use Rattle.line.specs.Act.{Send, send_to, notice, timeout, received, introduce_both, Effect, kept, act}
use Rattle.line.specs.Step.{find, change, replace, with_message, send_all, has_room, commit, step}
use Rattle.line.specs.Report as report
use Rattle.line.specs.Report.{process, is_process, remleft, remright, Intro, Req, mail, Process, p, left, right, intro, req, not_leaving, defined, ◌and◌, ◌⨾◌, if◌then◌, if◌then◌otherwise◌, send◌to◌, exited, exit, handle, command, Guard, left_id, right_id, variable, process_of, node_of, state_after, Fires}
use Rattle.line.specs.Claims.{WithinCapacity, ReportAgrees, Apart}
use Rattle.lists.proofs.Lists.{fails, true_all}
use Rattle.line.proofs.Answers.{done_inj, refused_done, require_true, require_false, required, may_leave_lem, unheld}
use Rattle.line.proofs.Messages.{held_mem, mem_held, receives, room_for}
use Rattle.line.proofs.Sends.{Clear, clear_act}
use Rattle.line.proofs.LeaveTest.{leave_tested}
use Rattle.line.proofs.Whole.{Room, stepped, step_result}
use Rattle.line.proofs.Causes.{refused_exactly}
use Rattle.line.proofs.Changes.{found, member_found, takes_it, change_same, change_other, keeps_other, mem_without, receive_number, true_room}
use Rattle.line.proofs.ReportLocal.{Matches, start, request_matches, introduce_matches, id_back}

-- Sends to two stations may change places.
change_swap : (a c : ℕ) (f g : Node → Node) → a ≢ c → ((s : Node) → number (f s) ≡ number s) → ((s : Node) → number (g s) ≡ number s)
    → (s : Node) → change c g (change a f s) ≡ change a f (change c g s)
change_swap a c f g h x y s =
    by_cases (ℕ_discrete (number s) a)
    (λ (e : number s ≡ a). rw (change_same a f s e, change_other c g s (λ z. h (sym e ∙ z)), change_other c g (f s) (λ z. h (sym e ∙ sym (x s) ∙ z)), change_same a f s e))
    (λ (k : number s ≢ a). by_cases (ℕ_discrete (number s) c)
    (λ (e : number s ≡ c). rw (change_other a f s k, change_same c g s e, change_other a f (g s) (λ z. k (sym (y s) ∙ z))))
    (λ (i : number s ≢ c). rw (change_other a f s k, change_other c g s i, change_other a f s k)))

map_swap : (f g : Node → Node) → ((s : Node) → f (g s) ≡ g (f s)) → (line : Line) → map f (map g line) ≡ map g (map f line)
map_swap f g h [] = refl
map_swap f g h (s ∷ line) = ap₂ (λ (t : Node) (l : Line). t ∷ l) (h s) (map_swap f g h line)

send_swap : (a b : Neighbour) (c e : Message) → ((x y : ℕ) → a ≡ Some x → b ≡ Some y → x ≢ y) → (line : Line)
    → send_all (send_to a c ++ send_to b e) line ≡ send_all (send_to b e ++ send_to a c) line
unfolding send_to send_all
send_swap None None c e h line = refl
send_swap None (Some y) c e h line = refl
send_swap (Some x) None c e h line = refl
send_swap (Some x) (Some y) c e h line =
    map_swap (change y (with_message e)) (change x (with_message c)) (change_swap x y (with_message c) (with_message e) (h x y refl refl) (receive_number c) (receive_number e)) line

-- What the figure sends to a neighbour.
pub intro_to : (d : Side) (n : ℕ) (k : Neighbour) → mail (Intro (process n)) (variable d k) ≡ send_to k (introduction n)
unfolding mail left_id right_id send_to
intro_to Left n None = refl
intro_to Left n (Some r) = refl
intro_to Right n None = refl
intro_to Right n (Some r) = refl

req_left : (k : Neighbour) → mail (Req remright) (left_id k) ≡ send_to k (removal Right)
unfolding mail left_id send_to
req_left None = refl
req_left (Some r) = refl

req_right : (k : Neighbour) → mail (Req remleft) (right_id k) ≡ send_to k (removal Left)
unfolding mail right_id send_to
req_right None = refl
req_right (Some r) = refl

module _ (line : Line) (s : Node) (ok : Sided s) where
  -- the two neighbours are two stations
  sides_differ : (x y : ℕ) → s.station.left ≡ Some x → s.station.right ≡ Some y → x ≢ y
  sides_differ x y e f z = omega (arith, ok Left x e, ok Right y f, z)

  same_node : node_of (process_of s) ≡ Some s
  unfolding node_of process_of
  same_node = rw (id_back Left s.station.left, id_back Right s.station.right)

  -- the state after process v has run its command
  state : Process → Line
  state v = send_all v.sent (replace (number s) (node_of v) line)

  timeout_agrees : state_after line s Timeout ≡ send_all (timeout s.station) (replace (number s) (Some s) line)
  unfolding state state_after command report.timeout if◌then◌otherwise◌ not_leaving timeout notice process_of node_of ◌⨾◌ send◌to◌ intro req p left right
  timeout_agrees = go s.station.marks.leaving refl
    where
      n : ℕ
      n = number s

      l : Neighbour
      l = s.station.left

      r : Neighbour
      r = s.station.right

      sends : Bool → List Send
      sends t = send_to l (cond t (removal Right) (introduction n)) ++ send_to r (cond t (removal Left) (introduction n))

      here_after : Line
      here_after = replace n (Some s) line

      figure : {t : Bool} → s.station.marks.leaving ≡ t
          → command Timeout (process_of s)
          ≡ cond (not t) ((send intro p to left ⨾ send intro p to right) (process_of s)) ((send req remleft to right ⨾ send req remright to left) (process_of s))
      figure e = ap (λ (t : Bool). cond (not t) ((send intro p to left ⨾ send intro p to right) (process_of s)) ((send req remleft to right ⨾ send req remright to left) (process_of s))) e

      -- what is sent in this state, with the node as it is
      sent_from : (k : List Send) → send_all k (replace n (node_of (process_of s)) line) ≡ send_all k here_after
      sent_from k = ap (λ (o : Option Node). send_all k (replace n o line)) same_node

      go : (t : Bool) → s.station.marks.leaving ≡ t → state_after line s Timeout ≡ send_all (timeout s.station) here_after
      go false e =
          ap state (figure e) ∙ sent_from (mail (Intro (process n)) (left_id l) ++ mail (Intro (process n)) (right_id r))
          ∙ ap (λ (k : List Send). send_all k here_after) (ap₂ (λ (x y : List Send). x ++ y) (intro_to Left n l) (intro_to Right n r))
          ∙ sym (ap (λ (t : Bool). send_all (sends t) here_after) e)
      go true e =
          ap state (figure e) ∙ sent_from (mail (Req remleft) (right_id r) ++ mail (Req remright) (left_id l))
          ∙ ap (λ (k : List Send). send_all k here_after) (ap₂ (λ (x y : List Send). x ++ y) (req_right r) (req_left l))
          ∙ send_swap r l (removal Left) (removal Right) (λ x y f g z. sides_differ y x g f (sym z)) here_after
          ∙ sym (ap (λ (t : Bool). send_all (sends t) here_after) e)

  exit_agrees : state_after line s Exit ≡ send_all (introduce_both s.station.left s.station.right) (replace (number s) None line)
  unfolding state state_after command exit process_of node_of ◌⨾◌ if◌then◌ ◌and◌ defined is_process send◌to◌ intro left right exited mail left_id right_id introduce_both send_to
  exit_agrees = gone s.station.left s.station.right sides_differ
    where
      leaves : Neighbour → Neighbour → Process
      leaves a c = exit (record { p = number s; marks = s.station.marks; left = left_id a; right = right_id c; C = s.bag; sent = []; exited = false })

      gone : (a c : Neighbour) → ((x y : ℕ) → a ≡ Some x → c ≡ Some y → x ≢ y) → state (leaves a c) ≡ send_all (introduce_both a c) (replace (number s) None line)
      gone None None h = refl
      gone None (Some y) h = refl
      gone (Some x) None h = refl
      gone (Some x) (Some y) h = send_swap (Some y) (Some x) (introduction x) (introduction y) (λ i j e f z. h j i f e (sym z)) (replace (number s) None line)

  received_matches : (b : List Message) (c : Content) → Matches b (handle c (start s.station b)) (received s.station c)
  unfolding handle received removal
  received_matches b (Introduction q) = introduce_matches s.station b ok q
  received_matches b RemoveLeft = request_matches s.station b Left
  received_matches b RemoveRight = request_matches s.station b Right

  deliver_agrees : (m : Message) → let e = kept (remove m s.bag) (received s.station m.content) in state_after line s (Deliver m) ≡ send_all e.sends (replace (number s) e.after line)
  unfolding state_after command report.receive process_of ◌⨾◌ start
  deliver_agrees m =
      let w = received_matches (remove m s.bag) m.content in
      ap₂ (λ (k : List Send) (o : Option Node). send_all k (replace (number s) o line)) w.sent w.node

  -- an action that the rules allow leads where the figure leads, and its guard holds
  agrees : (l : Leave) (a : Action) {e : Effect} → act l s a ≡ done e → state_after line s a ≡ send_all e.sends (replace (number s) e.after line)
  unfolding act
  agrees l Timeout h = subst (λ (e : Effect). state_after line s Timeout ≡ send_all e.sends (replace (number s) e.after line)) (done_inj h) timeout_agrees
  agrees l (Deliver m) h =
      subst (λ (e : Effect). state_after line s (Deliver m) ≡ send_all e.sends (replace (number s) e.after line)) (done_inj (required (holds m s.bag) NotInBag h).1) (deliver_agrees m)
  agrees l Exit h =
      subst (λ (e : Effect). state_after line s Exit ≡ send_all e.sends (replace (number s) e.after line))
      (done_inj (unheld l (required (leaving s) Staying h).1).1) exit_agrees

-- The guard of the figure is what the rules ask.
module _ (line : Line) (s : Node) where
  guarded : (a : Action) {e : Effect} → act (leave_of line s) s a ≡ done e → Guard line s a
  unfolding act
  guarded Timeout h = tt
  guarded (Deliver m) h = held_mem m s.bag (required (holds m s.bag) NotInBag h).0
  guarded Exit h =
      let w = required (leaving s) Staying h in
      ((leave_tested line s (Ok tt)).0 (unheld (leave_of line s) w.1).0, w.0)

  allowed : (a : Action) → Guard line s a → (e : Effect) × (act (leave_of line s) s a ≡ done e)
  unfolding act
  allowed Timeout h = (record { after = Some s; sends = timeout s.station }, refl)
  allowed (Deliver m) h = (kept (remove m s.bag) (received s.station m.content), require_true (holds m s.bag) NotInBag _ (mem_held m h))
  allowed Exit h = (
    record { after = None; sends = introduce_both s.station.left s.station.right },
    require_true (leaving s) Staying _ h.1 ∙ may_leave_lem _ ((leave_tested line s (Ok tt)).1 h.0),
  )

receive_bag : (m : Message) (t : Node) → (with_message m t).bag ≡ put m t.bag
unfolding with_message
receive_bag m t = refl

-- Bags never shrink while messages are sent, and a receiver's bag has what it received: what has become of node t.
record Grown (l : List Send) (t : Node) (after : Line) : Type 0 where
  node : Node
  member : Member node after
  named : number node ≡ number t
  more : length t.bag ≤ length node.bag
  received : (m : Send) → Member m l → m.to ≡ number t → length (put m.message t.bag) ≤ length node.bag

grows : (l : List Send) (line : Line) (t : Node) → Apart l → Member t line → Grown l t (send_all l line)
unfolding send_all
grows [] line t a k = record { node = t; member = k; named = refl; more = omega arith; received = λ m i. absurd (Memᴰ.not-nil i) }
grows (m ∷ l) line t a k =
    by_cases (ℕ_discrete (number t) m.to) (λ e. gets e (grows l (map f line) (with_message m.message t) a.1 (takes_it m.to (with_message m.message) k e)))
    (λ h. stays h (grows l (map f line) t a.1 (keeps_other m.to (with_message m.message) k h)))
  where
    f : Node → Node
    f = change m.to (with_message m.message)

    gets : number t ≡ m.to → Grown l (with_message m.message t) (send_all l (map f line)) → Grown (m ∷ l) t (send_all l (map f line))
    gets e g = record {
      node = g.node;
      member = g.member;
      named = g.named ∙ receive_number m.message t;
      more = omega (arith, rw (receive_bag m.message t) at g.more, (receives m.message t.bag).more);
      received = λ i j z. ⊎_elim (λ (y : i ≡ m). rw (y, ← receive_bag m.message t) g.more) (λ n. absurd (a.0 i n (sym e ∙ sym z))) (Memᴰ.cases_cons j);
    }

    stays : number t ≢ m.to → Grown l t (send_all l (map f line)) → Grown (m ∷ l) t (send_all l (map f line))
    stays h g = record {
      node = g.node;
      member = g.member;
      named = g.named;
      more = g.more;
      received = λ i j z. ⊎_elim (λ (y : i ≡ m). absurd (h (sym z ∙ ap (λ (x : Send). x.to) y))) (λ n. g.received i n z) (Memᴰ.cases_cons j);
    }

-- room, as a test
room_has : (m : Send) (line : Line) → Room line m → has_room line m ≡ true
room_has m line r = true_room m line (λ t k e. (room_for m.message t.bag).1 (r t k e))

-- a node of another number is where it was
replaced_keeps : (n : ℕ) (o : Option Node) {line : Line} {t : Node} → Member t line → number t ≢ n → Member t (replace n o line)
unfolding replace
replaced_keeps n None {line} m h = mem_without n line m h
replaced_keeps n (Some u) m h = keeps_other n (λ (t : Node). u) m h

-- if no bag holds more than 32 afterwards, every receiver had room
within_room : (line : Line) (n : ℕ) (e : Effect) → Clear n e.sends → WithinCapacity (send_all e.sends (replace n e.after line))
    → all (has_room line) e.sends ≡ true
within_room line n e c w = true_all (has_room line) e.sends (λ m i. room_has m line (room m i))
  where
    room : (m : Send) → Member m e.sends → Room line m
    room m i t k z =
        let g = grows e.sends (replace n e.after line) t c.once (replaced_keeps n e.after k (λ y. c.away m i (sym z ∙ y))) in
        omega (arith, g.received m i (sym z), w g.node g.member)

-- The step in its parts: the station found, its effect, and what is committed.
module _ (line : Line) (x : steps.Step) (ok : Accepted line) where
  record Parts : Type 0 where
    node : Node
    member : Member node line
    finds : find x.station line ≡ done node
    effect : Effect
    acts : act (leave_of line node) node x.action ≡ done effect

  module _ (q : Parts) where
    room : Bool
    room = all (has_room line) q.effect.sends

    after : Line
    after = send_all q.effect.sends (replace (number q.node) q.effect.after line)

    step_is : step line x ≡ require room Full (done after)
    unfolding step commit ◌>>=◌ room after
    step_is = rw (q.finds, q.acts) refl

    sided : Sided q.node
    sided = ok.sided q.node q.member

    fires : Fires line x after
    unfolding after
    fires = record {
      node = q.node;
      member = q.member;
      named = (found x.station line q.finds).1;
      guard = guarded line q.node x.action q.acts;
      result = sym (agrees line q.node sided (leave_of line q.node) x.action q.acts);
    }

    within : WithinCapacity after → room ≡ true
    unfolding after room
    within w = within_room line (number q.node) q.effect (clear_act q.node sided (leave_of line q.node) x.action q.acts) w

    is_done_lem : room ≡ true → step line x ≡ done after
    is_done_lem e = step_is ∙ require_true room Full (done after) e

    done_within : room ≡ true → WithinCapacity after
    done_within e = (step_result line x ok (is_done_lem e)).accepted.small

  -- whatever fires has its parts
  parts_of : {after : Line} → Fires line x after → Parts
  parts_of f =
      let a = allowed line f.node x.action f.guard in
      record {
        node = f.node;
        member = f.member;
        finds = member_found x.station line ok.distinct f.member f.named;
        effect = a.0;
        acts = a.1;
      }

  leads_there : {s : Line} (f : Fires line x s) → s ≡ after (parts_of f)
  unfolding after parts_of
  leads_there f = f.result ∙ agrees line f.node (ok.sided f.node f.member) (leave_of line f.node) x.action (allowed line f.node x.action f.guard).1

  -- the parts of a step that is done, or refused for want of room
  parts_done : {s : Line} → step line x ≡ done s → Parts
  parts_done e =
      let v = stepped line x e in
      record { node = v.node; member = (found x.station line v.finds).0; finds = v.finds; effect = v.effect; acts = v.acts }

  parts_full : step line x ≡ refused Full → Parts
  parts_full e =
      let c = (refused_exactly line x Full ok).0 e in
      record {
        node = c.block;
        member = c.member;
        finds = member_found x.station line ok.distinct c.member c.named;
        effect = c.holds.0;
        acts = c.holds.1;
      }

pub report_agrees : ReportAgrees
report_agrees line x ok = (λ s. (done_fires s, λ f. fires_done s f.0 f.1), (full_fires, λ f. fires_full f.0 f.1 f.2))
  where
    done_fires : (s : Line) → step line x ≡ done s → Fires line x s × WithinCapacity s
    done_fires s e =
        let q = parts_done line x ok e in
        let r = required (room line x ok q) Full (sym (step_is line x ok q) ∙ e) in
        subst (λ (s : Line). Fires line x s × WithinCapacity s) (done_inj r.1) (fires line x ok q, done_within line x ok q r.0)

    fires_done : (s : Line) → Fires line x s → WithinCapacity s → step line x ≡ done s
    fires_done s f c =
        let q = parts_of line x ok f in
        let z = leads_there line x ok f in
        is_done_lem line x ok q (within line x ok q (subst WithinCapacity z c)) ∙ ap done (sym z)

    full_fires : step line x ≡ refused Full → (s : Line) × Fires line x s × ¬ WithinCapacity s
    full_fires e =
        let q = parts_full line x ok e in
        (after line x ok q, fires line x ok q, λ c. refused_done (sym e ∙ is_done_lem line x ok q (within line x ok q c)))

    fires_full : (s : Line) → Fires line x s → ¬ WithinCapacity s → step line x ≡ refused Full
    fires_full s f c =
        let q = parts_of line x ok f in
        step_is line x ok q
        ∙ require_false (room line x ok q) Full (done (after line x ok q))
        (fails (room line x ok q) (λ e. c (subst WithinCapacity (sym (leads_there line x ok f)) (done_within line x ok q e))))
