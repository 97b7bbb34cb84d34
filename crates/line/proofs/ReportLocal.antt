-- What Figure 1 of the report does at a process is what the step rules do at a station.
use mathlib.Core.Path.{◌≡◌, refl, sym, ◌∙◌, ap, subst, subst₂}
use Rattle.std.specs.Prelude.{Some, None}
use Rattle.line.specs.Types.{Neighbour}
use mathlib.Core.Logic.{◌≢◌, by_cases}
use mathlib.Core.Bool.{Bool, true, false, cond, not, ◌&&◌, and-true, and-false}
use mathlib.Core.List.{List, []}
use Prim.Native.Nat.{ℕ, ◌≤◌}
use native.Mathlib.Omega.{arith}
use native.Mathlib.Decide.{ℕ_discrete}
use lib.Dec.{eqb, ltb}
use borrow.Author.Tests.{lt-ltb, le-ltb, eq-eqb, ne_eqb, ltb-true, ltb-false, eqb-true, eqb-false}
use Rattle.line.specs.declared.Message.{Message}
use Rattle.line.specs.declared.Marks.{Marks}
use Rattle.line.specs.declared.Station as declared
use Rattle.line.specs.declared.Side.{Side}
use Rattle.line.specs.declared.Side.TheVariants.{Left, Right}
use Rattle.line.specs.Message.{introduction, removal}
use Rattle.line.specs.Node.{Beyond, opposite, beyond, side_of, with_neighbour}
use Rattle.line.specs.Accepted.{Sided}
use Rattle.line.specs.Act.{Send, send as one, send_to, Reaction, unchanged, meet, introduced, drop_neighbour, removed, received}
use Rattle.line.specs.Report.{Command, Id, −∞, +∞, process, less, remleft, Intro, mail, Process, p, left, right, always, intro, not_leaving, ◌below◌, ◌and◌, ◌⨾◌, if◌then◌, send◌to◌, left:=◌, right:=◌, introduce, request, handle, left_id, right_id, variable, neighbour_of, node_of}
use Rattle.line.proofs.Sides.{node, side_of_beyond, beyond_true, beyond_other}

-- A process is seen from one side: X is its variable there, Y the other one.
abbrev facing : Side → ℕ → Marks → List Message → Id → Id → List Send → Process
facing Left n g b X Y sent = record { p = n; marks = g; left = X; right = Y; C = b; sent = sent; exited = false }
facing Right n g b X Y sent = record { p = n; marks = g; left = Y; right = X; C = b; sent = sent; exited = false }

abbrev station : Side → ℕ → Marks → Neighbour → Neighbour → declared.Station
station Left n g k o = record { number = n; left = k; right = o; marks = g }
station Right n g k o = record { number = n; left = o; right = k; marks = g }

pub id_back : (d : Side) (k : Neighbour) → neighbour_of (variable d k) ≡ k
unfolding neighbour_of left_id right_id
id_back Left None = refl
id_back Left (Some n) = refl
id_back Right None = refl
id_back Right (Some n) = refl

pub variable_station : (d : Side) (n : ℕ) → variable d (Some n) ≡ process n
unfolding left_id right_id
variable_station Left n = refl
variable_station Right n = refl

neighbour_of_lem : (n : ℕ) → neighbour_of (process n) ≡ Some n
unfolding neighbour_of
neighbour_of_lem n = refl

become : (d : Side) (n : ℕ) (g : Marks) (b : List Message) (X Y : Id) (sent : List Send)
    → node_of (facing d n g b X Y sent) ≡ Some (node (station d n g (neighbour_of X) (neighbour_of Y)) b)
unfolding node_of
become Left n g b X Y sent = refl
become Right n g b X Y sent = refl

-- process v has become the station of reaction r, with bag b, and has sent what the rules send
pub record Matches (b : List Message) (v : Process) (r : Reaction) : Type 0 where
  pub sent : v.sent ≡ r.sends
  pub node : node_of v ≡ Some (node r.station b)

matches : (d : Side) (n : ℕ) (g : Marks) (b : List Message) (X Y : Id) (k o : Neighbour) (l : List Send) {v : Process} {r : Reaction} → neighbour_of X ≡ k → neighbour_of Y ≡ o
    → v ≡ facing d n g b X Y l → r ≡ record { station = station d n g k o; sends = l } → Matches b v r
matches d n g b X Y k o l e f h i = rw (h, i) (record { sent = sent d; node = become d n g b X Y l ∙ rw (e, f) })
  where
    sent : (d : Side) → (facing d n g b X Y l).sent ≡ l
    sent Left = refl
    sent Right = refl

-- The two branches of `introduce` for an introduction of q on each side, and their tests.
module _ (q : ℕ) where
  half : Side → Command
  half Left = (if always (process q) below left then send intro (always (process q)) to left) ⨾ (if left below always (process q) and always (process q) below p then (send intro left to always (process q) ⨾ left:= always (process q)))
  half Right = (if p below always (process q) and always (process q) below right then (send intro right to always (process q) ⨾ right:= always (process q))) ⨾ (if right below always (process q) then send intro (always (process q)) to right)

  near : Side → ℕ → Id → Bool
  near Left n X = less X (process q) && less (process q) (process n)
  near Right n X = less (process n) (process q) && less (process q) X

  far : Side → Id → Bool
  far Left X = less (process q) X
  far Right X = less X (process q)

  halves : (v : Process) → introduce (always (process q)) v ≡ half Right (half Left v)
  unfolding introduce half ◌⨾◌
  halves v = refl

  far_self : (d : Side) → far d (process q) ≡ false
  unfolding far less
  far_self Left = le-ltb q q (omega arith)
  far_self Right = le-ltb q q (omega arith)

  module _ (n : ℕ) (g : Marks) (b : List Message) (X Y : Id) where
    half_idle : (d : Side) (l : List Send) → near d n X ≡ false → far d X ≡ false → half d (facing d n g b X Y l) ≡ facing d n g b X Y l
    unfolding half near far ◌⨾◌ if◌then◌ ◌below◌ ◌and◌ always left right p
    half_idle Left l e f = rw (f, e)
    half_idle Right l e f = rw (e, f)

    half_near : (d : Side) → near d n X ≡ true → far d X ≡ false → half d (facing d n g b X Y []) ≡ facing d n g b (process q) Y (mail (Intro X) (process q))
    unfolding half near far ◌⨾◌ if◌then◌ ◌below◌ ◌and◌ always left right p send◌to◌ left:=◌ right:=◌ intro
    half_near Left e f = rw (f, e)
    half_near Right e f = rw (e, far_self Right)

    half_far : (d : Side) → near d n X ≡ false → far d X ≡ true → half d (facing d n g b X Y []) ≡ facing d n g b X Y (mail (Intro (process q)) X)
    unfolding half near far ◌⨾◌ if◌then◌ ◌below◌ ◌and◌ always left right p send◌to◌ intro
    half_far Left e f = rw (f, e)
    half_far Right e f = rw (e, f)

ltb_other : (a c : ℕ) → a ≢ c → ltb c a ≡ not (ltb a c)
ltb_other a c h = go (ltb a c) refl
  where
    go : (t : Bool) → ltb a c ≡ t → ltb c a ≡ not t
    go true e = le-ltb c a (omega (arith, ltb-true a c e))
    go false e = lt-ltb c a (omega (arith, ltb-false a c e, h))

-- q does not lie on this side of n
abbrev NotBeyond : Side → ℕ → ℕ → Type 0
NotBeyond Left n q = n ≤ q
NotBeyond Right n q = q ≤ n

module _ (n q : ℕ) where
  -- the branches of a side on which q does not lie are passed by
  idle_near : (d : Side) (X : Id) → NotBeyond d n q → near q d n X ≡ false
  unfolding near less
  idle_near Left X h = rw (le-ltb q n h) (and-false (less X (process q)))
  idle_near Right X h = rw (le-ltb n q h)

  idle_far : (d : Side) (k : Neighbour) → NotBeyond d n q → ((r : ℕ) → k ≡ Some r → Beyond d n r) → far q d (variable d k) ≡ false
  unfolding far less left_id right_id
  idle_far Left None h s = refl
  idle_far Left (Some r) h s = le-ltb q r (omega (arith, s r refl))
  idle_far Right None h s = refl
  idle_far Right (Some r) h s = le-ltb r q (omega (arith, s r refl))

  -- on the side on which q lies
  no_neighbour : (d : Side) → Beyond d n q → (near q d n (variable d None) ≡ true) × (far q d (variable d None) ≡ false) × (mail (Intro (variable d None)) (process q) ≡ [])
  unfolding near far less left_id right_id mail
  no_neighbour Left h = (lt-ltb q n h, refl, refl)
  no_neighbour Right h = (rw (lt-ltb n q h), refl, refl)

  near_is : (d : Side) (r : ℕ) → Beyond d n q → near q d n (process r) ≡ beyond d q r
  unfolding near less beyond
  near_is Left r h = rw (lt-ltb q n h) (and-true (ltb r q))
  near_is Right r h = rw (lt-ltb n q h)

  far_is : (d : Side) (r : ℕ) → q ≢ r → far q d (process r) ≡ not (beyond d q r)
  unfolding far less beyond
  far_is Left r h = ltb_other r q (λ e. h (sym e))
  far_is Right r h = ltb_other q r h

  -- what the rules say, seen from the side on which q lies
  rule : (d : Side) (g : Marks) (k o : Neighbour) → Beyond d n q → introduced (station d n g k o) q ≡ meet d (station d n g k o) q k
  unfolding introduced side_of
  rule Left g k o h = rw (ne_eqb q n (λ e. omega arith), le-ltb n q (omega arith))
  rule Right g k o h = rw (ne_eqb q n (λ e. omega arith), lt-ltb n q h)

  with_neighbour_lem : (d : Side) (g : Marks) (k o : Neighbour) → with_neighbour d (Some q) (station d n g k o) ≡ station d n g (Some q) o
  unfolding with_neighbour
  with_neighbour_lem Left g k o = refl
  with_neighbour_lem Right g k o = refl

  -- the other side stays idle, so the figure does what one side does
  works : (d : Side) (g : Marks) (b : List Message) (X Z : Id) (o : Neighbour) (l : List Send) → NotBeyond (opposite d) n q → ((r : ℕ) → o ≡ Some r → Beyond (opposite d) n r)
      → half q d (facing d n g b X (variable (opposite d) o) []) ≡ facing d n g b Z (variable (opposite d) o) l
      → introduce (always (process q)) (facing d n g b X (variable (opposite d) o) []) ≡ facing d n g b Z (variable (opposite d) o) l
  works Left g b X Z o l h s e =
      halves q (facing Left n g b X (right_id o) []) ∙ ap (half q Right) e
      ∙ half_idle q n g b (right_id o) Z Right l (idle_near Right (right_id o) h) (idle_far Right o h s)
  works Right g b X Z o l h s e =
      halves q (facing Right n g b X (left_id o) []) ∙ ap (half q Right) (half_idle q n g b (left_id o) X Left [] (idle_near Left (left_id o) h) (idle_far Left o h s)) ∙ e

  beyond_not : (d : Side) → Beyond d n q → NotBeyond (opposite d) n q
  beyond_not Left h = omega arith
  beyond_not Right h = omega arith

-- Station n handles an introduction of q: k is its neighbour on side d, o the other one.
module _ (n : ℕ) (g : Marks) (b : List Message) (q : ℕ) (d : Side) (o : Neighbour) (s : (r : ℕ) → o ≡ Some r → Beyond (opposite d) n r) where
  Handled : Neighbour → Type 0
  Handled k = Matches b (introduce (always (process q)) (facing d n g b (variable d k) (variable (opposite d) o) [])) (introduced (station d n g k o) q)

  goes : (k : Neighbour) → Beyond d n q → Handled k
  unfolding Handled meet mail
  goes None h =
      let w = no_neighbour n q d h in
      matches d n g b (process q) (variable (opposite d) o) (Some q) o [] (neighbour_of_lem q) (id_back (opposite d) o)
      (works n q d g b (variable d None) (process q) o [] (beyond_not n q d h) s (half_near q n g b (variable d None) (variable (opposite d) o) d w.0 w.1 ∙ rw w.2))
      (rule n q d g None o h ∙ rw (with_neighbour_lem n q d g None o))
  goes (Some r) h = rw (variable_station d r) (go (beyond d q r) refl (eqb q r) refl)
    where
      go : (t : Bool) → beyond d q r ≡ t → (u : Bool) → eqb q r ≡ u
          → Matches b (introduce (always (process q)) (facing d n g b (process r) (variable (opposite d) o) [])) (introduced (station d n g (Some r) o) q)
      go true e u f =
          let w = far_is n q d r (λ z. beyond_other d q r (beyond_true d q r e) (sym z)) ∙ ap not e in
          matches d n g b (process q) (variable (opposite d) o) (Some q) o (one q (introduction r)) (neighbour_of_lem q) (id_back (opposite d) o)
          (works n q d g b (process r) (process q) o (one q (introduction r)) (beyond_not n q d h) s
          (half_near q n g b (process r) (variable (opposite d) o) d (near_is n q d r h ∙ e) w))
          (rule n q d g (Some r) o h ∙ rw (e, with_neighbour_lem n q d g (Some r) o))
      go false e true f =
          let w = subst (λ (k : ℕ). far q d (process k) ≡ false) (eqb-true q r f) (far_self q d) in
          matches d n g b (process r) (variable (opposite d) o) (Some r) o [] (neighbour_of_lem r) (id_back (opposite d) o)
          (works n q d g b (process r) (process r) o [] (beyond_not n q d h) s (half_idle q n g b (process r) (variable (opposite d) o) d [] (near_is n q d r h ∙ e) w))
          (rule n q d g (Some r) o h ∙ rw (e, f))
      go false e false f =
          let w = far_is n q d r (eqb-false q r f) ∙ ap not e in
          matches d n g b (process r) (variable (opposite d) o) (Some r) o (one r (introduction q)) (neighbour_of_lem r) (id_back (opposite d) o)
          (works n q d g b (process r) (process r) o (one r (introduction q)) (beyond_not n q d h) s
          (half_far q n g b (process r) (variable (opposite d) o) d (near_is n q d r h ∙ e) w))
          (rule n q d g (Some r) o h ∙ rw (e, f))

-- The same for the messages that ask for a removal: the neighbour on side d is dropped.
drop : Side → Command
drop Left = send intro p to left ⨾ left:= always −∞
drop Right = send intro p to right ⨾ right:= always +∞

module _ (n : ℕ) (g : Marks) (b : List Message) where
  drops : (d : Side) (k o : Neighbour) → drop d (facing d n g b (variable d k) (variable (opposite d) o) []) ≡ facing d n g b (variable d None) (variable (opposite d) o) (send_to k (introduction n))
  unfolding drop ◌⨾◌ send◌to◌ left:=◌ right:=◌ always intro p left right mail left_id right_id send_to
  drops Left None o = refl
  drops Left (Some r) o = refl
  drops Right None o = refl
  drops Right (Some r) o = refl

  drop_rule : (d : Side) (k o : Neighbour) → drop_neighbour d (station d n g k o) k ≡ record { station = station d n g None o; sends = send_to k (introduction n) }
  unfolding drop_neighbour send_to with_neighbour
  drop_rule Left None o = refl
  drop_rule Left (Some r) o = refl
  drop_rule Right None o = refl
  drop_rule Right (Some r) o = refl

  dropped : (d : Side) (k o : Neighbour) → Matches b (drop d (facing d n g b (variable d k) (variable (opposite d) o) [])) (drop_neighbour d (station d n g k o) k)
  dropped d k o =
      matches d n g b (variable d None) (variable (opposite d) o) None o (send_to k (introduction n)) (id_back d None) (id_back (opposite d) o) (drops d k o) (drop_rule d k o)

-- A process that handles a message: its variables are those of the station, and nothing is sent yet.
unfoldable pub start : declared.Station → List Message → Process
start s b = facing Left s.number s.marks b (left_id s.left) (right_id s.right) []

module _ (s : declared.Station) (b : List Message) where
  as_it_is : (v : Process) (r : Reaction) → v ≡ start s b → r ≡ record { station = s; sends = [] } → Matches b v r
  unfolding start
  as_it_is v r e f = matches Left s.number s.marks b (left_id s.left) (right_id s.right) s.left s.right [] (id_back Left s.left) (id_back Right s.right) e f

  -- a request that is obeyed drops the neighbour; a leaving station does not obey remove-left
  pub request_matches : (d : Side) → Matches b (handle (removal d).content (start s b)) (received s (removal d).content)
  unfolding handle removal request received removed start drop ◌⨾◌ if◌then◌ not_leaving
  request_matches Left = go s.marks.leaving refl (dropped s.number s.marks b Left s.left s.right)
    where
      figure : {t : Bool} → s.marks.leaving ≡ t → request remleft (start s b) ≡ cond (not t) (drop Left (start s b)) (start s b)
      figure e = ap (λ (t : Bool). cond (not t) (drop Left (start s b)) (start s b)) e

      rules : {t : Bool} → s.marks.leaving ≡ t → removed s Left ≡ cond (not t) (drop_neighbour Left s s.left) (unchanged s)
      rules e = ap (λ (t : Bool). cond (not t) (drop_neighbour Left s s.left) (unchanged s)) e

      go : (t : Bool) → s.marks.leaving ≡ t → Matches b (drop Left (start s b)) (drop_neighbour Left s s.left) → Matches b (request remleft (start s b)) (removed s Left)
      go true e m = as_it_is (request remleft (start s b)) (removed s Left) (figure e) (rules e)
      go false e m = subst₂ (Matches b) (sym (figure e)) (sym (rules e)) m
  request_matches Right = dropped s.number s.marks b Right s.right s.left

  module _ (ok : Sided (node s b)) where
    -- q lies on side d, or is the station itself
    towards : (d : Side) (q : ℕ) → Beyond d s.number q → Matches b (introduce (always (process q)) (start s b)) (introduced s q)
    unfolding start Handled
    towards Left q h = goes s.number s.marks b q Left s.right (λ r e. ok Right r e) s.left h
    towards Right q h = goes s.number s.marks b q Right s.left (λ r e. ok Left r e) s.right h

    itself : (q : ℕ) → q ≡ s.number → Matches b (introduce (always (process q)) (start s b)) (introduced s q)
    unfolding start introduced
    itself q e =
        as_it_is (introduce (always (process q)) (start s b)) (introduced s q)
        (works s.number q Left s.marks b (left_id s.left) (left_id s.left) s.right [] (omega arith) (λ r z. ok Right r z)
        (half_idle q s.number s.marks b (left_id s.left) (right_id s.right) Left [] (idle_near s.number q Left (left_id s.left) (omega arith))
        (idle_far s.number q Left s.left (omega arith) (λ r z. ok Left r z))))
        (rw (eq-eqb q s.number e))

    pub introduce_matches : (q : ℕ) → Matches b (introduce (always (process q)) (start s b)) (introduced s q)
    introduce_matches q = by_cases (ℕ_discrete q s.number) (itself q) (λ h. towards (side_of s.number q) q (side_of_beyond s.number q h))
