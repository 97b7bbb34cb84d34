-- A step on the whole line does not hang on site codes: over the line with all codes taken out it is refused alike, or leaves what it would leave,
-- with all codes taken out.
use mathlib.Core.Path.{◌≡◌, refl, ◌∙◌, ap}
use Rattle.std.specs.Prelude.{Option, Some, None, Err}
use mathlib.Core.Bool.{Bool, true, false, cond, not, ◌||◌}
use mathlib.Core.List.{List, [], ◌∷◌, map}
use Prim.Native.Nat.{ℕ}
use lib.Dec.{eqb, ltb}
use lib.ListN.{length}
use Rattle.line.specs.declared.Message.{Message}
use Rattle.line.specs.declared.Reason.TheVariants.{OwnBag}
use Rattle.line.specs.declared.Refusal.TheVariants.{Full}
use Rattle.line.specs.declared.Step as declared
use Rattle.lists.specs.Lists.{all}
use Rattle.line.specs.Answer.{Answer, refused, done, ◌>>=◌}
use Rattle.line.specs.Message.{capacity}
use Rattle.line.specs.Node.{Node, Line, number, at_site}
use Rattle.line.specs.Nidec.{names, is_empty}
use Rattle.line.specs.Leave.{is_holder, smaller, holder_of, held_by, leave_of}
use Rattle.line.specs.Act.{Send, Effect, act}
use Rattle.line.specs.Step.{find, change, without, replace, with_message, send_all, has_room, commit, step}
use Rattle.sites.specs.Sites.{without_sites}
use Rattle.sites.proofs.Stations.{done_with, bare_option, bare_effect, requiring, acts}

finds : (n : ℕ) (line : Line) → find n (without_sites line) ≡ done_with (at_site 0) (find n line)
unfolding find at_site
finds n [] = refl
finds n (s ∷ line) = go (eqb (number s) n) (finds n line)
  where
    go : (b : Bool) → find n (without_sites line) ≡ done_with (at_site 0) (find n line)
        → cond b (done (at_site 0 s)) (find n (without_sites line)) ≡ done_with (at_site 0) (cond b (done s) (find n line))
    go true h = refl
    go false h = h

holders : (p : ℕ) (line : Line) → holder_of p (without_sites line) ≡ holder_of p line
unfolding holder_of at_site names
holders p [] = refl
holders p (s ∷ line) = ap (smaller (is_holder p s) (number s)) (holders p line)

pub leaving_same : (line : Line) (s : Node) → leave_of (without_sites line) (at_site 0 s) ≡ leave_of line s
unfolding leave_of at_site
leaving_same line s = ap (λ (q : Option ℕ). cond (is_empty s.bag) (held_by q) (Err OwnBag)) (holders (number s) line)

changes : (n : ℕ) (f g : Node → Node) → ((t : Node) → g (at_site 0 t) ≡ at_site 0 (f t)) → (line : Line)
    → map (change n g) (without_sites line) ≡ without_sites (map (change n f) line)
unfolding change at_site
changes n f g h [] = refl
changes n f g h (t ∷ line) = rw (changes n f g h line, one)
  where
    one : change n g (at_site 0 t) ≡ at_site 0 (change n f t)
    one = go (eqb (number t) n) (h t)
      where
        go : (b : Bool) → g (at_site 0 t) ≡ at_site 0 (f t) → cond b (g (at_site 0 t)) (at_site 0 t) ≡ at_site 0 (cond b (f t) t)
        go true e = e
        go false e = refl

goes : (n : ℕ) (line : Line) → without n (without_sites line) ≡ without_sites (without n line)
unfolding without at_site
goes n [] = refl
goes n (t ∷ line) = go (eqb (number t) n) (goes n line)
  where
    go : (b : Bool) → without n (without_sites line) ≡ without_sites (without n line)
        → cond b (without n (without_sites line)) (at_site 0 t ∷ without n (without_sites line)) ≡ without_sites (cond b (without n line) (t ∷ without n line))
    go true h = h
    go false h = ap (λ (z : Line). at_site 0 t ∷ z) h

replaces : (n : ℕ) (o : Option Node) (line : Line) → replace n (bare_option o) (without_sites line) ≡ without_sites (replace n o line)
unfolding replace
replaces n None line = goes n line
replaces n (Some s) line = changes n (λ (t : Node). s) (λ (t : Node). at_site 0 s) (λ t. refl) line

receives : (m : Message) (t : Node) → with_message m (at_site 0 t) ≡ at_site 0 (with_message m t)
unfolding with_message at_site
receives m t = refl

sends : (l : List Send) (line : Line) → send_all l (without_sites line) ≡ without_sites (send_all l line)
unfolding send_all
sends [] line = refl
sends (m ∷ l) line =
    ap (send_all l) (changes m.to (with_message m.message) (with_message m.message) (receives m.message) line)
    ∙ sends l (map (change m.to (with_message m.message)) line)

-- a test that does not look at the code
pub all_same : (f : Node → Bool) → ((s : Node) → f (at_site 0 s) ≡ f s) → (line : Line) → all f (without_sites line) ≡ all f line
unfolding all
all_same f h [] = refl
all_same f h (s ∷ line) = rw (h s, all_same f h line)

rooms : (line : Line) (m : Send) → has_room (without_sites line) m ≡ has_room line m
unfolding has_room at_site
rooms line m = all_same (λ (s : Node). not (eqb (number s) m.to) || ltb (length s.bag) capacity) (λ s. refl) line

all_rooms : (line : Line) (l : List Send) → all (has_room (without_sites line)) l ≡ all (has_room line) l
unfolding all
all_rooms line [] = refl
all_rooms line (m ∷ l) = rw (rooms line m, all_rooms line l)

commits : (line : Line) (n : ℕ) (e : Effect) → commit (without_sites line) n (bare_effect e) ≡ done_with without_sites (commit line n e)
unfolding commit
commits line n e =
    rw (all_rooms line e.sends, replaces n e.after line, sends e.sends (replace n e.after line))
    (requiring without_sites (all (has_room line) e.sends) Full (send_all e.sends (replace n e.after line)))

-- what is done after something that is done alike
thens : {A B C D : Type 0} (f : A → B) (h : C → D) (a : Answer A) (k : A → Answer C) (j : B → Answer D) → ((x : A) → j (f x) ≡ done_with h (k x))
    → (done_with f a >>= j) ≡ done_with h (a >>= k)
unfolding ◌>>=◌
thens f h (refused r) k j e = refl
thens f h (done x) k j e = e x

pub steps_same : (line : Line) (x : declared.Step) → step (without_sites line) x ≡ done_with without_sites (step line x)
unfolding step at_site
steps_same line x =
    rw (finds x.station line)
    (thens (at_site 0) without_sites (find x.station line)
    (λ (s : Node). act (leave_of line s) s x.action >>= (λ (e : Effect). commit line (number s) e))
    (λ (s : Node). act (leave_of (without_sites line) s) s x.action >>= (λ (e : Effect). commit (without_sites line) (number s) e)) at_station)
  where
    at_station : (s : Node) → (act (leave_of (without_sites line) (at_site 0 s)) (at_site 0 s) x.action >>= (λ (e : Effect). commit (without_sites line) (number (at_site 0 s)) e))
        ≡ done_with without_sites (act (leave_of line s) s x.action >>= (λ (e : Effect). commit line (number s) e))
    at_station s =
        rw (leaving_same line s, acts (leave_of line s) s x.action)
        (thens bare_effect without_sites (act (leave_of line s) s x.action) (λ (e : Effect). commit line (number s) e)
        (λ (e : Effect). commit (without_sites line) (number (at_site 0 s)) e) (committed s))
      where
        committed : (s : Node) (e : Effect) → commit (without_sites line) (number (at_site 0 s)) (bare_effect e) ≡ done_with without_sites (commit line (number s) e)
        committed s e = commits line (number s) e
