-- Laws of `find`, `change`, `without`, `has_room` and `send_all`, by the numbers of the stations.
use mathlib.Core.Path.{◌≡◌, refl, sym, ◌∙◌, ap, subst}
use mathlib.Core.Logic.{◌≢◌, ◌⊎◌, inl, inr, ⊎_elim, by_cases}
use mathlib.Core.Bool.{Bool, true, false, cond, not, ◌||◌}
use mathlib.Core.List.Memᴰ
use mathlib.Core.List.{List, [], ◌∷◌, ◌++◌, map}
use mathlib.Core.List.Memᴰ.{head as here}
use mathlib.Core.List.Memᴰ.{tail as there}
use mathlib.Core.List.{Memᴰ as Member}
use Prim.Native.Nat.{ℕ, suc, ◌≤◌}
use native.Mathlib.Omega.{arith}
use native.Mathlib.Decide.{ℕ_discrete}
use lib.Dec.{eqb, ltb}
use borrow.Author.Tests.{eqb-true, eqb-false, eq-eqb, ne_eqb, not-true, not-false}
use lib.ListN.{length}
use Rattle.lists.specs.Numbers.{Pairwise, Distinct}
use Rattle.lists.proofs.Lists.{clash, or_none, or_cases, or_right, all_true, all_false, true_all, mem-map, map-mem, map_self}
use Rattle.line.specs.declared.Message.{Message}
use Rattle.line.specs.declared.Refusal.TheVariants.{Absent}
use Rattle.line.specs.Answer.{refused, done}
use Rattle.line.specs.Message.{capacity}
use Rattle.line.specs.Node.{Node, Line, number, numbers, Present}
use Rattle.line.specs.Act.{Send}
use Rattle.line.specs.Step.{find, change, without, with_message, send_all, has_room}
use Rattle.line.specs.Claims.{Apart}
use Rattle.line.proofs.Answers.{done_inj, refused_done}

-- a station that is present, as a node
pub node_of_lem : (line : Line) {x : ℕ} → Present line x → (s : Node) × Member s line × (x ≡ number s)
node_of_lem line m = map-mem number line m

-- one node for each number
pub unique : (line : Line) {s t : Node} → Distinct (numbers line) → Member s line → Member t line → number s ≡ number t → s ≡ t
unique [] h m k e = absurd (Memᴰ.not-nil m)
unique (u ∷ line) {s} {t} h m k e = go (Memᴰ.cases_cons m) (Memᴰ.cases_cons k) (λ i j. unique line h.1 i j e)
  where
    go : (s ≡ u) ⊎ Member s line → (t ≡ u) ⊎ Member t line → (Member s line → Member t line → s ≡ t) → s ≡ t
    go (inl p) (inl q) f = p ∙ sym q
    go (inl p) (inr j) f = absurd (h.0 (number t) (mem-map number j) (sym (ap number p) ∙ e))
    go (inr i) (inl q) f = absurd (h.0 (number s) (mem-map number i) (sym (ap number q) ∙ sym e))
    go (inr i) (inr j) f = f i j

pub found : (n : ℕ) (line : Line) {s : Node} → find n line ≡ done s → Member s line × (number s ≡ n)
unfolding find
found n [] e = refused_done e
found n (t ∷ line) {s} e = go (eqb (number t) n) refl e (found n line)
  where
    go : (u : Bool) → eqb (number t) n ≡ u → cond u (done t) (find n line) ≡ done s → (find n line ≡ done s → Member s line × (number s ≡ n)) → Member s (t ∷ line) × (number s ≡ n)
    go true p q f = let z = done_inj q in (here (sym z), rw (← z) (eqb-true (number t) n p))
    go false p q f = (there (f q).0, (f q).1)

pub present_found : (n : ℕ) (line : Line) → Present line n → (s : Node) × (find n line ≡ done s)
unfolding find
present_found n [] m = absurd (Memᴰ.not-nil m)
present_found n (s ∷ line) m = go (eqb (number s) n) refl (present_found n line)
  where
    go : (b : Bool) → eqb (number s) n ≡ b → (Present line n → (u : Node) × (find n line ≡ done u)) → (u : Node) × (cond b (done s) (find n line) ≡ done u)
    go true e f = (s, refl)
    go false e f = f (⊎_elim (λ z. absurd (eqb-false (number s) n e (sym z))) (λ k. k) (Memᴰ.cases_cons m))

pub member_found : (n : ℕ) (line : Line) {s : Node} → Distinct (numbers line) → Member s line → number s ≡ n → find n line ≡ done s
member_found n line d m e =
    let w = present_found n line (Memᴰ.cast (sym e) (mem-map number m)) in
    let f = found n line w.1 in
    w.1 ∙ ap done (unique line d f.0 m (f.1 ∙ sym e))

pub find_nowhere : (n : ℕ) (line : Line) → (Present line n → ⊥) → find n line ≡ refused Absent
unfolding find
find_nowhere n [] h = refl
find_nowhere n (t ∷ line) h = rw (ne_eqb (number t) n (λ (e : number t ≡ n). h (here (sym e)))) (find_nowhere n line (λ m. h (there m)))

-- no node has the number n: nothing is changed, nothing goes
abbrev pub Nowhere : ℕ → Line → Type 0
Nowhere n line = (t : Node) → Member t line → number t ≢ n

-- One node is changed.
module _ (n : ℕ) (f : Node → Node) where
  pub change_same : (t : Node) → number t ≡ n → change n f t ≡ f t
  unfolding change
  change_same t e = rw (eq-eqb (number t) n e)

  pub change_other : (t : Node) → number t ≢ n → change n f t ≡ t
  unfolding change
  change_other t h = rw (ne_eqb (number t) n h)

  -- each node of the new line is an old one of another number, or f of one
  pub changed_mem : (line : Line) {t : Node} → Member t (map (change n f) line)
      → (Member t line × (number t ≢ n)) ⊎ ((u : Node) × Member u line × (number u ≡ n) × (t ≡ f u))
  changed_mem line {t} m =
      let w = map-mem (change n f) line m in
      by_cases (ℕ_discrete (number w.0) n) (λ e. inr (w.0, w.1, e, w.2 ∙ change_same w.0 e))
      (λ h. let z = w.2 ∙ change_other w.0 h in inl (Memᴰ.cast z w.1, λ e. h (sym (ap number z) ∙ e)))

  pub keeps_other : {line : Line} {t : Node} → Member t line → number t ≢ n → Member t (map (change n f) line)
  keeps_other {t = t} m h = Memᴰ.cast (sym (change_other t h)) (mem-map (change n f) m)

  pub takes_it : {line : Line} {t : Node} → Member t line → number t ≡ n → Member (f t) (map (change n f) line)
  takes_it {t = t} m e = Memᴰ.cast (sym (change_same t e)) (mem-map (change n f) m)

  pub changed_numbers : ((t : Node) → number t ≡ n → number (f t) ≡ n) → (line : Line) → numbers (map (change n f) line) ≡ numbers line
  changed_numbers h [] = refl
  changed_numbers h (t ∷ line) = rw (changed_numbers h line, keep) refl
    where
      keep : number (change n f t) ≡ number t
      keep = by_cases (ℕ_discrete (number t) n) (λ e. ap number (change_same t e) ∙ h t e ∙ sym e) (λ k. ap number (change_other t k))

  pub changed_all : (Q : Node → Type 0) (line : Line) → ((t : Node) → Member t line → Q t) → ((t : Node) → Member t line → number t ≡ n → Q (f t))
      → (t : Node) → Member t (map (change n f) line) → Q t
  changed_all Q line g h t m = ⊎_elim (λ w. g t w.0) (λ w. subst Q (sym w.3) (h w.0 w.1 w.2)) (changed_mem line m)

pub change_nowhere : (n : ℕ) (f : Node → Node) (line : Line) → Nowhere n line → map (change n f) line ≡ line
change_nowhere n f line h = map_self (change n f) line (λ t m. change_other n f t (h t m))

-- A node goes.
module _ (n : ℕ) where
  pub without_mem : (line : Line) {t : Node} → Member t (without n line) → Member t line × (number t ≢ n)
  unfolding without
  without_mem [] m = absurd (Memᴰ.not-nil m)
  without_mem (u ∷ line) {t} m = go (eqb (number u) n) refl (without_mem line) m
    where
      go : (b : Bool) → eqb (number u) n ≡ b → (Member t (without n line) → Member t line × (number t ≢ n))
          → Member t (cond b (without n line) (u ∷ without n line)) → Member t (u ∷ line) × (number t ≢ n)
      go true e f k = (there (f k).0, (f k).1)
      go false e f k =
          ⊎_elim (λ (p : t ≡ u). (here p, λ z. eqb-false (number u) n e (sym (ap number p) ∙ z))) (λ i. (there (f i).0, (f i).1)) (Memᴰ.cases_cons k)

  pub mem_without : (line : Line) {t : Node} → Member t line → number t ≢ n → Member t (without n line)
  unfolding without
  mem_without [] {t = t} m h = elim m [ ]
  mem_without (u ∷ line) {t} m h = go (eqb (number u) n) refl (Memᴰ.cases_cons m) (λ k. mem_without line k h)
    where
      go : (b : Bool) → eqb (number u) n ≡ b → (t ≡ u) ⊎ Member t line → (Member t line → Member t (without n line)) → Member t (cond b (without n line) (u ∷ without n line))
      go true e (inl p) f = absurd (h (ap number p ∙ eqb-true (number u) n e))
      go true e (inr k) f = f k
      go false e (inl p) f = here p
      go false e (inr k) f = there (f k)

  pub without_present : (line : Line) {x : ℕ} → Present (without n line) x → Present line x × (x ≢ n)
  without_present line m =
      let w = node_of_lem (without n line) m in
      let v = without_mem line w.1 in
      (Memᴰ.cast w.2 (mem-map number v.0), λ e. v.1 (sym w.2 ∙ e))

  pub present_without : (line : Line) {x : ℕ} → Present line x → x ≢ n → Present (without n line) x
  present_without line m h = let w = node_of_lem line m in Memᴰ.cast w.2 (mem-map number (mem_without line w.1 (λ e. h (w.2 ∙ e))))

  -- the numbers that stay stand to each other as they did: rising numbers rise, distinct ones are distinct
  pub without_pairwise : (R : ℕ → ℕ → Type 0) (line : Line) → Pairwise R (numbers line) → Pairwise R (numbers (without n line))
  unfolding without
  without_pairwise R [] h = tt
  without_pairwise R (u ∷ line) h = go (eqb (number u) n) (without_pairwise R line h.1)
    where
      go : (b : Bool) → Pairwise R (numbers (without n line)) → Pairwise R (numbers (cond b (without n line) (u ∷ without n line)))
      go true r = r
      go false r = (λ y m. h.0 y (without_present line m).0, r)

  pub without_length : (line : Line) → length (without n line) ≤ length line
  unfolding without
  without_length [] = omega arith
  without_length (u ∷ line) = go (eqb (number u) n) (without_length line)
    where
      go : (b : Bool) → length (without n line) ≤ length line → length (cond b (without n line) (u ∷ without n line)) ≤ suc (length line)
      go true r = omega arith
      go false r = omega arith

pub without_nowhere : (n : ℕ) (line : Line) → Nowhere n line → without n line ≡ line
unfolding without
without_nowhere n [] h = refl
without_nowhere n (t ∷ line) h = rw (ne_eqb (number t) n (h t (here refl)), without_nowhere n line (λ u m. h u (there m)))

-- a removal and a change that keeps numbers
pub without_change : (p q : ℕ) (f : Node → Node) (line : Line) → ((t : Node) → number (f t) ≡ number t) → without p (map (change q f) line) ≡ map (change q f) (without p line)
unfolding without
without_change p q f [] k = refl
without_change p q f (t ∷ line) k =
    ap (λ (n : ℕ). cond (eqb n p) (without p (map (change q f) line)) (change q f t ∷ without p (map (change q f) line))) same
    ∙ go (eqb (number t) p) (without_change p q f line k)
  where
    same : number (change q f t) ≡ number t
    same = by_cases (ℕ_discrete (number t) q) (λ e. ap number (change_same q f t e) ∙ k t) (λ h. ap number (change_other q f t h))

    go : (b : Bool) → without p (map (change q f) line) ≡ map (change q f) (without p line)
        → cond b (without p (map (change q f) line)) (change q f t ∷ without p (map (change q f) line)) ≡ map (change q f) (cond b (without p line) (t ∷ without p line))
    go true r = r
    go false r = ap (λ (z : Line). change q f t ∷ z) r

-- Room for what is sent: each bag that receives it passes the test.
module _ (m : Send) (line : Line) where
  roomy : Node → Bool
  roomy t = not (eqb (number t) m.to) || ltb (length t.bag) capacity

  pub room_true : has_room line m ≡ true → (t : Node) → Member t line → number t ≡ m.to → ltb (length t.bag) capacity ≡ true
  unfolding has_room roomy
  room_true e t k h =
      ⊎_elim (λ i. clash (eq-eqb (number t) m.to h) (not-true (eqb (number t) m.to) i)) (λ i. i)
      (or_cases (not (eqb (number t) m.to)) (ltb (length t.bag) capacity) (all_true roomy e k))

  -- or there is one that does not
  pub room_false : has_room line m ≡ false → (t : Node) × Member t line × (number t ≡ m.to) × (ltb (length t.bag) capacity ≡ false)
  unfolding has_room roomy
  room_false e =
      let w = all_false roomy line e in
      let h = or_none (not (eqb (number w.0) m.to)) (ltb (length w.0.bag) capacity) w.2 in
      (w.0, w.1, eqb-true (number w.0) m.to (not-false (eqb (number w.0) m.to) h.0), h.1)

  pub true_room : ((t : Node) → Member t line → number t ≡ m.to → ltb (length t.bag) capacity ≡ true) → has_room line m ≡ true
  unfolding has_room roomy
  true_room r =
      true_all roomy line
      (λ t k. by_cases (ℕ_discrete (number t) m.to) (λ e. or_right (not (eqb (number t) m.to)) (r t k e)) (λ h. rw (ne_eqb (number t) m.to h) refl))

-- Lists of sends.
pub receive_number : (m : Message) (t : Node) → number (with_message m t) ≡ number t
unfolding with_message
receive_number m t = refl

pub send_append : (l r : List Send) (line : Line) → send_all (l ++ r) line ≡ send_all r (send_all l line)
unfolding send_all
send_append [] r line = refl
send_append (m ∷ l) r line = send_append l r (map (change m.to (with_message m.message)) line)

pub send_numbers : (l : List Send) (line : Line) → numbers (send_all l line) ≡ numbers line
unfolding send_all
send_numbers [] line = refl
send_numbers (m ∷ l) line =
    send_numbers l (map (change m.to (with_message m.message)) line)
    ∙ changed_numbers m.to (with_message m.message) (λ t e. receive_number m.message t ∙ e) line

pub send_without : (n : ℕ) (l : List Send) (line : Line) → without n (send_all l line) ≡ send_all l (without n line)
unfolding send_all
send_without n [] line = refl
send_without n (m ∷ l) line =
    send_without n l (map (change m.to (with_message m.message)) line)
    ∙ ap (send_all l) (without_change n m.to (with_message m.message) line (receive_number m.message))

pub apart_across : (l r : List Send) {m k : Send} → Apart (l ++ r) → Member m l → Member k r → m.to ≢ k.to
apart_across [] r a h g = absurd (Memᴰ.not-nil h)
apart_across (x ∷ l) r {m} {k} a h g =
    ⊎_elim (λ (e : m ≡ x). λ (f : m.to ≡ k.to). a.0 k (Memᴰ.append_right l g) (ap (λ (z : Send). z.to) (sym e) ∙ f))
    (λ (t : Member m l). apart_across l r a.1 t g) (Memᴰ.cases_cons h)
