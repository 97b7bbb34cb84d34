-- Whole runs: one induction over the list of readings, and what follows from it. What each step that is done keeps, a run keeps, also one
-- that stops at a refusal; in one that comes to its end every step was done; machines that answer alike have runs that end alike; and a run
-- goes on with the readings that are left.
use mathlib.Core.Path.{◌≡◌, refl, sym, ◌∙◌, ap, subst}
use Rattle.std.specs.Prelude.{Ok, Err}
use Rattle.line.specs.Types.{Ending, Reading}
use mathlib.Core.Logic.{⊎_elim}
use mathlib.Core.List.Memᴰ
use mathlib.Core.List.{List, [], ◌∷◌, map}
use mathlib.Core.List.Memᴰ.{head as here}
use mathlib.Core.List.Memᴰ.{tail as there}
use mathlib.Core.List.{Memᴰ as Member}
use Prim.Native.Nat.{ℕ, zero, suc, ◌+◌, ◌-◌, ◌≤◌, ◌<◌}
use native.Mathlib.Omega.{arith}
use lib.ListN.{take}
use Rattle.lists.specs.Places.{range}
use Rattle.lists.proofs.Elements.{range_one}
use Rattle.line.specs.declared.Refusal.{Refusal}
use Rattle.line.specs.Answer.{Answer, refused, done}
use Rattle.line.specs.Node.{Line}
use Rattle.line.specs.Run.{try, Run, run, Leads, EndsAt, IsRun}
use Rattle.line.specs.Accepted.{Accepted}
use Rattle.line.specs.Claims.{RunKeepsAccepted, RunKeepsWritten, PresentBefore, JoinedKept, MarksKept, RunPinned}
use Rattle.line.proofs.Answers.{refused_done}
use Rattle.line.proofs.Chains.{forward, carry}
use Rattle.line.proofs.Whole.{Result, came_same, came_then, came_present, step_result}

-- A machine answers a reading in a state, whatever its states are: lines, or arrays that hold one. Its course over a list of readings is
-- what `run` is of the machine `try`.
abbrev pub Machine : Type 0 → Type 0
Machine S = S → Reading → Answer S

pub record Course (S : Type 0) : Type 0 where
  pub ending : Ending
  pub steps : ℕ
  pub state : S

module _ {S : Type 0} where
  abbrev pub completed : S → Course S
  completed s = record { ending = Ok tt; steps = 0; state = s }

  abbrev pub stopped : S → Refusal → Course S
  stopped s r = record { ending = Err r; steps = 0; state = s }

  -- one step more was done before
  abbrev pub after_one : Course S → Course S
  after_one c = record { ending = c.ending; steps = suc c.steps; state = c.state }

module _ {S : Type 0} (f : Machine S) where
  unfoldable pub course : S → List Reading → Course S
  course s [] = completed s
  course s (x ∷ l) = elim (f s x) [
    | refused r ↦ stopped s r
    | done t ↦ after_one (course t l)
  ]

  abbrev pub onward : S → List Reading → Answer S → Course S
  onward s l (refused r) = stopped s r
  onward s l (done t) = after_one (course t l)

  pub course_next : (s : S) (x : Reading) (l : List Reading) → course s (x ∷ l) ≡ onward s l (f s x)
  unfolding course
  course_next s x l = go (f s x) refl
    where
      go : (a : Answer S) → f s x ≡ a → course s (x ∷ l) ≡ onward s l a
      go (refused r) e = rw (e, course) refl
      go (done t) e = rw (e, course) refl

  -- The one induction: a statement of a state, a list of readings and their course.
  pub course_induct : (Q : S → List Reading → Course S → Type 0)
      → ((s : S) → Q s [] (completed s))
      → ((s : S) (x : Reading) (l : List Reading) (r : Refusal) → f s x ≡ refused r → Q s (x ∷ l) (stopped s r))
      → ((s t : S) (x : Reading) (l : List Reading) (c : Course S) → f s x ≡ done t → Q t l c → Q s (x ∷ l) (after_one c))
      → (l : List Reading) (s : S) → Q s l (course s l)
  unfolding course
  course_induct Q none stop more [] s = none s
  course_induct Q none stop more (x ∷ l) s = rw (course_next s x l) (go (f s x) refl (course_induct Q none stop more l))
    where
      go : (a : Answer S) → f s x ≡ a → ((t : S) → Q t l (course t l)) → Q s (x ∷ l) (onward s l a)
      go (refused r) e h = stop s x l r e
      go (done t) e h = more s t x l (course t l) e (h t)

  -- each reading of the list keeps P where it is done
  abbrev pub KeptBy : (S → Type 0) → List Reading → Type 0
  KeptBy P l = (s t : S) (x : Reading) → Member x l → P s → f s x ≡ done t → P t

  -- what each step that is done keeps, the course keeps
  pub course_keeps : (P : S → Type 0) (l : List Reading) → KeptBy P l → (s : S) → P s → P (course s l).state
  course_keeps P l kept s =
      course_induct (λ s l c. KeptBy P l → P s → P c.state) (λ s k p. p) (λ s x l r e k p. p)
      (λ s t x l c e h k p. h (λ a b y m. k a b y (there m)) (k s t x (here refl) p e)) l s kept

  -- a reading is done in a state that P holds of
  pub record DoneIn (P : S → Type 0) (x : Reading) : Type 0 where
    pub before : S
    pub after : S
    pub holds : P before
    pub does : f before x ≡ done after

  -- and in a course that comes to its end each reading was done, in such a state
  pub course_does : (P : S → Type 0) (l : List Reading) → KeptBy P l → (s : S) → P s → (course s l).ending ≡ Ok tt → (x : Reading) → Member x l → DoneIn P x
  course_does P l kept s =
      course_induct (λ s l c. KeptBy P l → P s → c.ending ≡ Ok tt → (x : Reading) → Member x l → DoneIn P x) (λ s k p e x m. absurd (Memᴰ.not-nil m))
      (λ s x l r e k p z. absurd (let w : ◌≡◌ {A = ℕ} 0 1 = cc in omega arith))
      (λ s t x l c e h k p z y m.
      ⊎_elim (λ i. record { before = s; after = t; holds = p; does = rw i e })
      (h (λ a b u n. k a b u (there n)) (k s t x (here refl) p e) z y) (Memᴰ.cases_cons m)) l s kept

  -- what holds between the states before and after each step that is done holds between the first state and the last
  pub course_relates : (P : S → Type 0) (R : S → S → Type 0) → ((s : S) → P s → R s s) → ((s t u : S) → R s t → R t u → R s u)
      → ((s t : S) (x : Reading) → P s → f s x ≡ done t → P t × R s t)
      → (l : List Reading) (s : S) → P s → P (course s l).state × R s (course s l).state
  course_relates P R same then step l s p =
      course_keeps (λ t. P t × R s t) l (λ t u x m w e. let v = step t u x w.0 e in (v.0, then s t u w.1 v.1)) s (p, same s p)

-- Two machines: related states are answered alike, and related again where the step is done. So they end alike after as many steps, related.
module _ {S T : Type 0} (R : S → T → Type 0) where
  abbrev pub AnswersAlike : Answer S → Answer T → Type 0
  AnswersAlike (refused r) (refused q) = r ≡ q
  AnswersAlike (refused r) (done t) = ⊥
  AnswersAlike (done s) (refused q) = ⊥
  AnswersAlike (done s) (done t) = R s t

  pub record EndAlike (c : Course S) (k : Course T) : Type 0 where
    pub ending : c.ending ≡ k.ending
    pub steps : c.steps ≡ k.steps
    pub states : R c.state k.state

  pub course_simulates : (f : Machine S) (g : Machine T) → ((s : S) (t : T) (x : Reading) → R s t → AnswersAlike (f s x) (g t x))
      → (l : List Reading) (s : S) (t : T) → R s t → EndAlike (course f s l) (course g t l)
  unfolding course
  course_simulates f g alike l s =
      course_induct f (λ s l c. (t : T) → R s t → EndAlike c (course g t l)) (λ s t h. record { ending = refl; steps = refl; states = h })
      (λ s x l r e t h. rw (course_next g t x l) (stop s l r t h (g t x) (rw e at (alike s t x h))))
      (λ s u x l c e i t h. rw (course_next g t x l) (more u l c i t (g t x) (rw e at (alike s t x h)))) l s
    where
      stop : (s : S) (l : List Reading) (r : Refusal) (t : T) → R s t → (a : Answer T) → AnswersAlike (refused r) a → EndAlike (stopped s r) (onward g t l a)
      stop s l r t h (refused q) e = record { ending = ap Err e; steps = refl; states = h }
      stop s l r t h (done u) e = absurd e

      more : (s : S) (l : List Reading) (c : Course S) → ((t : T) → R s t → EndAlike c (course g t l))
          → (t : T) (a : Answer T) → AnswersAlike (done s) a → EndAlike (after_one c) (onward g t l a)
      more s l c i t (refused q) e = absurd e
      more s l c i t (done u) e = let v = i u e in record { ending = v.ending; steps = ap suc v.steps; states = v.states }

-- Runs are the courses of the machine `try`.
-- what a run gives, by its first step
abbrev pub next : Line → List Reading → Answer Line → Run
next line l (refused r) = record { ending = Err r; steps = 0; line = line }
next line l (done after) = record { ending = (run after l).ending; steps = suc (run after l).steps; line = (run after l).line }

pub run_next : (line : Line) (x : Reading) (l : List Reading) → run line (x ∷ l) ≡ next line l (try line x)
unfolding run
run_next line x l = go (try line x) refl
  where
    go : (a : Answer Line) → try line x ≡ a → run line (x ∷ l) ≡ next line l a
    go (refused r) e = rw (e, run) refl
    go (done after) e = rw (e, run) refl

abbrev to_run : Course Line → Run
to_run c = record { ending = c.ending; steps = c.steps; line = c.state }

run_course : (l : List Reading) (line : Line) → run line l ≡ to_run (course try line l)
unfolding run
run_course =
    course_induct try (λ line l c. run line l ≡ to_run c) (λ line. refl) (λ line x l r e. run_next line x l ∙ ap (next line l) e)
    (λ line after x l c e h. run_next line x l ∙ ap (next line l) e ∙ ap (λ (r : Run). record { ending = r.ending; steps = suc r.steps; line = r.line }) h)

-- what each step that is done keeps, a run keeps
pub run_keeps : (P : Line → Type 0) (l : List Reading) → KeptBy try P l → (line : Line) → P line → P (run line l).line
run_keeps P l kept line p = rw (run_course l line) (course_keeps try P l kept line p)

-- and in a run that comes to its end each reading was done
pub run_does : (P : Line → Type 0) (l : List Reading) → KeptBy try P l → (line : Line) → P line → (run line l).ending ≡ Ok tt
    → (x : Reading) → Member x l → DoneIn try P x
run_does P l kept line p e = course_does try P l kept line p (rw (run_course l line) at e)

pub run_relates : (P : Line → Type 0) (R : Line → Line → Type 0) → ((line : Line) → P line → R line line) → ((a b c : Line) → R a b → R b c → R a c)
    → ((line after : Line) (x : Reading) → P line → try line x ≡ done after → P after × R line after)
    → (l : List Reading) (line : Line) → P line → P (run line l).line × R line (run line l).line
run_relates P R same then step l line p = rw (run_course l line) (course_relates try P R same then step l line p)

-- related lines whose steps are answered alike have runs that end alike after as many steps, and leave related lines
pub record RunsAlike (R : Line → Line → Type 0) (r q : Run) : Type 0 where
  pub ending : r.ending ≡ q.ending
  pub steps : r.steps ≡ q.steps
  pub lines : R r.line q.line

pub run_simulates : (R : Line → Line → Type 0) → ((a b : Line) (x : Reading) → R a b → AnswersAlike R (try a x) (try b x))
    → (l : List Reading) (a b : Line) → R a b → RunsAlike R (run a l) (run b l)
run_simulates R alike l a b h =
    let v = course_simulates R try try alike l a b h in
    rw (run_course l a, run_course l b) (record { ending = v.ending; steps = v.steps; lines = v.states })

-- what a step or a run does to an accepted line
unchanged : {line : Line} → Accepted line → Result line line
unchanged ok = record { accepted = ok; written = λ w. w; came = came_same; backed = λ x y h. forward h; stays = λ a b m n j. j }

then : {line mid after : Line} → Result line mid → Result mid after → Result line after
then r t = record {
  accepted = t.accepted;
  written = λ w. t.written (r.written w);
  came = came_then r.came t.came;
  backed = λ x y h. carry r.backed (t.backed x y h);
  stays = λ a b m n j. t.stays a b m n (r.stays a b (came_present t.came a m) (came_present t.came b n) j);
}

try_result : (line : Line) (x : Reading) {after : Line} → Accepted line → try line x ≡ done after → Result line after
unfolding try
try_result line (Ok x) ok e = step_result line x ok e
try_result line (Err r) ok e = refused_done e

run_result : (l : List Reading) (line : Line) → Accepted line → Result line (run line l).line
run_result l line ok =
    (run_relates Accepted Result (λ a. unchanged) (λ a b c. then) (λ a b x h e. let r = try_result a x h e in (r.accepted, r)) l line ok).1

pub run_keeps_accepted : RunKeepsAccepted
run_keeps_accepted line l ok = (run_result l line ok).accepted

pub run_keeps_written : RunKeepsWritten
run_keeps_written line l ok w = (run_result l line ok).written w

pub present_before : PresentBefore
present_before line l ok = came_present (run_result l line ok).came

pub marks_kept : MarksKept
marks_kept line l ok = (run_result l line ok).came

pub joined_kept : JoinedKept
joined_kept line l ok a b m n =
    let r = run_result l line ok in
    (r.stays a b m n, carry r.backed)

-- What a run is, and nothing else.
abbrev pub ended : Ending → ℕ → Line → Run
ended e k line = record { ending = e; steps = k; line = line }

-- one reading more in front
ends_later : (x : Reading) (l : List Reading) (n : ℕ) (line : Line) (e : Ending) → EndsAt l n line e → EndsAt (x ∷ l) (suc n) line e
ends_later x l n line (Ok _) h = ap suc h
ends_later x l n line (Err r) h = h

is_run : (l : List Reading) (line : Line) → IsRun line l (run line l)
is_run l line =
    rw (run_course l line)
    (course_induct try (λ line l c. IsRun line l (to_run c)) (λ line. record { leads = refl; ends = refl })
    (λ line x l r e. record { leads = refl; ends = (x, l, refl, e) })
    (λ line after x l c e h. record { leads = (after, e, h.leads); ends = ends_later x l c.steps c.state c.ending h.ends }) l line)

ends_sooner : (x : Reading) (l : List Reading) (n : ℕ) (line : Line) (e : Ending) → EndsAt (x ∷ l) (suc n) line e → EndsAt l n line e
ends_sooner x l n line (Ok _) h = cc
ends_sooner x l n line (Err r) h = h

at_once : (l : List Reading) (line : Line) (e : Ending) → EndsAt l 0 line e → run line l ≡ ended e 0 line
unfolding run
at_once [] line (Ok _) h = refl
at_once [] line (Err r) h = absurd (let z : ◌≡◌ {A = ℕ} 0 1 = cc in omega arith)
at_once (x ∷ l) line (Ok _) h = absurd (omega arith)
at_once (x ∷ l) line (Err r) h =
    let z : x ≡ h.0 = cc in
    let e : try line x ≡ refused r = rw z h.3 in
    run_next line x l ∙ ap (next line l) e

only_run : (l : List Reading) (line : Line) (n : ℕ) (after : Line) (e : Ending) → Leads (take n l) line after → EndsAt l n after e → run line l ≡ ended e n after
unfolding run
only_run l line zero after e h k = rw (← h) (at_once l line e (rw (← h) at k))
only_run [] line (suc n) after (Ok _) h k = absurd (omega arith)
only_run [] line (suc n) after (Err r) h k = absurd (let z : ◌≡◌ {A = ℕ} 0 1 = cc in omega arith)
only_run (x ∷ l) line (suc n) after e h k =
    run_next line x l ∙ ap (next line l) h.1
    ∙ ap (λ (r : Run). record { ending = r.ending; steps = suc r.steps; line = r.line }) (only_run l h.0 n after e h.2 (ends_sooner x l n after e k))

pub run_pinned : RunPinned
run_pinned line l r = (λ e. subst (IsRun line l) e (is_run l line), λ h. only_run l line r.steps r.line r.ending h.leads h.ends)

-- A run under way: k steps were done, r is the whole run, and l are the readings that are left.
unfoldable pub ahead : ℕ → Run → Run
ahead k r = record { ending = r.ending; steps = k + r.steps; line = r.line }

pub run_starts : (r : Run) → r ≡ ahead 0 r
unfolding ahead
run_starts r = ap (λ (k : ℕ). record { ending = r.ending; steps = k; line = r.line }) (let z : r.steps ≡ 0 + r.steps = omega arith in z)

module _ {r : Run} (k : ℕ) (line : Line) {l : List Reading} (same : r ≡ ahead k (run line l)) where
  -- none is left
  pub run_ends : l ≡ [] → ended (Ok tt) k line ≡ r
  unfolding ahead run
  run_ends e = sym (same ∙ rw e (ap (λ (j : ℕ). ended (Ok tt) j line) (let z : k + 0 ≡ k = omega arith in z)))

  module _ {x : Reading} {rest : List Reading} (first : l ≡ x ∷ rest) where
    tries : (a : Answer Line) → try line x ≡ a → run line l ≡ next line rest a
    tries a e = ap (run line) first ∙ run_next line x rest ∙ ap (next line rest) e

    -- the next step is refused
    pub run_stops : (f : Refusal) → try line x ≡ refused f → ended (Err f) k line ≡ r
    unfolding ahead
    run_stops f e = sym (same ∙ ap (ahead k) (tries (refused f) e) ∙ ap (λ (j : ℕ). ended (Err f) j line) (let z : k + 0 ≡ k = omega arith in z))

    -- the next step is done
    pub run_goes : (after : Line) → try line x ≡ done after → r ≡ ahead (k + 1) (run after rest)
    unfolding ahead
    run_goes after e =
        let t = run after rest in
        same ∙ ap (ahead k) (tries (done after) e)
        ∙ ap (λ (j : ℕ). record { ending = t.ending; steps = j; line = t.line }) (let z : k + suc t.steps ≡ k + 1 + t.steps = omega arith in z)

-- Readings by number, `total` of them: those from k on.
module _ (read : ℕ → Reading) (total : ℕ) where
  abbrev pub readings_from : ℕ → List Reading
  readings_from k = map read (range k (total - k))

  pub readings_start : (line : Line) → run line (map read (range 0 total)) ≡ ahead 0 (run line (readings_from 0))
  readings_start line = let e : total - 0 ≡ total = omega arith in rw e (run_starts (run line (map read (range 0 total))))

  module _ {r : Run} (k : ℕ) (line : Line) (same : r ≡ ahead k (run line (readings_from k))) where
    pub readings_end : total ≤ k → ended (Ok tt) k line ≡ r
    unfolding range
    readings_end h = let e : total - k ≡ 0 = omega arith in run_ends k line same (rw e)

    pub readings_stop : k < total → (f : Refusal) → try line (read k) ≡ refused f → ended (Err f) k line ≡ r
    readings_stop h = run_stops k line same (ap (map read) (range_one k total h))

    pub readings_go : k < total → (after : Line) → try line (read k) ≡ done after → r ≡ ahead (k + 1) (run after (readings_from (k + 1)))
    readings_go h = run_goes k line same (ap (map read) (range_one k total h))
