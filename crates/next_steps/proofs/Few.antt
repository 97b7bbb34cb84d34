-- The list is short: each step stands once and has its guard, and a station has at most 33 such steps, since an exit needs an empty bag; a
-- line has at most 64 stations.
use mathlib.Core.Path.{◌≡◌, refl, sym, subst}
use mathlib.Core.Logic.{⊎_elim}
use mathlib.Core.Bool.{true}
use mathlib.Core.List.Memᴰ
use mathlib.Core.List.{List, [], ◌∷◌, ◌++◌, map}
use mathlib.Core.List.Memᴰ.{head as here}
use mathlib.Core.List.Memᴰ.{tail as there}
use mathlib.Core.List.{Memᴰ as Member}
use Prim.Native.Nat.{◌*◌, ◌≤◌}
use native.Mathlib.Omega.{arith}
use lib.ListN.{length, length-append}
use Rattle.lists.proofs.Lists.{clash, mem-map, map-length}
use Rattle.lists.proofs.Keeping.{kept_mem}
use Rattle.lists.proofs.Pairwise.{no_longer}
use Rattle.line.specs.declared.Action.{Action}
use Rattle.line.specs.declared.Action.TheVariants.{Timeout, Deliver, Exit}
use Rattle.line.specs.declared.Message.{Message}
use Rattle.line.specs.declared.Step.{Step}
use Rattle.line.specs.Message.{capacity}
use Rattle.line.specs.Node.{Node, Line}
use Rattle.line.specs.Accepted.{Accepted}
use Rattle.line.specs.Report.{Guard}
use Rattle.line.proofs.Messages.{precedes_self}
use Rattle.table.specs.Blocks.{line_of}
use Rattle.table.proofs.Accepting.{table_accepted}
use Rattle.next_steps.specs.Allowed.{step_by, candidates, is_allowed, allowed_steps}
use Rattle.next_steps.specs.Claims.{EarlierAction, Earlier, ListedFew}
use Rattle.next_steps.proofs.Guarded.{allowed_guard}
use Rattle.next_steps.proofs.InOrder.{listed_in_order}

-- what a bag allows besides the timeout
bag_actions : List Message → List Action
bag_actions [] = Exit ∷ []
bag_actions (m ∷ b) = map Deliver (m ∷ b)

bag_few : (b : List Message) → length b ≤ capacity → length (bag_actions b) ≤ 32
unfolding bag_actions
bag_few [] h = omega arith
bag_few (m ∷ b) h = omega (arith, map-length Deliver b)

guarded_action : (line : Line) (s : Node) (a : Action) → Guard line s a → Member a (Timeout ∷ bag_actions s.bag)
unfolding bag_actions
guarded_action line s Timeout g = here refl
guarded_action line s (Deliver m) g = there (go s.bag g)
  where
    go : (b : List Message) → Member m b → Member (Deliver m) (bag_actions b)
    go [] k = absurd (Memᴰ.not-nil k)
    go (x ∷ b) k = mem-map Deliver k
guarded_action line s Exit g = there (subst (λ (b : List Message). Member Exit (bag_actions b)) (sym g.0.empty) (here refl))

-- what the bags of a line allow
own_steps : Node → List Step
own_steps s = map (step_by s) (Timeout ∷ bag_actions s.bag)

all_steps : Line → List Step
all_steps [] = []
all_steps (s ∷ line) = own_steps s ++ all_steps line

all_few : (line : Line) → ((s : Node) → Member s line → length s.bag ≤ capacity) → length (all_steps line) ≤ 33 * length line
unfolding all_steps own_steps
all_few [] h = omega arith
all_few (s ∷ line) h =
    omega
    (arith, length-append (own_steps s) (all_steps line), map-length (step_by s) (bag_actions s.bag), bag_few s.bag (h s (here refl)), all_few line (λ t m. h t (there m)))

own_all : {s : Node} {line : Line} {x : Step} → Member s line → Member x (own_steps s) → Member x (all_steps line)
unfolding all_steps
own_all {x = x} (here {x = t} {xs = line} e) k = Memᴰ.append_left (all_steps line) (subst (λ (u : Node). Member x (own_steps u)) e k)
own_all (there {x = t} {xs = line} m) k = Memᴰ.append_right (own_steps t) (own_all m k)

allowed_all : (line : Line) → Accepted line → (x : Step) → is_allowed line x ≡ true → Member x (all_steps line)
unfolding own_steps
allowed_all line ok x h =
    let g = allowed_guard line ok x h in
    own_all g.member
    (Memᴰ.cast (λ i. record { station = sym g.named i; action = x.action }) (mem-map (step_by g.block) (guarded_action line g.block x.action g.holds)))

-- no step is earlier than itself
not_earlier : (a : Action) → EarlierAction a a → ⊥
not_earlier Timeout h = h
not_earlier (Deliver m) h = clash h (precedes_self m)
not_earlier Exit h = h

pub listed_few : ListedFew
unfolding allowed_steps
listed_few t h =
    let line = line_of t in
    let ok = (table_accepted t h).1 in
    let few : length (allowed_steps t) ≤ length (all_steps line) =
    no_longer Earlier (λ x k. ⊎_elim (λ p. omega arith) (λ p. not_earlier x.action p.1) k) (allowed_steps t) (all_steps line) (listed_in_order t h)
    (λ x m. allowed_all line ok x (kept_mem (is_allowed line) (candidates line) m).1) in
    omega (arith, few, all_few line ok.small, ok.few)
