-- A step leaves every station as it is where its own station stays as it is: what is sent reaches bags alone.
use Prim.Native.Nat.{ℕ}
use mathlib.Core.Path.{◌≡◌, refl, ap, ◌∙◌}
use mathlib.Core.Logic.{by_cases}
use mathlib.Core.List.{List, [], ◌∷◌, map}
use mathlib.Core.List.Memᴰ.{head as here}
use mathlib.Core.List.Memᴰ.{tail as there}
use mathlib.Core.List.{Memᴰ as Member}
use native.Mathlib.Decide.{ℕ_discrete}
use Rattle.line.specs.Node.{Node, Line, number}
use Rattle.line.specs.Act.{Send}
use Rattle.line.specs.Step.{change, with_message, send_all}
use Rattle.line.proofs.Changes.{change_same, change_other}
use Rattle.lasting.specs.Claims.{stations}

-- one node is changed, and its station stays as it is
pub changed_stations : (n : ℕ) (f : Node → Node) (line : Line) → ((t : Node) → Member t line → number t ≡ n → (f t).station ≡ t.station)
    → stations (map (change n f) line) ≡ stations line
changed_stations n f [] h = refl
changed_stations n f (t ∷ line) h = rw (changed_stations n f line (λ u m. h u (there m)), keep)
  where
    keep : (change n f t).station ≡ t.station
    keep =
        by_cases (ℕ_discrete (number t) n) (λ e. ap (λ (s : Node). s.station) (change_same n f t e) ∙ h t (here refl) e)
        (λ k. ap (λ (s : Node). s.station) (change_other n f t k))

pub sent_stations : (l : List Send) (line : Line) → stations (send_all l line) ≡ stations line
unfolding send_all with_message
sent_stations [] line = refl
sent_stations (m ∷ l) line =
    sent_stations l (map (change m.to (with_message m.message)) line) ∙ changed_stations m.to (with_message m.message) line (λ t k e. refl)
