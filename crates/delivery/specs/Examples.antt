-- Each case of lemma 3's proof, worked.
use Rattle.std.specs.Prelude.{ℕ, ◌≡◌, false, List, [], ◌∷◌, Some, None}
use Rattle.line.specs.Types.{Neighbour}
use Rattle.line.specs.declared.Station as declared
use Rattle.line.specs.Message.{introduction}
use Rattle.line.specs.Marks.{plain}
use Rattle.line.specs.Act.{Send, send}
use Rattle.delivery.specs.Lemma3.{introduced}

-- station 50
abbrev pub fifty : Neighbour → Neighbour → declared.Station
fifty l r = record { number = 50; left = l; right = r; marks = plain false }

-- an introduction of id is delivered to station 50 with these neighbours, which leaves it with those and sends that
pub record Example : Type 0 where
  pub left : Neighbour
  pub right : Neighbour
  pub id : ℕ
  pub new_left : Neighbour
  pub new_right : Neighbour
  pub sends : List Send

abbrev pub Shows : Example → Type 0
Shows x = introduced (fifty x.left x.right) x.id ≡ record { station = fifty x.new_left x.new_right; sends = x.sends }

abbrev pub delivered : Neighbour → Neighbour → ℕ → Neighbour → Neighbour → List Send → Example
delivered l r id m q sends = record { left = l; right = r; id = id; new_left = m; new_right = q; sends = sends }

unfoldable pub examples : List Example
examples =
    -- "If id = p"
    delivered (Some 30) (Some 70) 50 (Some 30) (Some 70) [] ∷
    -- "If p < id < right": 70, or +∞, where there is nothing to send
    delivered (Some 30) (Some 70) 60 (Some 30) (Some 60) (send 60 (introduction 70)) ∷
    delivered (Some 30) None 60 (Some 30) (Some 60) [] ∷
    -- "If id = right"
    delivered (Some 30) (Some 70) 70 (Some 30) (Some 70) [] ∷
    -- "If id > right"
    delivered (Some 30) (Some 70) 80 (Some 30) (Some 70) (send 70 (introduction 80)) ∷
    -- "The case of id < p is similar."
    delivered (Some 30) (Some 70) 40 (Some 40) (Some 70) (send 40 (introduction 30)) ∷
    delivered None (Some 70) 40 (Some 40) (Some 70) [] ∷
    delivered (Some 30) (Some 70) 30 (Some 30) (Some 70) [] ∷
    delivered (Some 30) (Some 70) 20 (Some 30) (Some 70) (send 30 (introduction 20)) ∷
    -- without neighbours: itself, and one on each side
    delivered None None 50 None None [] ∷
    delivered None None 60 None (Some 60) [] ∷
    delivered None None 40 (Some 40) None [] ∷ []
