-- Alike lines, a term of document 01 ("The whole run").
use Rattle.std.specs.Prelude.{ℕ, ◌≡◌, ◌↔◌}
use mathlib.Core.List.{Memᴰ as Member}
use Rattle.line.specs.declared.Message.{Message}
use Rattle.line.specs.Message.{copies}
use Rattle.line.specs.Node.{Node, Line, number, Present}

-- "Tables are alike when the same station numbers have blocks, each with the same left, right and leaving mark and as many
-- copies of each message." "The agreement of the two receivers now also takes equal site codes as a premise and shares them" (document 02,
-- T-05): `marks` is the leaving mark and the site code.
pub record AlikeNodes (s t : Node) : Type 0 where
  pub left : s.station.left ≡ t.station.left
  pub right : s.station.right ≡ t.station.right
  pub marks : s.station.marks ≡ t.station.marks
  pub bag : (m : Message) → copies m s.bag ≡ copies m t.bag

pub record Alike (a b : Line) : Type 0 where
  pub stations : (n : ℕ) → Present a n ↔ Present b n
  pub nodes : (s t : Node) → Member s a → Member t b → number s ≡ number t → AlikeNodes s t
