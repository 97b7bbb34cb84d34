-- A line whose nodes stand for nodes of a line in line is in line: In line looks at numbers, neighbours, leaving marks and removals, and at
-- nothing else of a line.
use mathlib.Core.Path.{◌≡◌, refl, sym, subst, ◌∙◌}
use Rattle.std.specs.Prelude.{Some, None}
use Rattle.line.specs.Types.{Neighbour}
use mathlib.Core.Logic.{◌↔◌}
use mathlib.Core.List.{Memᴰ as Member}
use Prim.Native.Nat.{ℕ}
use Rattle.line.specs.declared.Side.{Side}
use Rattle.line.specs.Message.{removal}
use Rattle.line.specs.Node.{Node, Line, number, leaving, Present, neighbour}
use Rattle.line.specs.InLine.{IsNext, InLine}

-- t stands for a node of the line: the same number, neighbours and leaving mark, and no removal more
pub record StandsFor (line : Line) (t : Node) : Type 0 where
  pub node : Node
  pub member : Member node line
  pub named : number t ≡ number node
  pub sides : (d : Side) → neighbour d t.station ≡ neighbour d node.station
  pub mark : leaving t ≡ leaving node
  pub removals : (d : Side) → Member (removal d) t.bag → Member (removal d) node.bag

pub stands_itself : {line : Line} (s : Node) → Member s line → StandsFor line s
stands_itself s m = record { node = s; member = m; named = refl; sides = λ d. refl; mark = refl; removals = λ d k. k }

-- Of lines with the same stations present:
module _ (a b : Line) (same : (n : ℕ) → Present a n ↔ Present b n) where
  -- the next station on a side is the same
  next_same : (d : Side) (p : ℕ) (k : Neighbour) → IsNext a d p k → IsNext b d p k
  next_same d p None n = λ r m. n r ((same r).1 m)
  next_same d p (Some q) n = record {
    present = (same q).0 n.present;
    beyond = n.beyond;
    nearest = λ r m. n.nearest r ((same r).1 m);
  }

  -- so one is in line where the other is
  pub in_line_kept : ((t : Node) → Member t b → StandsFor a t) → InLine a → InLine b
  in_line_kept f l = record {
    neighbours = λ t m d.
        let w = f t m in
        let n = next_same d (number w.node) (neighbour d w.node.station) (l.neighbours w.node w.member d) in
        subst (IsNext b d (number t)) (sym (w.sides d)) (subst (λ (x : ℕ). IsNext b d x (neighbour d w.node.station)) (sym w.named) n);
    quiet = λ t m d k. let w = f t m in l.quiet w.node w.member d (w.removals d k);
    staying = λ t m. let w = f t m in w.mark ∙ l.staying w.node w.member;
  }
