-- What a step keeps of its own station and of each that receives, it keeps of every node of the line.
use Prim.Native.Nat.{ℕ}
use Rattle.std.specs.Prelude.{Option, Some, None}
use mathlib.Core.Path.{◌≡◌, refl}
use mathlib.Core.List.{List, [], ◌∷◌, map}
use mathlib.Core.List.Memᴰ.{head as here}
use mathlib.Core.List.Memᴰ.{tail as there}
use mathlib.Core.List.{Memᴰ as Member}
use Rattle.line.specs.Node.{Node, Line, number}
use Rattle.line.specs.Act.{Send, Effect}
use Rattle.line.specs.Step.{change, replace, with_message, send_all}
use Rattle.line.proofs.Changes.{changed_all, without_mem}

module _ (Q : Node → Type 0) where
  abbrev pub Everywhere : Line → Type 0
  Everywhere line = (t : Node) → Member t line → Q t

  -- of the node that a step leaves, where it leaves one
  abbrev pub IfThere : Option Node → Type 0
  IfThere None = Unit {0}
  IfThere (Some u) = Q u

  -- of its own node, and of each node that receives
  pub record KeptIn (e : Effect) : Type 0 where
    pub own : IfThere e.after
    pub receivers : (m : Send) → Member m e.sends → (t : Node) → number t ≡ m.to → Q t → Q (with_message m.message t)

  sent_everywhere : (l : List Send) → ((m : Send) → Member m l → (t : Node) → number t ≡ m.to → Q t → Q (with_message m.message t))
      → (line : Line) → Everywhere line → Everywhere (send_all l line)
  unfolding send_all
  sent_everywhere [] k line f = f
  sent_everywhere (m ∷ l) k line f =
      sent_everywhere l (λ n i. k n (there i)) (map (change m.to (with_message m.message)) line)
      (changed_all m.to (with_message m.message) Q line f (λ t i e. k m (here refl) t e (f t i)))

  replaced_everywhere : (n : ℕ) (o : Option Node) (line : Line) → IfThere o → Everywhere line → Everywhere (replace n o line)
  unfolding replace
  replaced_everywhere n None line own f = λ t m. f t (without_mem n line m).0
  replaced_everywhere n (Some u) line own f = changed_all n (λ (t : Node). u) Q line f (λ t m e. own)

  pub kept_everywhere : (line : Line) (n : ℕ) (e : Effect) → KeptIn e → Everywhere line → Everywhere (send_all e.sends (replace n e.after line))
  kept_everywhere line n e k f = sent_everywhere e.sends k.receivers (replace n e.after line) (replaced_everywhere n e.after line k.own f)
