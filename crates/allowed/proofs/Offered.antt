-- The records of the allowed steps of a list: of one step, and of lists side by side.
use Prim.Native.Nat.{ℕ, ◌+◌, ◌≤◌}
use mathlib.Core.Path.{◌≡◌, refl, sym, ap, ◌∙◌}
use mathlib.Core.Bool.{Bool, true, false, cond}
use mathlib.Core.List.{List, [], ◌∷◌, ◌++◌, map, map-append, map-map, append_assoc}
use mathlib.Core.List.{Memᴰ as Member}
use lib.ListN.{length}
use Rattle.lists.specs.Lists.{keep}
use Rattle.lists.proofs.Keeping.{kept_append, kept_fewer}
use Rattle.line.specs.declared.Action.{Action}
use Rattle.line.specs.declared.Action.TheVariants.{Timeout, Deliver, Exit}
use Rattle.line.specs.declared.Side.TheVariants.{Left, Right}
use Rattle.line.specs.declared.Step.{Step}
use Rattle.line.specs.Message.{introduction, removal}
use Rattle.line.specs.Node.{Node, Line}
use Rattle.octets.specs.Bytes.{overwrite}
use Rattle.steps.specs.Steps.{step_bytes, list_bytes}
use Rattle.steps.proofs.Records.{step_size, list_append}
use Rattle.words.specs.Writing.{Wrote}
use Rattle.words.proofs.Written.{wrote_none}
use Rattle.next_steps.specs.Allowed.{messages_of, actions_of, step_by, is_allowed}
use Rattle.allowed.specs.Parts.{offered}

-- one step's record, or nothing
module _ (x : Step) {allowed : Bool} {l : List ℕ} {at : ℕ} where
  pub record_put : allowed ≡ true → (allowed ≡ true → at + 12 ≤ length l) → {m : List ℕ} → m ≡ overwrite at (step_bytes x) l → Wrote l at (cond allowed (step_bytes x) []) (at + 12) m
  record_put e h f = rw e (record { ends = ap (λ (n : ℕ). at + n) (sym (step_size x)); fits = h e; holds = f })

  pub record_not : allowed ≡ false → at ≤ length l → Wrote l at (cond allowed (step_bytes x) []) at l
  record_not e h = rw e (wrote_none h)

module _ (line : Line) where
  pub offered_one : (x : Step) (l : List Step) → offered line (x ∷ l) ≡ cond (is_allowed line x) (step_bytes x) [] ++ offered line l
  unfolding offered keep list_bytes
  offered_one x l = go (is_allowed line x)
    where
      go : (b : Bool) → list_bytes (cond b (x ∷ keep (is_allowed line) l) (keep (is_allowed line) l)) ≡ cond b (step_bytes x) [] ++ list_bytes (keep (is_allowed line) l)
      go true = refl
      go false = refl

  pub offered_append : (a b : List Step) → offered line (a ++ b) ≡ offered line a ++ offered line b
  unfolding offered
  offered_append a b = ap list_bytes (kept_append (is_allowed line) a b) ∙ list_append (keep (is_allowed line) a) (keep (is_allowed line) b)

  pub offered_none : offered line [] ≡ []
  unfolding offered keep list_bytes
  offered_none = refl

  -- the introductions of stations that a test leaves out play no part where they are not allowed
  module _ (s : Node) where
    abbrev introduce : ℕ → Step
    introduce q = step_by s (Deliver (introduction q))

    abbrev others : List Step
    others = step_by s (Deliver (removal Left)) ∷ step_by s (Deliver (removal Right)) ∷ step_by s Exit ∷ []

    pieces : (l : List ℕ) → map (step_by s) (actions_of l) ≡ step_by s Timeout ∷ (map introduce l ++ others)
    unfolding actions_of messages_of
    pieces l =
        let removals = removal Left ∷ removal Right ∷ [] in
        let front = map Deliver (map introduction l) in
        let back = Deliver (removal Left) ∷ Deliver (removal Right) ∷ Exit ∷ [] in
        let apart : map Deliver (map introduction l ++ removals) ++ (Exit ∷ []) ≡ front ++ back =
        ap (λ (x : List Action). x ++ (Exit ∷ [])) (map-append Deliver (map introduction l) removals) ∙ append_assoc front (map Deliver removals) (Exit ∷ []) in
        let by : map (step_by s) front ≡ map introduce l = ap (map (step_by s)) (map-map Deliver introduction l) ∙ map-map (step_by s) (λ (q : ℕ). Deliver (introduction q)) l in
        ap (λ (x : List Step). step_by s Timeout ∷ x) (ap (map (step_by s)) apart ∙ map-append (step_by s) front back ∙ ap (λ (x : List Step). x ++ others) by)

    in_pieces : (l : List ℕ) → offered line (map (step_by s) (actions_of l)) ≡ cond (is_allowed line (step_by s Timeout)) (step_bytes (step_by s Timeout)) [] ++ (offered line (map introduce l) ++ offered line others)
    in_pieces l =
        ap (offered line) (pieces l) ∙ offered_one (step_by s Timeout) (map introduce l ++ others)
        ∙ ap (λ (x : List ℕ). cond (is_allowed line (step_by s Timeout)) (step_bytes (step_by s Timeout)) [] ++ x) (offered_append (map introduce l) others)

    pub offered_fewer : (p : ℕ → Bool) (l : List ℕ) → ((q : ℕ) → Member q l → p q ≡ false → is_allowed line (introduce q) ≡ false)
        → offered line (map (step_by s) (actions_of (keep p l))) ≡ offered line (map (step_by s) (actions_of l))
    unfolding offered
    offered_fewer p l h = in_pieces (keep p l) ∙ ap (λ (x : List ℕ). cond (is_allowed line (step_by s Timeout)) (step_bytes (step_by s Timeout)) [] ++ (x ++ offered line others)) (ap list_bytes (kept_fewer (is_allowed line) introduce p l h)) ∙ sym (in_pieces l)
