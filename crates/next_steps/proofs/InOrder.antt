-- The list is in order: by rising station number, and within a station by the actions, of which none stands twice.
use Prim.Native.Nat.{ℕ, ◌<◌}
use mathlib.Core.Path.{◌≡◌, refl, sym, ap, subst}
use mathlib.Core.Logic.{inl, inr, ⊎_elim}
use mathlib.Core.Bool.{true}
use mathlib.Core.List.Memᴰ
use mathlib.Core.List.{List, [], ◌∷◌, ◌++◌, map}
use mathlib.Core.List.{Memᴰ as Member}
use native.Mathlib.Omega.{arith}
use borrow.Author.Tests.{lt-ltb}
use Rattle.lists.specs.Numbers.{Pairwise, Rising}
use Rattle.lists.proofs.Lists.{map-mem}
use Rattle.lists.proofs.Keeping.{kept_pairwise}
use Rattle.lists.proofs.Pairwise.{pairwise_append, pairwise_map}
use Rattle.line.specs.declared.Action.{Action}
use Rattle.line.specs.declared.Action.TheVariants.{Timeout, Deliver, Exit}
use Rattle.line.specs.declared.Message.{Message}
use Rattle.line.specs.declared.Side.TheVariants.{Left, Right}
use Rattle.line.specs.declared.Step.{Step}
use Rattle.line.specs.Message.{introduction, removal, precedes}
use Rattle.line.specs.Node.{Line, numbers}
use Rattle.table.specs.Blocks.{line_of}
use Rattle.table.proofs.Accepting.{table_accepted}
use Rattle.next_steps.specs.Allowed.{messages_of, actions_of, step_by, each_with, candidates, is_allowed, allowed_steps}
use Rattle.next_steps.specs.Claims.{EarlierAction, Earlier, ListedInOrder}
use Rattle.next_steps.proofs.Candidates.{each_has}

abbrev Before : Message → Message → Type 0
Before m k = precedes m k ≡ true

introductions_rise : (a b : ℕ) → a < b → Before (introduction a) (introduction b)
unfolding precedes
introductions_rise a b h = lt-ltb a b h

removals_rise : Pairwise Before (removal Left ∷ removal Right ∷ [])
unfolding precedes removal
removals_rise = (λ k i. subst (Before (removal Left)) (sym (Memᴰ.eq_of_singleton i)) refl, (λ k i. absurd (Memᴰ.not-nil i), tt))

module _ (l : List ℕ) where
  before_removals : (m k : Message) → Member m (map introduction l) → Member k (removal Left ∷ removal Right ∷ []) → Before m k
  unfolding precedes removal
  before_removals m k i j =
      let w = map-mem introduction l i in
      subst (λ (z : Message). Before z k) (sym w.2)
      (⊎_elim (λ (e : k ≡ removal Left). subst (Before (introduction w.0)) (sym e) refl)
      (λ n. subst (Before (introduction w.0)) (sym (Memᴰ.eq_of_singleton n)) refl) (Memᴰ.cases_cons j))

  messages_rise : Rising l → Pairwise Before (messages_of l)
  unfolding messages_of
  messages_rise r =
      pairwise_append Before (map introduction l) (removal Left ∷ removal Right ∷ [])
      (pairwise_map (λ (a b : ℕ). a < b) Before introduction introductions_rise l r) removals_rise before_removals

module _ (l : List Message) where
  behind_timeout : (a : Action) → Member a (map Deliver l ++ (Exit ∷ [])) → EarlierAction Timeout a
  behind_timeout a k =
      ⊎_elim (λ i. let w = map-mem Deliver l i in subst (EarlierAction Timeout) (sym w.2) tt)
      (λ i. subst (EarlierAction Timeout) (sym (Memᴰ.eq_of_singleton i)) tt) (Memᴰ.append_cases (map Deliver l) k)

  before_exit : (a e : Action) → Member a (map Deliver l) → Member e (Exit ∷ []) → EarlierAction a e
  before_exit a e k i =
      let w = map-mem Deliver l k in
      subst (EarlierAction a) (sym (Memᴰ.eq_of_singleton i)) (subst (λ (c : Action). EarlierAction c Exit) (sym w.2) tt)

  deliveries_rise : Pairwise Before l → Pairwise EarlierAction (map Deliver l)
  deliveries_rise r = pairwise_map Before EarlierAction Deliver (λ m k h. h) l r

actions_rise : (l : List ℕ) → Rising l → Pairwise EarlierAction (actions_of l)
unfolding actions_of
actions_rise l r =
    let k = messages_of l in (
      behind_timeout k,
      pairwise_append EarlierAction (map Deliver k) (Exit ∷ []) (deliveries_rise k (messages_rise l r)) (λ a i. absurd (Memᴰ.not-nil i), tt) (before_exit k),
    )

each_rises : (actions : List Action) → Pairwise EarlierAction actions → (line : Line) → Rising (numbers line) → Pairwise Earlier (each_with actions line)
unfolding each_with
each_rises actions o [] r = tt
each_rises actions o (s ∷ line) r =
    pairwise_append Earlier (map (step_by s) actions) (each_with actions line)
    (pairwise_map EarlierAction Earlier (step_by s) (λ a c h. inr (refl, h)) actions o)
    (each_rises actions o line r.1)
    (λ x y m k.
    let w = map-mem (step_by s) actions m in
    inl (omega (arith, ap (λ (z : Step). z.station) w.2, r.0 y.station (each_has actions line k).0)))

pub listed_in_order : ListedInOrder
unfolding allowed_steps
listed_in_order t h =
    let line = line_of t in
    let r = (table_accepted t h).2.rising in
    kept_pairwise (is_allowed line) Earlier (candidates line) (each_rises (actions_of (numbers line)) (actions_rise (numbers line) r) line r)
