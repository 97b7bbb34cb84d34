-- A step is a candidate exactly when its station has a block, and so has the station that it introduces, where it delivers an introduction.
use Prim.Native.Nat.{ℕ}
use mathlib.Core.Path.{◌≡◌, refl, sym, ap, subst}
use mathlib.Core.Logic.{⊎_elim}
use mathlib.Core.List.Memᴰ
use mathlib.Core.List.{List, [], ◌∷◌, map}
use mathlib.Core.List.Memᴰ.{head as here}
use mathlib.Core.List.Memᴰ.{tail as there}
use mathlib.Core.List.{Memᴰ as Member}
use Rattle.lists.proofs.Lists.{mem-map, map-mem}
use Rattle.line.specs.declared.Content.{Content}
use Rattle.line.specs.declared.Content.TheVariants.{Introduction, RemoveLeft, RemoveRight}
use Rattle.line.specs.declared.Action.{Action}
use Rattle.line.specs.declared.Action.TheVariants.{Timeout, Deliver, Exit}
use Rattle.line.specs.declared.Message.{Message}
use Rattle.line.specs.declared.Side.TheVariants.{Left, Right}
use Rattle.line.specs.declared.Step.{Step}
use Rattle.line.specs.Message.{introduction, removal}
use Rattle.line.specs.Node.{Line, numbers, Present}
use Rattle.next_steps.specs.Allowed.{messages_of, actions_of, step_by, each_with, candidates}

-- the number that is carried, where there is one, is one of the list
abbrev pub Carries : List ℕ → Content → Type 0
Carries l (Introduction q) = Member q l
Carries l RemoveLeft = Unit {0}
Carries l RemoveRight = Unit {0}

abbrev pub Names : List ℕ → Action → Type 0
Names l Timeout = Unit {0}
Names l (Deliver m) = Carries l m.content
Names l Exit = Unit {0}

module _ (l : List ℕ) where
  message_carries : {m : Message} → Member m (messages_of l) → Carries l m.content
  unfolding messages_of removal
  message_carries {m} k =
      ⊎_elim (λ i. let w = map-mem introduction l i in subst known (sym w.2) w.1)
      (λ i. ⊎_elim (λ (e : m ≡ removal Left). subst known (sym e) tt) (λ j. subst known (sym (Memᴰ.eq_of_singleton j)) tt) (Memᴰ.cases_cons i))
      (Memᴰ.append_cases (map introduction l) k)
    where
      known : Message → Type 0
      known m = Carries l m.content

  carried_message : (c : Content) → Carries l c → Member (record { content = c }) (messages_of l)
  unfolding messages_of removal
  carried_message (Introduction q) k = Memᴰ.append_left (removal Left ∷ removal Right ∷ []) (mem-map introduction k)
  carried_message RemoveLeft k = Memᴰ.append_right (map introduction l) (here refl)
  carried_message RemoveRight k = Memᴰ.append_right (map introduction l) (there (here refl))

  action_names : {a : Action} → Member a (actions_of l) → Names l a
  unfolding actions_of
  action_names {a} k =
      ⊎_elim (λ (e : a ≡ Timeout). subst (Names l) (sym e) tt)
      (λ i. ⊎_elim (λ j. let w = map-mem Deliver (messages_of l) j in subst (Names l) (sym w.2) (message_carries w.1))
      (λ j. subst (Names l) (sym (Memᴰ.eq_of_singleton j)) tt) (Memᴰ.append_cases (map Deliver (messages_of l)) i))
      (Memᴰ.cases_cons k)

  named_action : (a : Action) → Names l a → Member a (actions_of l)
  unfolding actions_of
  named_action Timeout h = here refl
  named_action (Deliver m) h = there (Memᴰ.append_left (Exit ∷ []) (mem-map Deliver (carried_message m.content h)))
  named_action Exit h = there (Memᴰ.append_right (map Deliver (messages_of l)) (here refl))

-- each station with each action
module _ (actions : List Action) where
  pub each_has : (line : Line) {x : Step} → Member x (each_with actions line) → Present line x.station × Member x.action actions
  unfolding each_with
  each_has [] k = absurd (Memᴰ.not-nil k)
  each_has (s ∷ line) {x} k =
      ⊎_elim
      (λ i. let w = map-mem (step_by s) actions i in
      (here (ap (λ (y : Step). y.station) w.2), rw (ap (λ (y : Step). y.action) w.2) w.1))
      (λ i. let w = each_has line i in (there w.0, w.1))
      (Memᴰ.append_cases (map (step_by s) actions) k)

  has_each : (line : Line) (x : Step) → Present line x.station → Member x.action actions → Member x (each_with actions line)
  unfolding each_with
  has_each [] x x4 k = elim x4 [ ]
  has_each (s ∷ line) x (here e) k =
      let is : x ≡ step_by s x.action = λ i. record { station = e i; action = x.action } in
      Memᴰ.append_left (each_with actions line) (Memᴰ.cast is (mem-map (step_by s) k))
  has_each (s ∷ line) x (there m) k = Memᴰ.append_right (map (step_by s) actions) (has_each line x m k)

pub candidate_names : (line : Line) {x : Step} → Member x (candidates line) → Present line x.station × Names (numbers line) x.action
candidate_names line k = let w = each_has (actions_of (numbers line)) line k in (w.0, action_names (numbers line) w.1)

pub named_candidate : (line : Line) (x : Step) → Present line x.station → Names (numbers line) x.action → Member x (candidates line)
named_candidate line x p h = has_each (actions_of (numbers line)) line x p (named_action (numbers line) x.action h)
