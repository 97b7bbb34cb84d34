-- The actions of the station at place i, one record behind another.
use Prim.Native.Nat.{ℕ, zero, suc, ◌+◌, ◌%◌, ◌≤◌, ◌<◌}
use mathlib.Core.Path.{◌≡◌, refl, sym, ap, ◌∙◌}
use mathlib.Core.Bool.{Bool, true, false, cond}
use mathlib.Core.List.{List, [], ◌∷◌, ◌++◌, map, map-append, append_assoc}
use native.Mathlib.Omega.{arith}
use lib.Dec.{eqb, leb}
use lib.ListN.{length, get_or, take, length-map, length-append, get_or-append}
use lib.Seq.{get_or-take, get_or-append-add}
use borrow.Author.Tests.{ne_eqb, eqb-true, eqb-false, leb-true, leb-false}
use Rattle.lists.proofs.Elements.{map_at}
use Rattle.line.specs.declared.Action.{Action}
use Rattle.line.specs.declared.Action.TheVariants.{Deliver, Exit}
use Rattle.line.specs.declared.Content.TheVariants.{Introduction, RemoveLeft, RemoveRight}
use Rattle.line.specs.declared.Side.TheVariants.{Left, Right}
use Rattle.line.specs.Message.{introduction, removal}
use Rattle.next_steps.specs.Allowed.{messages_of, actions_of}
use Rattle.allowed.specs.Parts.{action_with}

-- the actions by their places: b has the numbers of n introductions
module _ (b : List ℕ) (n : ℕ) (long : n ≡ length (take n b)) (few : n ≤ 64) where
  abbrev all : List Action
  all = actions_of (take n b)

  pub actions_long : length all ≡ n + 4
  unfolding actions_of messages_of
  actions_long =
      ap suc (length-append (map Deliver (map introduction (take n b) ++ (removal Left ∷ removal Right ∷ []))) (Exit ∷ []))
      ∙ omega (
        arith,
        length-map (map introduction (take n b) ++ (removal Left ∷ removal Right ∷ [])) Deliver,
        length-append (map introduction (take n b)) (removal Left ∷ removal Right ∷ []),
        length-map (take n b) introduction,
        long,
      )

  -- an introduction stands behind the timeout, then the removals and the exit
  pub action_place : (k : ℕ) → k < n + 4 → action_with (get_or b ((k + 63) % 64) 0) n k ≡ get_or all k Exit
  unfolding actions_of messages_of removal
  action_place zero h = refl
  action_place (suc k) h = rw (ne_eqb (suc k) 0 (λ (e : suc k ≡ 0). omega arith)) (go (leb (suc k) n) refl)
    where
      front : List Action
      front = map Deliver (map introduction (take n b))

      tail : List Action
      tail = Deliver (record { content = RemoveLeft }) ∷ Deliver (record { content = RemoveRight }) ∷ Exit ∷ []

      split : map Deliver (map introduction (take n b) ++ (removal Left ∷ removal Right ∷ [])) ++ (Exit ∷ []) ≡ front ++ tail
      split = rw (map-append Deliver (map introduction (take n b)) (removal Left ∷ removal Right ∷ []), append_assoc)

      front_long : length front ≡ n
      front_long = length-map (map introduction (take n b)) Deliver ∙ length-map (take n b) introduction ∙ sym long

      later : (j : ℕ) → j < 3 → k ≡ n + j → get_or (front ++ tail) k Exit ≡ get_or tail j Exit
      later j p e = let z : k ≡ length front + j = omega (arith, front_long) in ap (λ (i : ℕ). get_or (front ++ tail) i Exit) z ∙ get_or-append-add front tail j Exit

      after : (s t : Bool) → eqb (suc k) (n + 1) ≡ s → eqb (suc k) (n + 2) ≡ t → n < suc k
          → cond s (Deliver (record { content = RemoveLeft })) (cond t (Deliver (record { content = RemoveRight })) Exit) ≡ get_or (front ++ tail) k Exit
      after true t e f p = sym (later 0 (omega arith) (omega (arith, eqb-true (suc k) (n + 1) e)))
      after false true e f p = sym (later 1 (omega arith) (omega (arith, eqb-true (suc k) (n + 2) f)))
      after false false e f p = sym (later 2 (omega arith) (omega (arith, eqb-false (suc k) (n + 1) e, eqb-false (suc k) (n + 2) f)))

      go : (t : Bool) → leb (suc k) n ≡ t
          → cond t (Deliver (record { content = Introduction (get_or b ((suc k + 63) % 64) 0) }))
          (cond (eqb (suc k) (n + 1)) (Deliver (record { content = RemoveLeft })) (cond (eqb (suc k) (n + 2)) (Deliver (record { content = RemoveRight })) Exit))
          ≡ get_or (map Deliver (map introduction (take n b) ++ (removal Left ∷ removal Right ∷ [])) ++ (Exit ∷ [])) k Exit
      go true e =
          let p = leb-true (suc k) n e in
          let z : (suc k + 63) % 64 ≡ k = omega arith in
          rw split
          (sym
          (get_or-append front tail Exit k (omega (arith, front_long))
          ∙ map_at Deliver (map introduction (take n b)) k (introduction 0) Exit (omega (arith, length-map (take n b) introduction, long))
          ∙ ap Deliver (map_at introduction (take n b) k 0 (introduction 0) (omega (arith, long)) ∙ ap introduction (get_or-take n b k 0 p ∙ ap (λ (j : ℕ). get_or b j 0) (sym z)))))
      go false e = rw split (after (eqb (suc k) (n + 1)) (eqb (suc k) (n + 2)) refl refl (leb-false (suc k) n e))
