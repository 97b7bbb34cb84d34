-- Who holds a station, asked of the stations in the arrays one after another.
use Prim.Native.Nat.{ℕ, zero, suc, ◌≤◌, ◌<◌}
use mathlib.Core.Path.{◌≡◌, refl, sym, ap, ◌∙◌}
use mathlib.Core.Logic.{◌⊎◌, ⊎_elim, inl, inr}
use mathlib.Core.Bool.{Bool, true, false, cond, ◌&&◌}
use mathlib.Core.List.{List}
use native.Mathlib.Numerals.{add-one}
use native.Mathlib.Omega.{arith}
use lib.ListN.{length, get_or, take}
use Rattle.std.proofs.Common.{Option, None, Some}
use Rattle.std.specs.Option.{MatchOption, unwrap_or}
use Rattle.lists.specs.Places.{first_at}
use Rattle.line.specs.declared.Action.{Action}
use Rattle.line.specs.Node.{Node, number, nobody}
use Rattle.line.specs.Leave.{is_holder, leave_of}
use Rattle.line.proofs.Places.{place}
use Rattle.index.specs.Index.{number_in, numbers_in}
use Rattle.arrays.specs.declared.Arrays.{Arrays}
use Rattle.arrays.specs.Arrays.{node_at, line_in}
use Rattle.arrays.proofs.Lines.{slot_of}
use Rattle.moves.specs.Holders.{is_exit, may_hold, leave_from}
use Rattle.moves.proofs.Holding.{NoneTo, none_yet, none_next, holder_found, none_holds, leave_counted_lem, entry_ranged, holds_not}
use Rattle.effects.proofs.Stores.{Consistent, BetweenSteps, consistent_length, consistent_place}

-- j of the stations that are asked do not hold p; no more are asked than there are
pub record Asking (a : Arrays) (p asked j : ℕ) : Type 0 where
  pub consistent : Consistent a
  pub few : asked ≤ a.n
  pub none : NoneTo p (line_in a) j

-- whether the station at place j is found to hold p: its bag is looked at where its fields and its count do not tell
abbrev pub holds : Arrays → ℕ → ℕ → Bool
holds a p j = may_hold p (get_or a.stations (slot_of a j) nobody.station) (get_or a.counts (slot_of a j) 0) && is_holder p (node_at a (slot_of a j))

module _ {a : Arrays} (t : Consistent a) (p : ℕ) where
  holds_is : (j : ℕ) → j < a.n → holds a p j ≡ is_holder p (place (line_in a) j)
  holds_is j h =
      let node = node_at a (slot_of a j) in
      let count = get_or a.counts (slot_of a j) 0 in
      let size : count ≡ length node.bag = t.tallied j h ∙ ap (λ (s : Node). length s.bag) (consistent_place t j h) in
      looked_at (may_hold p node.station count) (is_holder p node) (holds_not p node.station node.bag count size) ∙ ap (is_holder p) (sym (consistent_place t j h))
    where
      looked_at : (b h : Bool) → (b ≡ false → h ≡ false) → (b && h) ≡ h
      looked_at true h e = refl
      looked_at false h e = sym (e refl)

  none_before : (j : ℕ) → j ≤ a.n → ((k : ℕ) → k < j → holds a p k ≡ false) → NoneTo p (line_in a) j
  none_before zero h unheld = none_yet
  none_before (suc j) h unheld =
      rw (← add-one j)
      (none_next (none_before j (omega arith) (λ k l. unheld k (omega arith))) (omega (arith, consistent_length t)) (sym (holds_is j (omega arith)) ∙ unheld j (omega arith)))

-- the walk came to the end, or stopped at a station that holds p
abbrev pub WalkEnded : Arrays → ℕ → ℕ → ℕ → Type 0
WalkEnded a p asked j = (asked ≤ j) ⊎ ((j < asked) × (is_holder p (node_at a (slot_of a j)) ≡ true))

-- the first that is found to hold p, of those that are asked
abbrev pub FirstFound : Arrays → ℕ → ℕ → Option ℕ → Type 0
FirstFound a p asked o = MatchOption o ((k : ℕ) → 0 ≤ k → k < asked → holds a p k ≡ false)
    (λ i. (0 ≤ i) × (i < asked) × (holds a p i ≡ true) × ((k : ℕ) → 0 ≤ k → k < i → holds a p k ≡ false))

pub walked : {a : Arrays} (p : ℕ) (x : Action) {asked j : ℕ} → Consistent a → asked ≡ cond (is_exit x) a.n 0 → (o : Option ℕ) → FirstFound a p asked o → j ≡ unwrap_or o asked
    → Asking a p asked j × WalkEnded a p asked j
walked {a} p x {asked} {j} t e o f u = go o f u
  where
    few : (b : Bool) {r : ℕ} → r ≡ cond b a.n 0 → r ≤ a.n
    few true e = omega arith
    few false e = omega arith

    all : asked ≤ a.n
    all = few (is_exit x) e

    go : (o : Option ℕ) → FirstFound a p asked o → {j : ℕ} → j ≡ unwrap_or o asked → Asking a p asked j × WalkEnded a p asked j
    go None unheld u = rw u (record { consistent = t; few = all; none = none_before t p asked all (λ k l. unheld k (omega arith) l) }, inl (omega arith))
    go (Some i) w u =
        let inside : i ≤ a.n = omega (arith, w.1, all) in
        rw u (
          record { consistent = t; few = all; none = none_before t p i inside (λ k l. w.3 k (omega arith) l) },
          inr (w.1, ap (is_holder p) (sym (consistent_place t i (omega (arith, w.1, all)))) ∙ sym (holds_is t p i (omega (arith, w.1, all))) ∙ w.2),
        )

-- so an exit knows whether the station at place i may leave, and what holds it
pub asked_leave : {a : Arrays} {asked j : ℕ} (i : ℕ) → i < a.n → (x : Action) → is_exit x ≡ true → asked ≡ cond (is_exit x) a.n 0
    → Asking a (number (node_at a (slot_of a i))) asked j → WalkEnded a (number (node_at a (slot_of a i))) asked j
    → leave_from (numbers_in (take a.n a.index)) (get_or a.counts (slot_of a i) 0) j ≡ leave_of (line_in a) (node_at a (slot_of a i))
asked_leave {a} {asked} {j} i h x e all-Asked k came =
    let node = node_at a (slot_of a i) in
    let t = k.consistent in
    let all : asked ≡ a.n = all-Asked ∙ rw e in
    let size : get_or a.counts (slot_of a i) 0 ≡ length node.bag = t.tallied i h ∙ ap (λ (s : Node). length s.bag) (consistent_place t i h) in
    ap (λ (l : List ℕ). leave_from l (get_or a.counts (slot_of a i) 0) j) t.numbered
    ∙ leave_counted_lem (line_in a) node (rw t.numbered at t.rising) (get_or a.counts (slot_of a i) 0) j size (first all came)
  where
    first : asked ≡ a.n → WalkEnded a (number (node_at a (slot_of a i))) asked j → j ≡ first_at (is_holder (number (node_at a (slot_of a i)))) (line_in a)
    first all =
        ⊎_elim (λ e. none_holds k.none (omega (arith, consistent_length k.consistent)))
        (λ e. holder_found k.none (omega (arith, e.0, consistent_length k.consistent)) (ap (is_holder (number (node_at a (slot_of a i)))) (consistent_place k.consistent j (omega (arith, e.0))) ∙ e.1))

-- and what the index tells of the holder is a station number
pub holder_fits : {a : Arrays} → BetweenSteps a → (j : ℕ) → j < length (take a.n a.index) → number_in (get_or (take a.n a.index) j 0) ≤ 999999
holder_fits {a} b = entry_ranged (line_in a) (take a.n a.index) b.sound.accepted b.consistent.numbered
