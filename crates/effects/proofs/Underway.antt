-- The steps of a list one after another: what is done, what is left, and how the run ends.
use Prim.Native.Nat.{ℕ, ◌+◌, ◌*◌, ◌/◌, ◌≤◌, ◌<◌}
use Rattle.std.specs.Prelude.{Ok, Err}
use Rattle.line.specs.Types.{Reading}
use mathlib.Core.Path.{◌≡◌, refl, sym, ◌∙◌}
use mathlib.Core.List.{List}
use native.Mathlib.Omega.{arith}
use lib.Dec.{eqb}
use lib.ListN.{length, take}
use Rattle.lists.specs.Places.{first_at}
use Rattle.lists.proofs.Numbers.{found_member}
use Rattle.line.specs.declared.Step as steps-are
use Rattle.line.specs.declared.Refusal.{Refusal}
use Rattle.line.specs.declared.Refusal.TheVariants.{Absent}
use Rattle.line.specs.Answer.{Answer, refused, done, ◌>>=◌}
use Rattle.line.specs.Node.{Line, Present}
use Rattle.line.specs.Step.{step}
use Rattle.line.specs.Run.{try, Run, run}
use Rattle.line.proofs.Runs.{ahead, ended, readings_from, readings_start, readings_end, readings_stop, readings_go}
use Rattle.line.proofs.Changes.{find_nowhere}
use Rattle.index.specs.Index.{numbers_in}
use Rattle.index.proofs.Entries.{numbers_length}
use Rattle.table.specs.Blocks.{line_of}
use Rattle.table.specs.Fault.{fault_of}
use Rattle.arrays.specs.declared.Arrays.{Arrays}
use Rattle.arrays.specs.Arrays.{line_in}
use Rattle.arrays.specs.Reading.{arrays_of}
use Rattle.table.proofs.Lines.{clean_few}
use Rattle.arrays.proofs.Tables.{line_of_table}
use Rattle.steps.specs.Steps.{step_at, steps_of}
use Rattle.effects.proofs.Stores.{BetweenSteps, consistent_taken}
use Rattle.effects.proofs.Starting.{starts_between}

-- k of all steps are done, the arrays hold what they left, and the room, which takes them, is as it was: the whole run is what is left to
-- do, k steps ahead
pub record Underway (table steps room₀ room : List ℕ) (total : ℕ) (a : Arrays) (k : ℕ) : Type 0 where
  pub still : room ≡ room₀
  pub long : length room ≡ length room₀
  pub enough : 512 * a.n ≤ length room
  pub within : k ≤ total
  pub list : total ≤ 4096
  pub between : BetweenSteps a
  pub same : run (line_of table) (steps_of steps) ≡ ahead k (run (line_in a) (readings_from (step_at steps) total k))

-- a run over an accepted table begins
pub underway_start : {t steps room : List ℕ} {a : Arrays} → fault_of t ≡ 0 → length steps / 12 ≤ 4096 → length t ≤ length room → a ≡ arrays_of t
    → Underway t steps room room (length steps / 12) a 0
unfolding steps_of
underway_start {t} {steps} clean few wide p = rw p (record {
  still = refl;
  long = refl;
  enough = omega arith;
  within = omega arith;
  list = few;
  between = starts_between t clean;
  same = rw (line_of_table t (clean_few t clean)) (readings_start (step_at steps) (length steps / 12) (line_of t));
})

module _ {table steps room₀ room : List ℕ} {total : ℕ} {a : Arrays} {k : ℕ} (g : Underway table steps room₀ room total a k) where
  abbrev line : Line
  line = line_in a

  abbrev whole : Run
  whole = run (line_of table) (steps_of steps)

  -- no step is left
  pub underway_end : total ≤ k → ended (Ok tt) total line ≡ whole
  underway_end h =
      let w = g.within in
      let all : total ≡ k = omega arith in
      rw all (readings_end (step_at steps) total k line g.same h)

  module _ (h : k < total) where
    halts : (f : Refusal) → try line (step_at steps k) ≡ refused f → ended (Err f) k line ≡ whole
    halts = readings_stop (step_at steps) total k line g.same h

    -- the next step cannot be read
    pub underway_unread : (why : Refusal) → step_at steps k ≡ Err why → ended (Err why) k line ≡ whole
    unfolding try
    underway_unread why e = halts why (rw e)

    module _ (x : steps-are.Step) {r : Reading} (p : r ≡ step_at steps k) (q : r ≡ Ok x) where
      tried : {b : Answer Line} → step line x ≡ b → try line (step_at steps k) ≡ b
      unfolding try
      tried e = rw (sym p ∙ q) e

      -- it is refused
      pub underway_refused : {f : Refusal} → step line x ≡ refused f → ended (Err f) k line ≡ whole
      underway_refused {f} e = halts f (tried e)

      -- no station has its number
      pub underway_absent : {i : ℕ} → i ≡ first_at (eqb x.station) (numbers_in (take a.n a.index)) → a.n ≤ i → ended (Err Absent) k line ≡ whole
      unfolding step ◌>>=◌
      underway_absent {i} e f =
          let t = g.between.consistent in
          let entries = take a.n a.index in
          let nowhere : Present line x.station → ⊥ =
          λ m. omega (arith, (found_member (numbers_in entries) x.station).1 (rw t.numbered m), numbers_length entries, consistent_taken t, e, f) in
          underway_refused (rw (find_nowhere x.station line nowhere))

      -- it is done
      pub underway_next : {after : Arrays} → after.n ≤ a.n → (step line x ≡ done (line_in after)) × BetweenSteps after → Underway table steps room₀ room total after (k + 1)
      underway_next {after} fewer e = record {
        still = g.still;
        long = g.long;
        enough = omega (arith, g.enough);
        within = omega arith;
        list = g.list;
        between = e.1;
        same = readings_go (step_at steps) total k line g.same h (line_in after) (tried e.0);
      }
