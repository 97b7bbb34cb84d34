-- The situations and the further examples hold: each is computed. So are the lines with what is said of their stations.
use mathlib.Core.Path.{◌≡◌, refl, sym, subst, ap, ◌∙◌}
use Rattle.std.specs.Prelude.{Ok, Err}
use Rattle.line.specs.Types.{Leave}
use mathlib.Core.Logic.{◌↔◌}
use mathlib.Core.Bool.{Bool, true, false}
use mathlib.Core.List.Memᴰ
use mathlib.Core.List.{List, [], ◌∷◌, map, Memᴰ}
use Prim.Native.Nat.{ℕ}
use lib.Dec.{eqb}
use borrow.Author.Tests.{eqb-true, eq-eqb}
use Rattle.lists.specs.Lists.{all, any, insert, remove_first}
use Rattle.lists.proofs.Lists.{clash, any_true, true_any}
use Rattle.line.specs.Answer.{◌>>=◌, require, unless_held}
use Rattle.line.specs.Message.{removal, same, precedes}
use Rattle.line.specs.Marks.{marks_hold}
use Rattle.line.specs.Node.{Node, Line, number, beyond, side_of, with_neighbour}
use Rattle.line.specs.Nidec.{Nidec, is_neighbour, names, is_empty}
use Rattle.line.specs.Leave.{holder_of, leave_of}
use Rattle.line.specs.Act.{send_to, notice, timeout, meet, introduced, drop_neighbour, removed, received, introduce_both, act}
use Rattle.line.specs.Run.{try, run}
use Rattle.line.specs.Step.{find, change, without, replace, with_message, send_all, has_room, commit, step}
use Rattle.line.specs.Accepted.{in_range, has_small_bag, lies_beyond, has_sides, is_present, knows_neighbour, knows_content, names_present, accepted}
use Rattle.lists.specs.Numbers.{are_distinct}
use Rattle.line.specs.Situations.{Holds, situations}
use Rattle.line.specs.Examples.{examples, LineExample, Shows, line_examples, LeaveExample, Answers, leave_examples}
use Rattle.line.specs.Claims.{SituationsHold, ExamplesHold, LineExamplesShow, LeaveExamplesShow}
use Rattle.line.proofs.LeaveTest.{leave_is, leave_tested}

-- what is shown of each element of a list holds of every member
abbrev pub Each : {A : Type 0} → (A → Type 0) → List A → Type 0
Each P [] = Unit {0}
Each P (x ∷ l) = P x × Each P l

each_at : {A : Type 0} (P : A → Type 0) (x : A) {l : List A} → Each P l → Memᴰ x l → P x
each_at P x h (Memᴰ.head e) = subst P (sym e) h.0
each_at P x h (Memᴰ.tail m) = each_at P x h.1 m

pub each : {A : Type 0} (P : A → Type 0) {l : List A} → Each P l → (x : A) → Memᴰ x l → P x
each P h x m = each_at P x h m

pub situations_hold : SituationsHold
unfolding accepted marks_hold in_range has_small_bag lies_beyond has_sides are_distinct is_present knows_neighbour knows_content names_present all any insert remove_first require ◌>>=◌ removal same precedes beyond side_of with_neighbour is_neighbour names is_empty holder_of leave_of unless_held send_to notice timeout meet introduced drop_neighbour removed received introduce_both act find change without replace with_message send_all has_room commit step try run situations
situations_hold = each Holds (record { accepts = refl; answers = refl; counts = refl; leaves = refl }, (record { accepts = refl; answers = refl; counts = refl; leaves = refl }, (record { accepts = refl; answers = refl; counts = refl; leaves = refl }, (record { accepts = refl; answers = refl; counts = refl; leaves = refl }, (record { accepts = refl; answers = refl; counts = refl; leaves = refl }, (record { accepts = refl; answers = refl; counts = refl; leaves = refl }, (record { accepts = refl; answers = refl; counts = refl; leaves = refl }, (record { accepts = refl; answers = refl; counts = refl; leaves = refl }, (record { accepts = refl; answers = refl; counts = refl; leaves = refl }, (record { accepts = refl; answers = refl; counts = refl; leaves = refl }, (record { accepts = refl; answers = refl; counts = refl; leaves = refl }, tt)))))))))))

pub examples_hold : ExamplesHold
unfolding accepted marks_hold in_range has_small_bag lies_beyond has_sides are_distinct is_present knows_neighbour knows_content names_present all any insert remove_first require ◌>>=◌ removal same precedes beyond side_of with_neighbour is_neighbour names is_empty holder_of leave_of unless_held send_to notice timeout meet introduced drop_neighbour removed received introduce_both act find change without replace with_message send_all has_room commit step try run examples
examples_hold = each Holds (record { accepts = refl; answers = refl; counts = refl; leaves = refl }, (record { accepts = refl; answers = refl; counts = refl; leaves = refl }, (record { accepts = refl; answers = refl; counts = refl; leaves = refl }, (record { accepts = refl; answers = refl; counts = refl; leaves = refl }, (record { accepts = refl; answers = refl; counts = refl; leaves = refl }, (record { accepts = refl; answers = refl; counts = refl; leaves = refl }, (record { accepts = refl; answers = refl; counts = refl; leaves = refl }, (record { accepts = refl; answers = refl; counts = refl; leaves = refl }, (record { accepts = refl; answers = refl; counts = refl; leaves = refl }, (record { accepts = refl; answers = refl; counts = refl; leaves = refl }, (record { accepts = refl; answers = refl; counts = refl; leaves = refl }, (record { accepts = refl; answers = refl; counts = refl; leaves = refl }, (record { accepts = refl; answers = refl; counts = refl; leaves = refl }, (record { accepts = refl; answers = refl; counts = refl; leaves = refl }, (record { accepts = refl; answers = refl; counts = refl; leaves = refl }, (record { accepts = refl; answers = refl; counts = refl; leaves = refl }, (record { accepts = refl; answers = refl; counts = refl; leaves = refl }, (record { accepts = refl; answers = refl; counts = refl; leaves = refl }, (record { accepts = refl; answers = refl; counts = refl; leaves = refl }, (record { accepts = refl; answers = refl; counts = refl; leaves = refl }, (record { accepts = refl; answers = refl; counts = refl; leaves = refl }, (record { accepts = refl; answers = refl; counts = refl; leaves = refl }, (record { accepts = refl; answers = refl; counts = refl; leaves = refl }, (record { accepts = refl; answers = refl; counts = refl; leaves = refl }, (record { accepts = refl; answers = refl; counts = refl; leaves = refl }, tt)))))))))))))))))))))))))

-- whether a station may leave, as a test
abbrev is_may : Leave → Bool
is_may (Ok _) = true
is_may (Err why) = false

may_tested : (line : Line) (s : Node) → (is_may (leave_of line s) ≡ true) ↔ Nidec line s
may_tested line s = (λ e. (leave_tested line s (Ok tt)).0 (go (leave_of line s) e), λ n. ap is_may ((leave_tested line s (Ok tt)).1 n))
  where
    go : (l : Leave) → is_may l ≡ true → l ≡ Ok tt
    go (Ok _) e = refl
    go (Err why) e = clash e refl

-- What is computed of a line, and what it says by the claims about the tests.
record Computed (x : LineExample) : Type 0 where
  accepts : accepted x.line ≡ true
  free : Each (λ (s : Node). is_may (leave_of x.line s) ≡ any (eqb (number s)) x.free) x.line

free_says : (l : List ℕ) (n : ℕ) {P : Type 0} (t : Bool) → t ≡ any (eqb n) l → (t ≡ true) ↔ P → P ↔ Memᴰ n l
free_says l n t e f = (
  λ h. let w = any_true (eqb n) l (sym e ∙ f.1 h) in Memᴰ.cast (eqb-true n w.0 w.2) w.1,
  λ m. f.0 (e ∙ true_any (eqb n) m (eq-eqb n n refl)),
)

shows : (x : LineExample) → Computed x → Shows x
shows x c = record {
  accepts = c.accepts;
  free = λ s m. free_says x.free (number s) (is_may (leave_of x.line s)) (each (λ (s : Node). is_may (leave_of x.line s) ≡ any (eqb (number s)) x.free) c.free s m) (may_tested x.line s);
}

pub line_examples_show : LineExamplesShow
unfolding accepted marks_hold in_range has_small_bag lies_beyond has_sides are_distinct is_present knows_neighbour knows_content names_present all any removal same beyond is_neighbour names is_empty holder_of leave_of unless_held line_examples
line_examples_show x m = shows x (each Computed (
  record { accepts = refl; free = tt },
  (record { accepts = refl; free = (refl, (refl, (refl, tt))) }, (record { accepts = refl; free = (refl, (refl, (refl, tt))) }, (record { accepts = refl; free = (refl, (refl, (refl, tt))) }, (record { accepts = refl; free = (refl, (refl, (refl, tt))) }, (record { accepts = refl; free = (refl, (refl, (refl, tt))) }, (record { accepts = refl; free = (refl, (refl, (refl, tt))) }, tt)))))),
) x m)

-- What is computed of the stations of a line, and what it says by the claim about the test.
record Asked (x : LeaveExample) : Type 0 where
  accepts : accepted x.line ≡ true
  leaves : map (leave_of x.line) x.line ≡ x.leaves

answers : (line rest : Line) → Answers line rest (map (leave_of line) rest)
answers line [] = tt
answers line (s ∷ rest) = (leave_is line s, answers line rest)

pub leave_examples_show : LeaveExamplesShow
unfolding accepted marks_hold in_range has_small_bag lies_beyond has_sides are_distinct is_present knows_neighbour knows_content names_present all any removal same beyond is_neighbour names is_empty holder_of leave_of leave_examples
leave_examples_show x m =
    let c = each Asked (
      record { accepts = refl; leaves = refl },
      (record { accepts = refl; leaves = refl }, (record { accepts = refl; leaves = refl }, (record { accepts = refl; leaves = refl }, (record { accepts = refl; leaves = refl }, (record { accepts = refl; leaves = refl }, tt))))),
    ) x m in
    record { accepts = c.accepts; leaves = subst (Answers x.line x.line) c.leaves (answers x.line x.line) }
