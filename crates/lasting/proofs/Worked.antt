-- The examples are computed: each test gives what is said of its condition.
use mathlib.Core.Path.{◌≡◌, refl}
use mathlib.Core.Logic.{◌↔◌}
use mathlib.Core.Bool.{Bool, true, false}
use Rattle.lists.specs.Lists.{all, any}
use Rattle.lists.specs.Numbers.{rises, are_distinct}
use Rattle.lists.proofs.Lists.{clash}
use Rattle.lists.proofs.Numbers.{rises_rising}
use Rattle.line.specs.Message.{removal, same, is_removal}
use Rattle.line.specs.Marks.{marks_hold}
use Rattle.line.specs.Node.{numbers, beyond}
use Rattle.line.specs.Accepted.{in_range, has_small_bag, lies_beyond, has_sides, is_present, knows_neighbour, knows_content, names_present, accepted}
use Rattle.line.specs.InLine.{is_same, first, neighbours_after, neighbours_in_line, is_quiet, stays, in_line}
use Rattle.line.proofs.InLineTest.{neighbours_tested, quiet_tested, staying_tested, in_line_tested}
use Rattle.line.proofs.Worked.{each}
use Rattle.lasting.specs.Examples.{Says, InLineExample, is_lined, ShowsInLine, in_line_examples}
use Rattle.lasting.specs.Claims.{InLineExamplesShow}

-- What is computed of a line.
pub record Computed (x : InLineExample) : Type 0 where
  pub accepts : accepted x.line ≡ true
  pub rise : rises (numbers x.line) ≡ true
  pub neighbours : neighbours_in_line x.line ≡ x.neighbours
  pub quiet : all is_quiet x.line ≡ x.quiet
  pub staying : all stays x.line ≡ x.staying

-- What a test says of the statement that it is tied to.
says : {P : Type 0} (b t : Bool) → t ≡ b → (t ≡ true) ↔ P → Says b P
says true t e f = f.0 e
says false t e f = λ h. clash (f.1 h) e

pub is_lined_lem : (x : InLineExample) → Computed x → in_line x.line ≡ is_lined x
unfolding in_line
is_lined_lem x c = rw (c.neighbours, c.quiet, c.staying)

pub shows : (x : InLineExample) → Computed x → ShowsInLine x
shows x c =
    let rising = rises_rising (numbers x.line) c.rise in
    record {
      accepts = c.accepts;
      neighbours = says x.neighbours (neighbours_in_line x.line) c.neighbours (neighbours_tested x.line rising);
      quiet = says x.quiet (all is_quiet x.line) c.quiet (quiet_tested x.line);
      staying = says x.staying (all stays x.line) c.staying (staying_tested x.line);
      in_line_lem = says (is_lined x) (in_line x.line) (is_lined_lem x c) (in_line_tested x.line rising);
    }

pub in_line_examples_show : InLineExamplesShow
unfolding accepted marks_hold in_range has_small_bag lies_beyond has_sides are_distinct is_present knows_neighbour knows_content names_present all any removal same beyond rises is_same first neighbours_after neighbours_in_line is_removal is_quiet in_line_examples
in_line_examples_show x m = shows x (each Computed (
  record { accepts = refl; rise = refl; neighbours = refl; quiet = refl; staying = refl },
  (
    record { accepts = refl; rise = refl; neighbours = refl; quiet = refl; staying = refl },
    (record { accepts = refl; rise = refl; neighbours = refl; quiet = refl; staying = refl }, (record { accepts = refl; rise = refl; neighbours = refl; quiet = refl; staying = refl }, (record { accepts = refl; rise = refl; neighbours = refl; quiet = refl; staying = refl }, (record { accepts = refl; rise = refl; neighbours = refl; quiet = refl; staying = refl }, (record { accepts = refl; rise = refl; neighbours = refl; quiet = refl; staying = refl }, (record { accepts = refl; rise = refl; neighbours = refl; quiet = refl; staying = refl }, (record { accepts = refl; rise = refl; neighbours = refl; quiet = refl; staying = refl }, tt))))))),
  ),
) x m)
