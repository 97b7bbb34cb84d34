-- What the C interface hands back, in the terms of the run and of the questions (document 01, "The numbers a crew may see"; document 02, T-02).
use Rattle.std.specs.Prelude.{cond}
use Rattle.line.specs.Answer.{carried_number, carried_holder, answer_number, answer_reason}
use Rattle.finishing.specs.Ended.{Outcome}
use Rattle.questions.specs.Told.{told_number, told_yes, Told}
use Rattle.view.specs.declared.Looked.{Looked}
use Rattle.station_line.specs.declared.StationLineRan.{StationLineRan}
use Rattle.station_line.specs.declared.StationLineTold.{StationLineTold}
use Rattle.station_line.specs.declared.StationLineViewed.{StationLineViewed}

-- the number of a run's answer, both counts, and the reason that the answer carries
unfoldable pub ran_as : Outcome → StationLineRan
ran_as o = record {
  answer = answer_number o.answer;
  done = o.done;
  stations = o.stations;
  reason = carried_number (answer_reason o.answer);
  holder = carried_holder (answer_reason o.answer);
}

-- the number and the value of a question's answer
unfoldable pub told_as : Told → StationLineTold
told_as t = record { answer = told_number t; yes = told_yes t }

-- what is seen, with 1 for a block and 0 for the end
unfoldable pub viewed_as : Looked → StationLineViewed
viewed_as l = record { answer = l.answer; has_block = cond l.found 1 0; offset = l.offset; next = l.next }
