use Rattle.table.proofs.NameLaws.{place_listed, place_unlisted}
use Rattle.table.proofs.names.knows_place.Goals as goal

pub returns-then-word_at-eq1 : goal.returns-then-word_at-eq1
returns-then-word_at-eq1 c = search place_listed

pub returns : goal.returns
returns c = search place_unlisted
