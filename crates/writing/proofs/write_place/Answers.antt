use Rattle.writing.proofs.WritingLaws.{place_written}
use Rattle.writing.proofs.write_place.Goals as goal

pub returns : goal.returns
returns c = search place_written
