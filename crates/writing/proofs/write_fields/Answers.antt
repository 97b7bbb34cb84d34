use Rattle.writing.proofs.WritingLaws.{fields_written}
use Rattle.writing.proofs.write_fields.Goals as goal

pub returns : goal.returns
returns c = search fields_written
