use Rattle.writing.proofs.WritingLaws.{header_written}
use Rattle.writing.proofs.write_header.Goals as goal

pub returns : goal.returns
returns c = search header_written
