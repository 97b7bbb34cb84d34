use Rattle.writing.proofs.WritingLaws.{block_written}
use Rattle.writing.proofs.write_block.Goals as goal

pub returns : goal.returns
returns c = search block_written
