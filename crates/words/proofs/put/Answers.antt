use Rattle.words.proofs.Written.{wrote_byte}
use Rattle.words.proofs.put.Goals as goal

-- One store is one byte written.
pub returns : goal.returns
returns c = search wrote_byte
