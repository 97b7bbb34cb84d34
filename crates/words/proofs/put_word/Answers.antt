use Rattle.words.proofs.Written.{wrote_word}
use Rattle.words.proofs.put_word.Goals as goal

-- One copy is one word written.
pub returns : goal.returns
returns c = search wrote_word
