-- What stands at the room's start.
use Rattle.words.proofs.Written.{first_size, first_bytes}
use Rattle.text.proofs.write_listing.Goals as goal

pub returns-clause-value : goal.returns-clause-value
returns-clause-value c = (search first_size, search first_bytes)
