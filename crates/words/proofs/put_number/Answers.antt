use borrow.Author.Rules.{rules}
use Rattle.words.proofs.Texts.{room_ten, within_ten}
use Rattle.words.proofs.put_number.Goals as goal

-- Ten digits have room.
pub put_digits-requires : goal.put_digits-requires
put_digits-requires c = search room_ten

pub returns : goal.returns
returns c = (search rules, search within_ten)
