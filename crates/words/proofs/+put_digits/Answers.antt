-- The digits of a tenth of the number, then its last digit: the one step of `decimal`.
use borrow.Author.Rules.{rules}
use Rattle.words.proofs.Texts.{room_last, room_tenth, room_behind, wrote_last, wrote_longer}
use Rattle.words.proofs.+put_digits.Goals as goal

pub put-requires : goal.put-requires
put-requires t c = search room_last

pub returns-then-n-lt10 : goal.returns-then-n-lt10
returns-then-n-lt10 t c = search wrote_last

pub put_digits-end-requires : goal.put_digits-end-requires
put_digits-end-requires t c = (search rules, search room_tenth)

pub put-requires-2 : goal.put-requires-2
put-requires-2 t c = search room_behind

pub returns : goal.returns
returns t c = search wrote_longer
