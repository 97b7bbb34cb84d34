use Rattle.std.proofs.Common.{◌/◌, ltb, rules}
use Rattle.std.proofs.lemmas.List.Sorted.{answers_always}
use Rattle.index.proofs.Entries.{numbers_rise}
use Rattle.index.proofs.rises.Goals as goal

pub returns : goal.returns
returns c =
    numbers_rise c.args.index.now c.is_sorted_by.result (c.is_sorted_by.ensures.cases (λ x y. ltb (x / 64) (y / 64)) (answers_always _ _ _ (λ f a r f' called. search rules)))
