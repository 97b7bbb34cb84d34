use Rattle.std.proofs.lemmas.Result.{err_from_is_err_and}
use Rattle.rules.proofs.Ways.{exit_staying, exit_held, exits}
use Rattle.rules.proofs.exit.Goals as goal

pub returns-then-not-s : goal.returns-then-not-s
returns-then-not-s c = search exit_staying

pub returns-in_err-map_err : goal.returns-in_err-map_err
returns-in_err-map_err c =
    let p = err_from_is_err_and c.from_residual.result c.from_residual.ensures.1 in
    rw (p.1, p.2) (λ b. exit_held _ _ b c.if-not-s.false _ c.in_err-map_err.ensures.cases)

pub returns : goal.returns
returns c = λ b. exits _ _ b _ c.if-not-s.false _ c.in_ok-map_err.ensures.cases c.introduce_both.ensures
