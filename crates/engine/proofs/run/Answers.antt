use Rattle.engine.proofs.Before.{run_refused, run_begun, run_ends}
use Rattle.engine.proofs.run.Goals as goal

pub run_accepted-requires : goal.run_accepted-requires
run_accepted-requires c = run_begun _ _ _ c.in-Ok.ensures

pub returns-in-Ok : goal.returns-in-Ok
returns-in-Ok c = run_ends _ _ _ c.in-Ok.ensures c.run_accepted.ensures

pub returns-in-Err : goal.returns-in-Err
returns-in-Err c = run_refused _ _ _ c.in-Err.ensures
