use Rattle.std.proofs.Common.{sym}
use Rattle.roll_call.proofs.Amount.{called_alike, refused_alike}
use Rattle.roll_call.proofs.roll_call.Goals as goal

pub call-requires : goal.call-requires
call-requires c = c.in-Ok.ensures.tells.kept

pub returns-in-Ok : goal.returns-in-Ok
returns-in-Ok c = called_alike c.in-Ok.ensures.tells (sym c.in-Ok.ensures.fault_is) c.args.stations.now c.args.records.now c.call.ensures

pub returns-in-Err : goal.returns-in-Err
returns-in-Err c = refused_alike _ _ _ c.in-Err.ensures (cc) (cc)
