use Rattle.allowed.proofs.Offered.{record_put, record_not}
use Rattle.allowed.proofs.stations.put_if.Goals as goal

pub returns-then-allowed : goal.returns-then-allowed
returns-then-allowed c = search record_put

pub returns : goal.returns
returns c = search record_not
