use Rattle.rules.proofs.Ways.{notice_leaving, notice_staying}
use Rattle.rules.proofs.notice.Goals as goal

pub returns-then-p : goal.returns-then-p
returns-then-p c = search notice_leaving

pub returns-else-p : goal.returns-else-p
returns-else-p c = search notice_staying
