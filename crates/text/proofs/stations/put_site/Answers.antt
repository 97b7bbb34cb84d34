use native.Mathlib.Omega.{arith}
use Rattle.text.proofs.Lines.{wrote_nowhere, wrote_site}
use Rattle.text.proofs.stations.put_site.Goals as goal

-- Nothing for 0, or the word.
pub returns-then-site-eq0 : goal.returns-then-site-eq0
returns-then-site-eq0 c = (search wrote_nowhere, omega arith)

pub returns : goal.returns
returns c = (search wrote_site, omega arith)
