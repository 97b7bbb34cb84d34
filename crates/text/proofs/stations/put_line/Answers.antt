use native.Mathlib.Omega.{arith}
use Rattle.text.proofs.Lines.{wrote_line}
use Rattle.text.proofs.stations.put_line.Goals as goal

-- The station, its messages, its site code and the line feed, side by side.
pub returns : goal.returns
returns c = (search wrote_line, omega arith)
