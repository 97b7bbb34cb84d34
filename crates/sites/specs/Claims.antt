-- What is proved of the site codes (document 02, T-05; the proofs are in proofs/, under the same names in snake case). `outcome` is the
-- definition in the contract of the run.
use Rattle.std.specs.Prelude.{ℕ, ◌≡◌, List, length}
use Rattle.line.specs.Types.{Reading}
use mathlib.Core.List.{Memᴰ as Member}
use Rattle.line.specs.Node.{Node, Line, at_site, in_written_order}
use Rattle.line.specs.Leave.{leave_of}
use Rattle.line.specs.InLine.{in_line}
use Rattle.line.specs.Run.{run}
use Rattle.line.specs.Situations.{Situation, Holds, situations}
use Rattle.octets.specs.Bytes.{word, quad, AreBytes}
use Rattle.writing.specs.Claims.{example_block, site_block}
use Rattle.table.specs.Blocks.{blocks}
use Rattle.table.specs.Fault.{fault_of}
use Rattle.finishing.specs.Ended.{Outcome}
use Rattle.engine.specs.Ran.{outcome, table_in}
use Rattle.sites.specs.Sites.{without_sites, run_without_sites, block_without_site, table_without_sites}
use Rattle.sites.specs.Examples.{situation_without_sites, site_situations}

-- 1. "Every step carries it unchanged", on the bytes: each block of the table that a run writes has a block in the table read with its station
-- number, bytes 4-7, and its site code, bytes 18-19.
abbrev pub SitesKept : Type 0
SitesKept =
    (t steps room c : List ℕ) → Member c (blocks (table_in (outcome t steps room)))
    → (b : List ℕ) × Member b (blocks t) × (quad b 4 ≡ quad c 4) × (word b 18 ≡ word c 18)

-- 2. "It plays no part in any order, step rule or NIDEC", nor in whether a line is in line: of every line, accepted or not.
pub record SitesPlayNoPart : Type 0 where
  pub order : (line : Line) → in_written_order (without_sites line) ≡ without_sites (in_written_order line)
  pub nidec : (line : Line) (s : Node) → leave_of (without_sites line) (at_site 0 s) ≡ leave_of line s
  pub lined : (line : Line) → in_line (without_sites line) ≡ in_line line
  pub runs : (line : Line) (l : List Reading) → run (without_sites line) l ≡ run_without_sites (run line l)

-- 3. The same on the bytes: an accepted table with 0 in bytes 18-19 of every block is accepted, and every run over it gives the same answer,
-- with its reason, the same counts, and the table written with 0 in bytes 18-19 of every block.
pub record SameWithoutSites (with without : Outcome) : Type 0 where
  pub answer : with.answer ≡ without.answer
  pub done : with.done ≡ without.done
  pub stations : with.stations ≡ without.stations
  pub written : table_without_sites (table_in with) ≡ table_in without

abbrev pub TablesWithoutSites : Type 0
TablesWithoutSites =
    (t steps room room' : List ℕ) → AreBytes t → fault_of t ≡ 0 → length room ≡ length room'
    → (fault_of (table_without_sites t) ≡ 0) × SameWithoutSites (outcome t steps room) (outcome (table_without_sites t) steps room')

-- 4. Worked situations with codes. With all codes taken out each of them is one of document 01's own.
abbrev pub SiteSituationsHold : Type 0
SiteSituationsHold = (x : Situation) → Member x site_situations → Holds x

abbrev pub SituationsWithoutSites : Type 0
SituationsWithoutSites = (x : Situation) → Member x site_situations → Member (situation_without_sites x) situations

-- And the worked blocks: the one at site 1,234 with its code taken out is document 01's own, in which there is none to take out.
pub record BlocksWithoutSite : Type 0 where
  pub coded : block_without_site site_block ≡ example_block
  pub plain : block_without_site example_block ≡ example_block
