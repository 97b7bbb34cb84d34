-- Lines, runs and tables with all site codes taken out (document 02, T-05).
use Rattle.std.specs.Prelude.{ℕ, take}
use mathlib.Core.List.{List, [], ◌∷◌, map, flat_map}
use Rattle.line.specs.Node.{Line, at_site}
use Rattle.line.specs.Run.{Run}
use Rattle.octets.specs.Bytes.{overwrite}
use Rattle.writing.specs.Encoding.{with_check}
use Rattle.table.specs.Blocks.{blocks}

-- every station as it is, with 0 for its code
abbrev pub without_sites : Line → Line
without_sites line = map (at_site 0) line

-- the same ending, with the reason of a 14, and the same steps; the codes of the line that is left are taken out
abbrev pub run_without_sites : Run → Run
run_without_sites r = record { ending = r.ending; steps = r.steps; line = without_sites r.line }

-- a block as it is, with 0 in bytes 18-19 and the check word that goes with it; and a table whose blocks are all so
abbrev pub block_without_site : List ℕ → List ℕ
block_without_site b = with_check (overwrite 18 (0 ∷ 0 ∷ []) (take 510 b))

abbrev pub table_without_sites : List ℕ → List ℕ
table_without_sites t = flat_map block_without_site (blocks t)
