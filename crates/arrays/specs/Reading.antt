-- The arrays that are read from a table: what stands in its blocks, in stored order (document 01, "The block").
use Rattle.std.specs.Prelude.{ℕ, ◌-◌, ◌/◌, List, ◌++◌, map, length, replicate}
use Rattle.lists.specs.Places.{range}
use Rattle.line.specs.declared.Message.{Message}
use Rattle.line.specs.declared.Station as declared
use Rattle.line.specs.Node.{nobody}
use Rattle.octets.specs.Bytes.{word}
use Rattle.block.specs.Layout.{station_of, blank, row_of}
use Rattle.table.specs.Blocks.{block_at}
use Rattle.table.specs.Index.{index_array}
use Rattle.arrays.specs.declared.Arrays.{Arrays}

-- what f makes of each block; after them e, up to 64 places
unfoldable pub filled : {A : Type 0} → (List ℕ → A) → A → List ℕ → List A
filled f e t = map (λ (k : ℕ). f (block_at t k)) (range 0 (length t / 512)) ++ replicate (64 - length t / 512) e

-- "count of messages" of a block
abbrev pub count_of : List ℕ → ℕ
count_of b = word b 16

-- the stations, bags and message counts of the blocks
abbrev pub stations_of : List ℕ → List declared.Station
stations_of t = filled station_of nobody.station t

abbrev pub bags_of : List ℕ → List (List Message)
bags_of t = filled row_of (replicate 32 blank) t

abbrev pub counts_of : List ℕ → List ℕ
counts_of t = filled count_of 0 t

-- these with the index of the table
abbrev pub arrays_of : List ℕ → Arrays
arrays_of t = record { n = length t / 512; index = index_array t; stations = stations_of t; bags = bags_of t; counts = counts_of t }
