-- The arrays read from an accepted table are what a run keeps between two steps.
use Prim.Native.Nat.{ℕ, ◌-◌, ◌/◌, ◌≤◌}
use mathlib.Core.Path.{◌≡◌, sym, ap, ◌∙◌}
use mathlib.Core.List.{List}
use native.Mathlib.Omega.{arith}
use lib.ListN.{length, replicate, length-append, length-replicate}
use Rattle.line.specs.Node.{numbers, nobody}
use Rattle.block.specs.Layout.{station_of, blank, row_of}
use Rattle.table.specs.Fault.{fault_of}
use Rattle.table.specs.Index.{index_array, index_of}
use Rattle.table.proofs.Accepting.{table_accepted}
use Rattle.table.proofs.Indexing.{index_length}
use Rattle.arrays.specs.Reading.{count_of, arrays_of}
use Rattle.table.proofs.Lines.{clean_few}
use Rattle.arrays.proofs.Tables.{filled_length, line_of_table, numbers_of_table, tallied_table}
use Rattle.effects.proofs.Stores.{BetweenSteps}

module _ (t : List ℕ) (clean : fault_of t ≡ 0) where
  few : length t / 512 ≤ 64
  few = clean_few t clean

  pub starts_between : BetweenSteps (arrays_of t)
  starts_between =
      let ok = table_accepted t clean in
      let is = line_of_table t few in
      let long : length (index_array t) ≡ 64 = length-append (index_of t) (replicate (64 - length t / 512) 0) ∙ (let f = few in omega (arith, index_length t, length-replicate {A = ℕ} (64 - length t / 512) 0)) in
      record {
        consistent = record {
          few = few;
          index_size = long;
          stations_size = filled_length t station_of nobody.station few;
          bags_size = filled_length t row_of (replicate 32 blank) few;
          counts_size = filled_length t count_of 0 few;
          numbered = numbers_of_table t few ∙ ap numbers (sym is);
          rising = rw (numbers_of_table t few) ok.2.rising;
          tallied = tallied_table t few;
        };
        sound = rw is (record { accepted = ok.1; written = ok.2 });
      }
