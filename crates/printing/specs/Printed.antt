-- What is printed of a run (document 01, "The printed listing").
use Rattle.std.specs.Prelude.{ℕ, ◌≡◌, List, ◌++◌, length, drop}
use Rattle.table.specs.Blocks.{nodes}
use Rattle.finishing.specs.Ended.{Outcome}
use Rattle.engine.specs.Ran.{table_in}
use Rattle.text.specs.Listing.{listing_text}

-- the answer, both counts, and a line per station of the table written
unfoldable pub printed : Outcome → List ℕ
printed o = listing_text o.answer o.done o.stations (nodes (table_in o))

-- the first n bytes of `after` are the text; the rest is as it was before
pub record Prints (text before : List ℕ) (n : ℕ) (after : List ℕ) : Type 0 where
  pub filled : n ≡ length text
  pub bytes : after ≡ text ++ drop n before
