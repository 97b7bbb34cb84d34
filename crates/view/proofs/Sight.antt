-- What is shown at a position, and the position after it: where a block is, and at the end.
use Prim.Native.Nat.{ℕ, ◌+◌, ◌/◌, ◌≤◌, ◌<◌}
use mathlib.Core.Path.{◌≡◌}
use mathlib.Core.Bool.{true, false}
use mathlib.Core.List.{List, []}
use lib.ListN.{length}
use borrow.Author.Tests.{lt-ltb, le-ltb}
use Rattle.table.specs.Blocks.{block_at}
use Rattle.view.specs.View.{has_block, block_or_end, next_position}

module _ (t : List ℕ) (p : ℕ) (h : p < length t / 512) where
  pub has_block_lem : has_block t p ≡ true
  unfolding has_block
  has_block_lem = lt-ltb p (length t / 512) h

  pub shown_block : block_or_end t p ≡ block_at t p
  unfolding block_or_end
  shown_block = rw has_block_lem

  pub next_block : next_position t p ≡ p + 1
  unfolding next_position
  next_block = rw has_block_lem

module _ (t : List ℕ) (p : ℕ) (h : length t / 512 ≤ p) where
  pub has_none : has_block t p ≡ false
  unfolding has_block
  has_none = le-ltb p (length t / 512) h

  pub shown_end : block_or_end t p ≡ []
  unfolding block_or_end
  shown_end = rw has_none

  pub next_end : next_position t p ≡ p
  unfolding next_position
  next_end = rw has_none
