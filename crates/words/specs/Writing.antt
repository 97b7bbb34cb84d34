-- What the writers of texts leave in the room that is lent to them.
use Rattle.std.specs.Prelude.{ℕ, ◌+◌, ◌≤◌, ◌≡◌, List, length}
use Rattle.octets.specs.Bytes.{overwrite}

-- the text stands in the room from index `at` on and ends before index `end`; the rest of the room is as it was
pub record Wrote (before : List ℕ) (at : ℕ) (text : List ℕ) (end : ℕ) (after : List ℕ) : Type 0 where
  pub ends : end ≡ at + length text
  pub fits : end ≤ length before
  pub holds : after ≡ overwrite at text before
