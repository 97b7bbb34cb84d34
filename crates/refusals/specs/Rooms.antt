-- Lent rooms, in one form for every entry point (document 01, "The numbers a crew may see"): "the amount filled is returned, room past it is not
-- touched, and a refusal returns zero counts and leaves the whole room untouched". A refusal fills 0, past which nothing is touched.
use Rattle.std.specs.Prelude.{ℕ, ◌≤◌, ◌≡◌, List, length, drop}

-- past its first n bytes or records, which it has, a room is as it was
pub record Untouched {A : Type 0} (n : ℕ) (before after : List A) : Type 0 where
  pub within : n ≤ length before
  pub size : length after ≡ length before
  pub rest : drop n after ≡ drop n before
