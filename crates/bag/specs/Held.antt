-- The bag of the code as the list of document 01 ("What the engine holds").
use Rattle.std.specs.Prelude.{ℕ, ◌≤◌, ◌≡◌, List, length, take}
use Rattle.line.specs.declared.Message.{Message}
use Rattle.lists.specs.Lists.{sort}
use Rattle.line.specs.Message.{precedes}
use Rattle.bag.specs.declared.Bag.{Bag}

-- the messages held are the first `count` of the 32 places; a count above 32 means all of them
abbrev pub held : Bag → List Message
held b = take b.count b.messages

-- n is how many messages are held, at most 32
pub record Sized (b : Bag) (n : ℕ) : Type 0 where
  pub is : n ≡ length (held b)
  pub few : n ≤ 32

-- the same messages in written order: the order in which they stand plays no part
abbrev pub ordered : Bag → List Message
ordered b = sort precedes (held b)
