-- What a tally has while the mentions are counted into the two lent arrays.
use Rattle.std.specs.Prelude.{ℕ, ◌≡◌, length}
use Rattle.lists.specs.Numbers.{Rising}
use Rattle.index.specs.Index.{numbers_in}
use Rattle.mentions.specs.declared.Tally.{Tally}
use Rattle.mentions.specs.Tally.{Below}

-- its index rises, a count and a smallest station for each place, and no count is above k
pub record Ready (k : ℕ) (t : Tally) : Type 0 where
  pub rising : Rising (numbers_in t.index.now)
  pub alike : length t.counts.now ≡ length t.smallest.now
  pub below : Below k t.counts.now

-- the index and the two arrays stay the same ones, and as long as each other
pub record Keeps (old new : Tally) : Type 0 where
  pub index : new.index ≡ old.index
  pub counts : new.counts.ghost_name ≡ old.counts.ghost_name
  pub smallest : new.smallest.ghost_name ≡ old.smallest.ghost_name
  pub alike : length new.counts.now ≡ length new.smallest.now
