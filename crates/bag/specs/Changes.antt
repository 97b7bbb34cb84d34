-- What putting and taking one message does to a bag (document 01, "What a step does at station p" and "The form each place needs").
use Rattle.std.specs.Prelude.{◌+◌, ◌≡◌, length}
use Rattle.line.specs.declared.Message.{Message}
use Rattle.line.specs.Message.{holds, remove, put}
use Rattle.bag.specs.declared.Bag.{Bag}
use Rattle.bag.specs.declared.Taken.{Taken}
use Rattle.bag.specs.Held.{held, ordered}

-- r is b with one m more
pub record Put (b : Bag) (m : Message) (r : Bag) : Type 0 where
  pub ordered_is : ordered r ≡ put m (ordered b)
  pub counted : r.count ≡ b.count + 1

-- r says whether b holds m, and is b without one copy
pub record Took (b : Bag) (m : Message) (r : Taken) : Type 0 where
  pub found_is : r.found ≡ holds m (ordered b)
  pub ordered_is : ordered r.bag ≡ remove m (ordered b)
  pub counted : r.bag.count ≡ length (held r.bag)
