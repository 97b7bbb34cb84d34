-- The worked lines: each is computed.
use mathlib.Core.Path.{refl}
use Rattle.lists.specs.Lists.{all, any, count}
use Rattle.lists.specs.Numbers.{are_distinct}
use Rattle.line.specs.Message.{removal, same}
use Rattle.line.specs.Marks.{marks_hold}
use Rattle.line.specs.Node.{beyond}
use Rattle.line.specs.Nidec.{is_neighbour, names}
use Rattle.line.specs.Accepted.{in_range, has_small_bag, lies_beyond, has_sides, is_present, knows_neighbour, knows_content, names_present, accepted}
use Rattle.line.specs.Leave.{holder_of}
use Rattle.mentions.specs.Mentions.{mentions_by, mentions}
use Rattle.mentions.specs.Examples.{MentionsShow}

pub mentions_show : MentionsShow
unfolding accepted marks_hold in_range has_small_bag lies_beyond has_sides are_distinct is_present knows_neighbour knows_content names_present all any count removal same beyond is_neighbour names holder_of mentions_by mentions
mentions_show = record { copied = (refl, refl, refl); own = (refl, refl, refl); removals = (refl, refl, refl) }
