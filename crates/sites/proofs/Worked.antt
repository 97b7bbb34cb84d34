-- The situations and the block with site codes are computed.
use mathlib.Core.Path.{refl}
use mathlib.Core.List.Memᴰ.{head as here}
use mathlib.Core.List.Memᴰ.{tail as there}
use mathlib.Core.List.{Memᴰ as Member}
use Rattle.lists.specs.Lists.{all, any, insert, remove_first}
use Rattle.lists.specs.Numbers.{are_distinct}
use Rattle.line.specs.Answer.{◌>>=◌, require, unless_held}
use Rattle.line.specs.Message.{removal, same, precedes}
use Rattle.line.specs.Marks.{marks_hold}
use Rattle.line.specs.Node.{at_site, beyond, side_of, with_neighbour}
use Rattle.line.specs.Nidec.{is_neighbour, names, is_empty}
use Rattle.line.specs.Leave.{holder_of, leave_of}
use Rattle.line.specs.Act.{meet, introduced, drop_neighbour, removed, received, introduce_both, act}
use Rattle.line.specs.Step.{find, change, without, replace, with_message, send_all, has_room, commit, step}
use Rattle.line.specs.Run.{try, run}
use Rattle.line.specs.Accepted.{in_range, has_small_bag, lies_beyond, has_sides, is_present, knows_neighbour, knows_content, names_present, accepted}
use Rattle.line.specs.Situations.{Situation, Holds, situations}
use Rattle.line.proofs.Worked.{each}
use Rattle.octets.specs.Bytes.{sum_words, overwrite}
use Rattle.writing.specs.Encoding.{with_check}
use Rattle.writing.specs.Claims.{example_block, site_block}
use Rattle.sites.specs.Examples.{situation_without_sites, site_situations}
use Rattle.sites.specs.Claims.{SiteSituationsHold, SituationsWithoutSites, BlocksWithoutSite}

pub site_situations_hold : SiteSituationsHold
unfolding at_site accepted marks_hold in_range has_small_bag lies_beyond has_sides are_distinct is_present knows_neighbour knows_content names_present all any insert remove_first require ◌>>=◌ removal same precedes beyond side_of with_neighbour is_neighbour names is_empty holder_of leave_of unless_held meet introduced drop_neighbour removed received introduce_both act find change without replace with_message send_all has_room commit step try run site_situations
site_situations_hold = each Holds (
  record { accepts = refl; answers = refl; counts = refl; leaves = refl },
  (record { accepts = refl; answers = refl; counts = refl; leaves = refl }, (record { accepts = refl; answers = refl; counts = refl; leaves = refl }, (record { accepts = refl; answers = refl; counts = refl; leaves = refl }, tt))),
)

-- situations 1, 6, 10 and 11
pub situations_without_sites : SituationsWithoutSites
unfolding at_site removal situations site_situations
situations_without_sites = each (λ (x : Situation). Member (situation_without_sites x) situations) (
  here refl,
  (there (there (there (there (there (here refl))))), (there (there (there (there (there (there (there (there (there (here refl))))))))), (there (there (there (there (there (there (there (there (there (there (here refl)))))))))), tt))),
)

pub blocks_without_site : BlocksWithoutSite
unfolding example_block site_block sum_words overwrite with_check
blocks_without_site = record { coded = refl; plain = refl }
