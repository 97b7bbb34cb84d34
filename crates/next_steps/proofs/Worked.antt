-- The worked examples are computed.
use mathlib.Core.Path.{refl}
use Rattle.lists.specs.Lists.{all, any, keep, insert, remove_first}
use Rattle.line.specs.Answer.{is_done, ◌>>=◌, require, unless_held}
use Rattle.line.specs.Message.{removal, same, precedes}
use Rattle.line.specs.Node.{beyond, side_of, with_neighbour}
use Rattle.line.specs.Nidec.{is_neighbour, names, is_empty}
use Rattle.line.specs.Leave.{holder_of, leave_of}
use Rattle.line.specs.Act.{send_to, notice, timeout, meet, introduced, drop_neighbour, removed, received, introduce_both, act}
use Rattle.line.specs.Step.{find, change, without, replace, with_message, send_all, has_room, commit, step}
use Rattle.next_steps.specs.Allowed.{messages_of, actions_of, each_with}
use Rattle.next_steps.specs.Examples.{FirstStepsShow}

pub first_steps_show : FirstStepsShow
unfolding all any keep insert remove_first is_done require ◌>>=◌ removal same precedes beyond side_of with_neighbour is_neighbour names is_empty holder_of leave_of unless_held send_to notice timeout meet introduced drop_neighbour removed received introduce_both act find change without replace with_message send_all has_room commit step messages_of actions_of each_with
first_steps_show = record { empty = refl; sole = refl; stays = refl; neighboured = refl; introduced = refl; holding = refl; copies = refl; room = refl; full = refl }
