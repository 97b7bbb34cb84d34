use Rattle.mentions.proofs.Adding.{added_none, added_room, added_next, added_all}
use Rattle.mentions.proofs.Keeping.{keeps_itself, keeps_more, ready_after}
use Rattle.mentions.proofs.Tally.add_messages.Goals as goal

pub loop-i-init : goal.loop-i-init
loop-i-init c = record {
  added = added_none _ _ c.word_at-n.ensures c.requires.b_len;
  kept = keeps_itself _ c.requires.ready.alike;
}

pub add_message-requires : goal.add_message-requires
add_message-requires c =
    ready_after c.requires.ready c.loop-i.invariant.kept (added_room c.loop-i.invariant.added c.requires.ready.below)

pub loop-i-preserved : goal.loop-i-preserved
loop-i-preserved c =
    let kept = c.loop-i.invariant.kept in
    record {
      added = added_next c.loop-i.invariant.added c.loop-i-test.true c.place_at.ensures c.message_of.ensures (rw kept.index at c.add_message.ensures.added);
      kept = keeps_more kept c.add_message.ensures.kept;
    }

pub returns : goal.returns
returns c = record { added = added_all c.loop-i.invariant.added c.loop-i-test.false; kept = c.loop-i.invariant.kept }
