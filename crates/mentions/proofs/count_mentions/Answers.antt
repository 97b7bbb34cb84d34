use Rattle.std.proofs.Common.{arith}
use Rattle.table.proofs.Lines.{numbers_rise, clean_count}
use Rattle.mentions.proofs.Counting.{counted_none, lent_alike, counted_room, counted_next}
use Rattle.mentions.proofs.Keeping.{keeps_itself, keeps_more}
use Rattle.mentions.proofs.count_mentions.Goals as goal

pub loop-k-init : goal.loop-k-init
loop-k-init c =
    let lent = c.requires.counts_value in
    record {
      counted = counted_none _ _ _ _ c.requires.table_value.0 lent.0 lent.1;
      kept = keeps_itself _ (lent_alike _ lent.0 lent.1);
    }

pub add_block-requires : goal.add_block-requires
add_block-requires c =
    let kept = c.loop-k.invariant.kept in
    record {
      b_len = clean_count _ c.requires.table_value.0 _ (omega arith) c.block_at.ensures;
      ready = record {
        rising = rw kept.index (numbers_rise _ _ c.requires.table_value.0 c.requires.table_value.1);
        alike = kept.alike;
        below = counted_room c.loop-k.invariant.counted;
      };
    }

pub loop-k-preserved : goal.loop-k-preserved
loop-k-preserved c =
    let kept = c.loop-k.invariant.kept in
    record {
      counted = counted_next c.loop-k.invariant.counted (omega arith) c.block_at.ensures (rw kept.index at c.add_block.ensures.added);
      kept = keeps_more kept c.add_block.ensures.kept;
    }
