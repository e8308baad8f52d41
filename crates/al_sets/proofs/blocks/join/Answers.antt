use Rattle.std.proofs.Common.{arith}
use Rattle.al_sets.proofs.Edits.{joined_more}
use Rattle.al_sets.proofs.blocks.join.Goals as goal

pub loop-block-preserved : goal.loop-block-preserved
loop-block-preserved c = record {
  ascending = c.join_block.ensures.ascending;
  len = omega (arith, c.join_block.ensures.len, c.loop-block.invariant.len);
  capacity = omega (arith, c.join_block.ensures.capacity, c.loop-block.invariant.capacity);
  addresses = λ a.
      joined_more c.args.more.now c.loop-block.block-index _ a _ _ _ c.loop-block-test.true
      (c.join_block.ensures.addresses a) (c.loop-block.invariant.addresses a);
}
