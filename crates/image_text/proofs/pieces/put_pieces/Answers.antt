use Rattle.std.proofs.Common.{arith}
use Rattle.image_text.proofs.Making.{made_on}
use Rattle.image_text.proofs.pieces.put_pieces.Goals as goal

pub loop-i-preserved : goal.loop-i-preserved
loop-i-preserved c = record {
  few = omega (arith, c.loop-i-test.true);
  made = made_on c.args.layout c.args.unit.ty c.args.unit.size c.args.first c.args.count c.loop-i.i c.stored_len-len.result c.piece_len-each.result c.args.pieces.now c.loop-i.rest.now c.split_at.result.0.now c.split_at.result.1.now c.args.blocks.now
      c.loop-i.blocks c.split_at_mut-behind.result.0.now c.split_at_mut-behind.result.1.now c.split_at_mut-block.result.0.now c.split_at_mut-block.result.1.now c.put_piece.new.block
      c.loop-i-test.true c.stored_len-len.ensures c.piece_len-each.ensures c.loop-i.invariant.made c.split_at_mut-behind.ensures.front c.split_at_mut-behind.ensures.back c.split_at_mut-block.ensures.front c.split_at_mut-block.ensures.back
      c.split_at.ensures.front c.split_at.ensures.back c.put_piece.ensures c.put_piece.auto.block c.split_at_mut-block.ensures.front_len;
}
