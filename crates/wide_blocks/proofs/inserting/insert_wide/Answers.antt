use Rattle.std.proofs.Common.{rules, ◌≡◌, ◌+◌, ◌*◌, ◌≤◌, length, true}
use Rattle.wide_blocks.specs.Layouts.{is_good, stride_of}
use Rattle.wide_blocks.specs.Moved.{block_at, inserted_block}
use Rattle.wide_blocks.proofs.Moves.{inserts_more}
use Rattle.pi_blocks.proofs.Puts.{puts_none}
use Rattle.wide_blocks.proofs.inserting.insert_wide.Goals as goal

pub loop-i-init : goal.loop-i-init
loop-i-init c = puts_none (block_at c.args.layout.now) (inserted_block c.args.layout.now c.args.tags.now c.args.body.now c.args.blocks.now) (0 * stride_of c.args.layout.now) c.args.blocks.now

pub loop-i-preserved : goal.loop-i-preserved
loop-i-preserved c =
    let good : is_good c.args.layout.now ≡ true = search rules in
    let inside : c.loop-i.i * stride_of c.args.layout.now + stride_of c.args.layout.now ≤ length c.loop-i.blocks = search rules in
    let more : c.loop-i.i * c.args.layout.now.data_size + c.args.layout.now.data_size ≤ length c.args.body.now = search rules in
    let as_long : length c.loop-i.blocks ≡ length c.args.blocks.now = search rules in
    inserts_more c.args.layout.now c.args.tags.now c.args.body.now c.loop-i.i c.args.blocks.now c.loop-i.blocks c.fill.new.blocks good inside as_long more c.loop-i.invariant c.fill.ensures
