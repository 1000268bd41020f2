use Rattle.std.proofs.Common.{rules, ◌≡◌, ◌+◌, ◌*◌, ◌≤◌, length, true}
use Rattle.wide_blocks.specs.Blocks.{in_line}
use Rattle.wide_blocks.specs.Layouts.{is_good, stride_of}
use Rattle.wide_blocks.specs.Made.{made_bytes, place_in_line}
use Rattle.wide_blocks.proofs.Makes.{makes_more}
use Rattle.pi_blocks.proofs.Puts.{puts_none}
use Rattle.wide_blocks.proofs.making.generate_wide.Goals as goal

pub loop-i-init : goal.loop-i-init
loop-i-init c = puts_none (place_in_line c.args.layout.now) (made_bytes c.args.layout.now c.args.tags.now (in_line c.args.layout.now c.args.blocks.now)) (0 * stride_of c.args.layout.now) c.args.blocks.now

pub loop-i-preserved : goal.loop-i-preserved
loop-i-preserved c =
    let good : is_good c.args.layout.now ≡ true = search rules in
    let inside : c.loop-i.i * stride_of c.args.layout.now + stride_of c.args.layout.now ≤ length c.loop-i.blocks = search rules in
    makes_more c.args.layout.now c.args.tags.now c.loop-i.i c.args.blocks.now c.loop-i.blocks c.make.new.blocks good inside c.loop-i.invariant c.make.ensures
