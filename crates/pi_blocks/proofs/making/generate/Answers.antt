use Rattle.std.proofs.Common.{rules, ◌+◌, ◌*◌, ◌≤◌, length}
use Rattle.pi_blocks.specs.Blocks.{in_line}
use Rattle.pi_blocks.specs.Layouts.{stride_of}
use Rattle.pi_blocks.specs.Made.{made_bytes, place_in_line}
use Rattle.pi_blocks.proofs.Makes.{makes_more}
use Rattle.pi_blocks.proofs.Puts.{puts_none}
use Rattle.pi_blocks.proofs.making.generate.Goals as goal

pub loop-i-init : goal.loop-i-init
loop-i-init c =
    puts_none (place_in_line c.args.layout.now) (made_bytes c.args.layout.now c.args.app c.args.first_ref (in_line c.args.layout.now c.args.blocks.now)) (0 * stride_of c.args.layout.now) c.args.blocks.now

pub loop-i-preserved : goal.loop-i-preserved
loop-i-preserved c =
    let room : c.args.layout.now.tuple_at + 8 ≤ c.args.layout.now.meta_size = search rules in
    let inside : c.loop-i.i * stride_of c.args.layout.now + stride_of c.args.layout.now ≤ length c.loop-i.blocks = search rules in
    makes_more c.args.layout.now c.args.app c.args.first_ref c.loop-i.i c.args.blocks.now c.loop-i.blocks c.make.new.blocks room inside c.loop-i.invariant c.make.ensures
