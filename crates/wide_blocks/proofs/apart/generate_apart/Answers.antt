use Rattle.std.proofs.Common.{rules, ◌≡◌, ◌+◌, ◌*◌, ◌≤◌, length, true}
use Rattle.wide_blocks.specs.Blocks.{apart}
use Rattle.wide_blocks.specs.Layouts.{is_good}
use Rattle.wide_blocks.specs.Made.{made_bytes, place_apart}
use Rattle.wide_blocks.proofs.Makes.{makes_more_apart}
use Rattle.pi_blocks.proofs.Puts.{puts_none}
use Rattle.wide_blocks.proofs.apart.generate_apart.Goals as goal

pub loop-i-init : goal.loop-i-init
loop-i-init c = puts_none (place_apart c.args.layout.now) (made_bytes c.args.layout.now c.args.tags.now (apart c.args.layout.now c.args.body.now c.args.meta.now)) (0 * c.args.layout.now.meta_size) c.args.meta.now

pub loop-i-preserved : goal.loop-i-preserved
loop-i-preserved c =
    let good : is_good c.args.layout.now ≡ true = search rules in
    let inside : c.loop-i.i * c.args.layout.now.meta_size + c.args.layout.now.meta_size ≤ length c.loop-i.meta = search rules in
    makes_more_apart c.args.layout.now c.args.tags.now c.loop-i.i c.args.body.now c.args.meta.now c.loop-i.meta c.make.new.meta good inside c.loop-i.invariant c.make.ensures
