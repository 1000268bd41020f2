use Rattle.std.proofs.Common.{rules, ◌+◌, ◌*◌, ◌≤◌, length}
use Rattle.wide_blocks.specs.Layouts.{stride_of}
use Rattle.wide_blocks.specs.Made.{place_in_line}
use Rattle.wide_blocks.specs.Mapped.{mapped_info}
use Rattle.wide_blocks.proofs.Makes.{maps_more}
use Rattle.pi_blocks.proofs.Puts.{puts_none}
use Rattle.wide_blocks.proofs.mapping.exchange_all.Goals as goal

pub loop-i-init : goal.loop-i-init
loop-i-init c = puts_none (place_in_line c.args.layout) (mapped_info c.args.layout c.args.from c.args.to c.args.blocks.now) (0 * stride_of c.args.layout) c.args.blocks.now

pub loop-i-preserved : goal.loop-i-preserved
loop-i-preserved c =
    let inside : c.loop-i.i * stride_of c.args.layout + stride_of c.args.layout ≤ length c.loop-i.blocks = search rules in
    maps_more c.args.layout c.args.from c.args.to c.loop-i.i c.args.blocks.now c.loop-i.blocks c.exchange.new.blocks c.requires.good inside c.loop-i.invariant c.exchange.ensures
