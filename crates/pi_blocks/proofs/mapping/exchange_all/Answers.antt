use Rattle.std.proofs.Common.{rules, ◌+◌, ◌*◌, ◌≤◌, length}
use Rattle.pi_blocks.specs.Layouts.{stride_of}
use Rattle.pi_blocks.specs.Mapped.{mapped_tag, tag_place}
use Rattle.pi_blocks.proofs.Puts.{puts_none}
use Rattle.pi_blocks.proofs.Maps.{maps_more}
use Rattle.pi_blocks.proofs.mapping.exchange_all.Goals as goal

pub loop-i-init : goal.loop-i-init
loop-i-init c = puts_none (tag_place c.args.layout) (mapped_tag c.args.layout c.args.from c.args.to c.args.blocks.now) (0 * stride_of c.args.layout) c.args.blocks.now

pub loop-i-preserved : goal.loop-i-preserved
loop-i-preserved c =
    let fits : c.args.layout.tuple_at + 8 ≤ c.args.layout.meta_size = search rules in
    let inside : c.loop-i.i * stride_of c.args.layout + stride_of c.args.layout ≤ length c.loop-i.blocks = search rules in
    maps_more c.args.layout c.args.from c.args.to c.loop-i.i c.args.blocks.now c.loop-i.blocks c.exchange.new.bytes fits c.requires.tagged inside c.loop-i.invariant (search rules)
