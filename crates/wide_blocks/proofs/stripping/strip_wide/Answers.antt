use Rattle.std.proofs.Common.{rules, ◌+◌, ◌*◌, ◌≤◌, length, sym, ◌∙◌, arith}
use Rattle.wide_blocks.specs.Blocks.{in_line}
use Rattle.wide_blocks.specs.Layouts.{stride_of}
use Rattle.wide_blocks.specs.Moved.{data_at, stripped_block}
use Rattle.wide_blocks.proofs.Checks.{one_more}
use Rattle.wide_blocks.proofs.Moves.{strips_more}
use Rattle.pi_blocks.proofs.Puts.{puts_none}
use Rattle.wide_blocks.proofs.stripping.strip_wide.Goals as goal

pub loop-i-init : goal.loop-i-init
loop-i-init c = record {
  fine = λ k from lt. absurd (omega arith);
  copied = puts_none (data_at c.args.layout.now) (stripped_block c.args.layout.now c.args.blocks.now) (0 * c.args.layout.now.data_size) c.args.body.now;
}

pub loop-i-preserved : goal.loop-i-preserved
loop-i-preserved c =
    let l = c.args.layout.now in
    let h = c.loop-i.invariant in
    let inside : c.loop-i.i * stride_of c.args.layout.now + stride_of c.args.layout.now ≤ length c.args.blocks.now = search rules in
    let room : c.loop-i.i * c.args.layout.now.data_size + c.args.layout.now.data_size ≤ length c.loop-i.body = search rules in
    record {
      fine = one_more l c.args.want.now (in_line l c.args.blocks.now) 0 c.loop-i.i h.fine (sym c.look.ensures.found ∙ c.in_default.is);
      copied = strips_more l c.args.blocks.now c.loop-i.i c.args.body.now c.loop-i.body c.copy.new.body inside room h.copied c.copy.ensures;
    }
