use Rattle.std.proofs.Common.{rules, ◌+◌, ◌*◌, ◌≤◌, ◌∙◌, length, sym, arith}
use Rattle.pi_blocks.specs.Blocks.{in_line}
use Rattle.pi_blocks.specs.Inserted.{place_of_data}
use Rattle.pi_blocks.specs.Layouts.{stride_of}
use Rattle.pi_blocks.specs.Stripped.{held}
use Rattle.pi_blocks.proofs.Checks.{one_more}
use Rattle.pi_blocks.proofs.Inserts.{strips_more}
use Rattle.pi_blocks.proofs.Puts.{puts_none}
use Rattle.pi_blocks.proofs.stripping.strip.Goals as goal

pub loop-i-init : goal.loop-i-init
loop-i-init c =
    let l = c.args.layout.now in
    record {
      fine = λ k from lt. absurd (omega (arith, lt));
      copied = puts_none (place_of_data l) (held l c.args.blocks.now) (0 * l.data_size) c.args.body.now;
    }

pub loop-i-preserved : goal.loop-i-preserved
loop-i-preserved c =
    let h = c.loop-i.invariant in
    let l = c.args.layout.now in
    let inside : c.loop-i.i * stride_of c.args.layout.now + stride_of c.args.layout.now ≤ length c.args.blocks.now = search rules in
    let room : c.loop-i.i * c.args.layout.now.data_size + c.args.layout.now.data_size ≤ length c.loop-i.body = search rules in
    record {
      fine = one_more l c.args.want.now (in_line l c.args.blocks.now) 0 c.loop-i.i h.fine (sym c.strip_one.ensures.found ∙ c.in_default.is);
      copied = strips_more l c.loop-i.i c.args.blocks.now c.args.body.now c.loop-i.body c.strip_one.new.body inside room h.copied (c.strip_one.ensures.copied c.in_default.is);
    }
