use Rattle.std.proofs.Common.{◌∙◌, sym, arith}
use Rattle.pi_blocks.specs.Blocks.{in_line}
use Rattle.pi_blocks.specs.Layouts.{stride_of}
use Rattle.pi_blocks.specs.Parts.{all_parts, left_of}
use Rattle.pi_blocks.proofs.Aparts.{next_data}
use Rattle.pi_blocks.proofs.Checks.{one_more}
use Rattle.pi_blocks.proofs.spread.verify_spread.Goals as goal

pub loop-i-preserved : goal.loop-i-preserved
loop-i-preserved c =
    let h = c.loop-i.invariant in
    let l = c.args.layout.now in
    let all = all_parts c.args.blocks.now in
    let left = h.left (omega arith) in
    record {
      fine = one_more l c.args.want.now (in_line l all) c.args.start c.loop-i.i h.fine (sym (c.look.ensures.found all left) ∙ c.in_default.is);
      placed = c.look.ensures.placed;
      left = λ _. next_data c.loop-i.i (stride_of l) all (left_of c.args.blocks.now c.loop-i.place) (left_of c.args.blocks.now c.look.new.place) left c.look.ensures.left;
    }
