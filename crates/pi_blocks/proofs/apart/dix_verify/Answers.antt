use Rattle.std.proofs.Common.{◌∙◌, sym, arith}
use Rattle.pi_blocks.specs.Blocks.{apart}
use Rattle.pi_blocks.specs.Parts.{all_parts, left_of}
use Rattle.pi_blocks.proofs.Aparts.{next_data}
use Rattle.pi_blocks.proofs.Checks.{one_more}
use Rattle.pi_blocks.proofs.apart.dix_verify.Goals as goal

pub loop-i-preserved : goal.loop-i-preserved
loop-i-preserved c =
    let h = c.loop-i.invariant in
    let body = all_parts c.args.body.now in
    let left = h.left (omega arith) in
    record {
      fine = one_more c.args.layout.now c.args.want.now (apart c.args.layout.now body c.args.meta.now) c.args.start c.loop-i.i h.fine (sym (c.look.ensures.found body left) ∙ c.in_default.is);
      placed = c.look.ensures.placed;
      left = λ _. next_data c.loop-i.i c.args.layout.now.data_size body (left_of c.args.body.now c.loop-i.place) (left_of c.args.body.now c.look.new.place) left c.look.ensures.left;
    }
