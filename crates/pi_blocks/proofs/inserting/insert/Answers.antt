use Rattle.std.proofs.Common.{rules, ◌+◌, ◌*◌, ◌≤◌, ◌∙◌, length}
use Rattle.pi_blocks.specs.Inserted.{inserted_block, place_of_block}
use Rattle.pi_blocks.specs.Layouts.{stride_of}
use Rattle.pi_blocks.specs.Parts.{all_parts, left_of}
use Rattle.pi_blocks.proofs.Aparts.{all_left, next_data}
use Rattle.pi_blocks.proofs.Inserts.{inserts_more}
use Rattle.pi_blocks.proofs.Puts.{puts_none}
use Rattle.pi_blocks.proofs.inserting.insert.Goals as goal

pub loop-i-init : goal.loop-i-init
loop-i-init c =
    let l = c.args.layout.now in
    let body = all_parts c.args.body.now in
    record {
      made = puts_none (place_of_block l) (inserted_block l c.args.app c.args.first_ref body c.args.blocks.now) (0 * stride_of l) c.args.blocks.now;
      placed = c.front-place.ensures.inside;
      left = c.front-place.ensures.left ∙ all_left l.data_size body;
    }

pub loop-i-preserved : goal.loop-i-preserved
loop-i-preserved c =
    let h = c.loop-i.invariant in
    let l = c.args.layout.now in
    let body = all_parts c.args.body.now in
    let inside : c.loop-i.i * stride_of c.args.layout.now + stride_of c.args.layout.now ≤ length c.loop-i.blocks = search rules in
    record {
      made = inserts_more l c.args.app c.args.first_ref c.loop-i.i c.stride-stride.result body c.args.blocks.now c.loop-i.blocks c.fill.new.block c.stride-stride.ensures inside h.made c.fill.ensures.long (c.fill.ensures.made body h.left);
      placed = c.fill.ensures.placed;
      left = next_data c.loop-i.i l.data_size body (left_of c.args.body.now c.loop-i.place) (left_of c.args.body.now c.fill.new.place) h.left c.fill.ensures.left;
    }
