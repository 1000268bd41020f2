use Rattle.std.proofs.Common.{rules, ◌+◌, ◌*◌, ◌≤◌, ◌∙◌, length}
use Rattle.pi_blocks.specs.Blocks.{apart}
use Rattle.pi_blocks.specs.Made.{made_bytes, place_apart}
use Rattle.pi_blocks.specs.Parts.{all_parts, left_of}
use Rattle.pi_blocks.proofs.Aparts.{all_left, makes_more_apart, next_data}
use Rattle.pi_blocks.proofs.Puts.{puts_none}
use Rattle.pi_blocks.proofs.apart.dix_generate.Goals as goal

pub loop-i-init : goal.loop-i-init
loop-i-init c =
    let l = c.args.layout.now in
    record {
      made = puts_none (place_apart l) (made_bytes l c.args.app c.args.first_ref (apart l (all_parts c.args.body.now) c.args.meta.now)) (0 * l.meta_size) c.args.meta.now;
      placed = c.front-place.ensures.inside;
      left = c.front-place.ensures.left ∙ all_left l.data_size (all_parts c.args.body.now);
    }

pub loop-i-preserved : goal.loop-i-preserved
loop-i-preserved c =
    let h = c.loop-i.invariant in
    let l = c.args.layout.now in
    let body = all_parts c.args.body.now in
    let room : c.args.layout.now.tuple_at + 8 ≤ c.args.layout.now.meta_size = search rules in
    let inside : c.loop-i.i * c.args.layout.now.meta_size + c.args.layout.now.meta_size ≤ length c.loop-i.meta = search rules in
    record {
      made = makes_more_apart l c.args.app c.args.first_ref c.loop-i.i body c.args.meta.now c.loop-i.meta c.make.new.meta room inside h.made (c.make.ensures.made body h.left);
      placed = c.make.ensures.placed;
      left = next_data c.loop-i.i l.data_size body (left_of c.args.body.now c.loop-i.place) (left_of c.args.body.now c.make.new.place) h.left c.make.ensures.left;
    }
