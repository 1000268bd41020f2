use Rattle.std.proofs.Common.{rules, ◌+◌, ◌*◌, ◌≤◌, ◌∙◌, length, refl, arith}
use Rattle.pi_blocks.specs.Layouts.{stride_of}
use Rattle.pi_blocks.specs.Mapped.{mapped_tag, tag_place}
use Rattle.pi_blocks.specs.Parts.{all_parts_mut, bytes_of_mut, left_in}
use Rattle.pi_blocks.proofs.Aparts.{all_left, next_data}
use Rattle.pi_blocks.proofs.Maps.{maps_more}
use Rattle.pi_blocks.proofs.Puts.{puts_none}
use Rattle.pi_blocks.proofs.Written.{same_length, same_on}
use Rattle.pi_blocks.proofs.over_parts.map_all.Goals as goal

pub loop-i-init : goal.loop-i-init
loop-i-init c =
    let l = c.args.layout in
    let all = all_parts_mut c.args.blocks.now in
    record {
      mapped = puts_none (tag_place l) (mapped_tag l c.args.from c.args.to all) (0 * stride_of l) all;
      placed = c.front-place.ensures.inside;
      left = c.front-place.ensures.left ∙ all_left (stride_of l) all;
      same = record { there = refl; long = refl };
    }

pub loop-i-preserved : goal.loop-i-preserved
loop-i-preserved c =
    let h = c.loop-i.invariant in
    let l = c.args.layout in
    let i = c.loop-i.i in
    let old = c.args.blocks.now in
    let now = c.loop-i.blocks in
    let new = c.map_block.new.parts in
    let fits : l.tuple_at + 8 ≤ l.meta_size = search rules in
    let all : i * stride_of l + stride_of l ≤ length (all_parts_mut old) = search rules in
    let inside : i * stride_of l + stride_of l ≤ length (all_parts_mut now) = omega (arith, all, same_length old now h.same) in
    record {
      mapped = maps_more l c.args.from c.args.to i (all_parts_mut old) (all_parts_mut now) (all_parts_mut new) fits c.requires.tagged inside h.mapped c.map_block.ensures.mapped;
      placed = c.map_block.ensures.placed;
      left = next_data i (stride_of l) (all_parts_mut old) (left_in bytes_of_mut now c.loop-i.place) (left_in bytes_of_mut new c.map_block.new.place) h.left c.map_block.ensures.left;
      same = same_on old now new h.same c.map_block.ensures.same;
    }
