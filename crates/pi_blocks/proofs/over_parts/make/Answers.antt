use Rattle.std.proofs.Common.{rules, ◌≡◌, ◌+◌, ◌*◌, ◌≤◌, ◌∙◌, length, drop, ap, arith}
use Rattle.std.proofs.lemmas.List.{length-drop}
use Rattle.pi_tuple.specs.Finds.{own_tag}
use Rattle.pi_blocks.specs.Layouts.{covered_of, stride_of, type_of}
use Rattle.pi_blocks.specs.Parts.{all_parts_mut, bytes_of_mut, left_in}
use Rattle.pi_blocks.proofs.Spreads.{behind_tuple, made_spread, next_block_left, tuple_left}
use Rattle.pi_blocks.proofs.over_parts.make.Goals as goal

pub returns-clause-made : goal.returns-clause-made
returns-clause-made c =
    let l = c.args.layout in
    let i = c.args.i in
    let all = all_parts_mut c.args.parts.now in
    let left = left_in bytes_of_mut c.args.parts.now c.args.place.now in
    let guarded = left_in bytes_of_mut c.args.parts.now c.guard_of_next.new.place in
    let covered = c.covered-covered.result in
    let fits : l.tuple_at + 8 ≤ l.meta_size = search rules in
    let there : i * stride_of l + covered_of l ≤ length all = omega (arith, fits, c.requires.more, ap length c.requires.next, length-drop (i * stride_of l) all) in
    let tag : c.own_tag.result ≡ own_tag (type_of l.pi_type) (c.args.first_ref + i) = search rules in
    made_spread l c.args.app c.args.first_ref i all left (all_parts_mut c.write_next.new.parts) c.to_bytes.result covered c.guard_of_next.result c.own_tag.result c.kind.result c.requires.next c.kind.ensures c.covered-covered.ensures
    c.guard_of_next.ensures.guard tag c.to_bytes.ensures.bytes (c.write_next.ensures.written (i * stride_of l + covered_of l) there (tuple_left l all left guarded i covered c.requires.next c.covered-covered.ensures c.guard_of_next.ensures.left))

pub returns-clause-left : goal.returns-clause-left
returns-clause-left c =
    let l = c.args.layout in
    let covered = c.covered-covered.result in
    let stride = c.stride.result in
    let left = left_in bytes_of_mut c.args.parts.now c.args.place.now in
    let guarded = left_in bytes_of_mut c.args.parts.now c.guard_of_next.new.place in
    let written = left_in bytes_of_mut c.write_next.new.parts c.write_next.new.place in
    let eight : length c.to_bytes.result ≡ 8 = ap length c.to_bytes.ensures.bytes in
    let behind = behind_tuple covered left guarded written c.guard_of_next.ensures.left (c.write_next.ensures.left ∙ ap (λ n. drop n guarded) eight) in
    let fits : l.tuple_at + 8 ≤ l.meta_size = search rules in
    let room : covered + 8 ≤ stride = omega (arith, fits, c.covered-covered.ensures, c.stride.ensures) in
    next_block_left stride covered left written (left_in bytes_of_mut c.write_next.new.parts c.skip.new.place) room behind c.skip.ensures.left ∙ ap (λ n. drop n left) c.stride.ensures
