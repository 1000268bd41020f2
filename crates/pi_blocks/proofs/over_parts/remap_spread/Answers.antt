use Rattle.std.proofs.Common.{rules, ◌≡◌, ◌/◌, length, false, sym}
use Rattle.pi_tuple.specs.Finds.{has_ref_tag}
use Rattle.pi_blocks.specs.Layouts.{stride_of, type_of}
use Rattle.pi_blocks.specs.Parts.{all_parts_mut}
use Rattle.pi_blocks.proofs.Maps.{unmapped}
use Rattle.pi_blocks.proofs.over_parts.remap_spread.Goals as goal

pub returns-else-has_ref_tag-clause-mapped : goal.returns-else-has_ref_tag-clause-mapped
returns-else-has_ref_tag-clause-mapped c =
    let none : has_ref_tag (type_of c.args.layout.now.pi_type) ≡ false = search rules in
    let all = all_parts_mut c.args.blocks.now in
    (search rules, sym (unmapped c.args.layout.now c.args.from c.args.to (length all / stride_of c.args.layout.now) all none))
