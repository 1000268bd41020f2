use Rattle.std.proofs.Common.{ap, ◌∙◌}
use Rattle.wide_blocks.specs.Information.{fields_of, info_in}
use Rattle.wide_blocks.proofs.information.Information.from_bytes.Goals as goal

pub returns : goal.returns
unfolding info_in
returns c = c.of_number.ensures ∙ ap (fields_of c.args.layout) c.from_be_bytes.ensures
