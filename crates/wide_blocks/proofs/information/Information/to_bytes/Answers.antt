use Rattle.std.proofs.Common.{ap, ◌∙◌}
use Rattle.std.specs.Int.{to_be_bytes, w128}
use Rattle.wide_blocks.specs.Information.{info_bytes}
use Rattle.wide_blocks.proofs.information.Information.to_bytes.Goals as goal

pub returns : goal.returns
unfolding info_bytes
returns c = c.to_be_bytes.ensures ∙ ap (to_be_bytes w128) c.number.ensures
