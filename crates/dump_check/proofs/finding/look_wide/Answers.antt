use Rattle.std.proofs.Common.{◌/◌, length}
use Rattle.wide_blocks.specs.Blocks.{in_line}
use Rattle.wide_blocks.specs.Layouts.{stride_of}
use Rattle.dump_check.proofs.Blocks.{one_block, one_looked}
use Rattle.dump_check.proofs.finding.look_wide.Goals as goal

pub returns : goal.returns
returns c =
    let checked = c.in-Ok.ensures.checked in
    one_looked c.args.layout c.args.want (in_line c.args.layout c.args.block.now) (length c.args.block.now / stride_of c.args.layout) c.in-Ok.found
    (one_block c.args.layout (length c.args.block.now) checked.0.good c.requires.whole) checked.2
