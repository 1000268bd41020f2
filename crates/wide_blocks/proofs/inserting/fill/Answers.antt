use Rattle.std.proofs.Common.{◌∙◌}
use Rattle.wide_blocks.proofs.Moves.{inserted_one}
use Rattle.wide_blocks.proofs.inserting.fill.Goals as goal

pub returns : goal.returns
returns c =
    c.make.ensures ∙ inserted_one c.args.layout c.args.tags c.args.body.now c.args.blocks.now c.put_data.new.blocks c.args.i c.requires.good c.requires.inside c.requires.more c.put_data.ensures
