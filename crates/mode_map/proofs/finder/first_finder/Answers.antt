use Rattle.mode_map.proofs.NearFlips.{is_first}
use Rattle.mode_map.proofs.finder.first_finder.Goals as goal

pub returns-clause-first : goal.returns-clause-first
returns-clause-first c = is_first c.args.mode.now c.args.ty c.args.at c.finder.result c.requires c.finder.ensures
