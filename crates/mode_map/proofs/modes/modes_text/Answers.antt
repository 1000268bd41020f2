use Rattle.mode_map.proofs.NearFlips.{first_finders}
use Rattle.mode_map.proofs.modes.modes_text.Goals as goal

pub returns-in_err-add_four-clause-first : goal.returns-in_err-add_four-clause-first
returns-in_err-add_four-clause-first c = first_finders c.args.ty

pub returns-in_err-add_four-2-clause-first : goal.returns-in_err-add_four-2-clause-first
returns-in_err-add_four-2-clause-first c = first_finders c.args.ty

pub returns-clause-first : goal.returns-clause-first
returns-clause-first c = first_finders c.args.ty
