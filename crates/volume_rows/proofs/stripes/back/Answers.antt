use Rattle.std.proofs.Common.{rules}
use Rattle.volume_rows.proofs.stripes.back.Goals as goal

pub back-requires-clause-apart : goal.back-requires-clause-apart
back-requires-clause-apart c = c.is_right.ensures.apart (search rules)
