use Rattle.block_path.proofs.Acts.{commutes, no_conflict_back}
use Rattle.block_path.proofs.laws.acts_without_conflict_commute.Goals as goal

pub returns-clause-commute : goal.returns-clause-commute
returns-clause-commute g c = commutes

pub returns-clause-both_ways : goal.returns-clause-both_ways
returns-clause-both_ways g c = λ a b h. no_conflict_back a b h
