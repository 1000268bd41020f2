use Rattle.page_pool.proofs.Cutting.{past-past, places-past, places-upto, total-past}
use Rattle.page_pool.proofs.Spreads.{range-past}
use Rattle.page_pool.proofs.laws.a_walk_goes_on.Goals as goal

pub returns-clause-on : goal.returns-clause-on
returns-clause-on c = λ segs a b. past-past b a segs

pub returns-clause-left : goal.returns-clause-left
returns-clause-left c = λ segs at. total-past at segs

pub returns-clause-ahead : goal.returns-clause-ahead
returns-clause-ahead c = range-past

pub returns-clause-places : goal.returns-clause-places
returns-clause-places c = λ segs at. places-past at segs

pub returns-clause-first : goal.returns-clause-first
returns-clause-first c = λ segs most. places-upto most segs
