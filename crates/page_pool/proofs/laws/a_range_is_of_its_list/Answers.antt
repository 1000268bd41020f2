use Rattle.page_pool.proofs.Spreads.{range_stands, length-range, range-all, once-range}
use Rattle.page_pool.proofs.Ranges.{apart-ranges, apart-lists}
use Rattle.page_pool.proofs.Cutting.{places-cut, cut-few, cut-fewer}
use Rattle.page_pool.proofs.Joins.{joined-parts, lie-cut}
use Rattle.page_pool.proofs.laws.a_range_is_of_its_list.Goals as goal

pub returns-clause-stands : goal.returns-clause-stands
returns-clause-stands c = range_stands

pub returns-clause-long : goal.returns-clause-long
returns-clause-long c = length-range

pub returns-clause-once : goal.returns-clause-once
returns-clause-once c = once-range

pub returns-clause-behind : goal.returns-clause-behind
returns-clause-behind c = apart-ranges

pub returns-clause-apart : goal.returns-clause-apart
returns-clause-apart c = apart-lists

pub returns-clause-cut : goal.returns-clause-cut
returns-clause-cut c = λ segs at len. record { names = places-cut segs at len; few = cut-few segs at len; fewer = cut-fewer segs at len }

pub returns-clause-lies : goal.returns-clause-lies
returns-clause-lies c = lie-cut

pub returns-clause-joined : goal.returns-clause-joined
returns-clause-joined c = joined-parts

pub returns-clause-all : goal.returns-clause-all
returns-clause-all c = range-all
