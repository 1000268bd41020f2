use Rattle.page_pool.proofs.Celled.{same-pool, read-cells, wrote-cells, whole_stays, length-flat, below-cells, distinct-cells, apart-cells}
use Rattle.page_pool.proofs.Ranges.{range-sum, tuples-joined}
use Rattle.page_pool.proofs.laws.a_pool_is_cells.Goals as goal

pub returns-clause-read : goal.returns-clause-read
returns-clause-read c = read-cells

pub returns-clause-wrote : goal.returns-clause-wrote
returns-clause-wrote c = wrote-cells

pub returns-clause-same : goal.returns-clause-same
returns-clause-same c = same-pool

pub returns-clause-whole : goal.returns-clause-whole
returns-clause-whole c = whole_stays

pub returns-clause-size : goal.returns-clause-size
returns-clause-size c = length-flat

pub returns-clause-below : goal.returns-clause-below
returns-clause-below c = below-cells

pub returns-clause-distinct : goal.returns-clause-distinct
returns-clause-distinct c = distinct-cells

pub returns-clause-apart : goal.returns-clause-apart
returns-clause-apart c = apart-cells

pub returns-clause-ranges : goal.returns-clause-ranges
returns-clause-ranges c = range-sum

pub returns-clause-tuples : goal.returns-clause-tuples
returns-clause-tuples c = tuples-joined
