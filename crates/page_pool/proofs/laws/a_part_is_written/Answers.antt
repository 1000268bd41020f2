use Rattle.page_pool.proofs.Paging.{wrote-with_part, whole-with_part, part-is}
use Rattle.page_pool.proofs.Placing.{all_lie-same}
use Rattle.page_pool.proofs.laws.a_part_is_written.Goals as goal

pub returns-clause-wrote : goal.returns-clause-wrote
returns-clause-wrote c = wrote-with_part

pub returns-clause-whole : goal.returns-clause-whole
returns-clause-whole c = whole-with_part

pub returns-clause-part : goal.returns-clause-part
returns-clause-part c = part-is

pub returns-clause-lie : goal.returns-clause-lie
returns-clause-lie c = all_lie-same
