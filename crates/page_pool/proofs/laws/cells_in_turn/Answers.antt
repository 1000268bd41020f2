use Rattle.page_pool.proofs.Celled.{gather-append, scatter-append}
use Rattle.page_pool.proofs.laws.cells_in_turn.Goals as goal

pub returns-clause-gathered : goal.returns-clause-gathered
returns-clause-gathered c = gather-append

pub returns-clause-scattered : goal.returns-clause-scattered
returns-clause-scattered c = scatter-append
