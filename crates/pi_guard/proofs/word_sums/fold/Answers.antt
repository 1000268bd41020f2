use Rattle.std.proofs.Common.{arith}
use Rattle.pi_guard.proofs.Sums.{fold_none, fold_some}
use Rattle.pi_guard.proofs.word_sums.fold.Goals as goal

pub returns-then-sum-eq0 : goal.returns-then-sum-eq0
returns-then-sum-eq0 c = fold_none c.args.sum (search arith)

pub returns-else-sum-eq0 : goal.returns-else-sum-eq0
returns-else-sum-eq0 c = fold_some c.args.sum (omega arith)
