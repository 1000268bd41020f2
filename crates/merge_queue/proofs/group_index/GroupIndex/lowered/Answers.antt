use Rattle.std.proofs.Common.{arith, length}
use Rattle.merge_queue.specs.Groups.{may_join}
use Rattle.merge_queue.proofs.Firsts.{none-passed}
use Rattle.merge_queue.proofs.group_index.GroupIndex.lowered.Goals as goal

pub returns-then-pairs-eq0-clause-behind : goal.returns-then-pairs-eq0-clause-behind
returns-then-pairs-eq0-clause-behind c j l m =
    none-passed (may_join c.args.lim.now c.args.self.now.groups c.args.i) 0 (length c.args.self.now.groups) (omega (arith, c.requires.pairs, c.if-pairs-eq0.true)) j (omega arith) (omega arith)

pub returns-then-pairs-eq0-clause-before : goal.returns-then-pairs-eq0-clause-before
returns-then-pairs-eq0-clause-before c j l m =
    none-passed (λ k. may_join c.args.lim.now c.args.self.now.groups k c.args.i) 0 (length c.args.self.now.groups) (omega (arith, c.requires.pairs, c.if-pairs-eq0.true)) j (omega arith) (omega arith)
