use Rattle.stack_core.specs.Stacks.{plan_in}
use Rattle.stack_core.proofs.AllSent.{all_sent, few_sent}
use Rattle.stack_core.proofs.ListsAll.{lists_all}
use Rattle.stack_core.proofs.laws.a_finished_stack_has_sent.Goals as goal

pub returns : goal.returns
returns c = record {
  few = λ es s log k x. few_sent es (plan_in s.sheet) s.machine s.kept.starts.items s.kept.held.items log s.sheet.right.fine.on_devices x;
  all = λ es s log m n opening first st whole k x w none lists.
      all_sent es (plan_in s.sheet) s.machine s.kept.starts.items s.kept.held.items log s.sheet.right.fine.on_devices x (none x.view x.holds) (lists_all m n opening first s st whole k w none lists x.view x.holds);
}
