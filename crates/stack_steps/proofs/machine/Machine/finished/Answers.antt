use Rattle.std.proofs.Common.{arith, ap, length}
use Rattle.std.proofs.lemmas.List.{nil_from_length}
use Rattle.stack_steps.proofs.Step.{none-lives, none-enabled-lives}
use Rattle.stack_steps.proofs.machine.Machine.finished.Goals as goal

pub returns : goal.returns
returns c = λ plan v h. (
  (λ t. none-lives plan c.args.self.now.gate c.args.self.now.ops.items c.args.self.now.live.items c.args.self.now.queues.items c.args.self.now.flight c.args.self.now.steps v h.shows (nil_from_length c.args.self.now.live.items (let n = c.has_none.ensures.0 t in let l = ap length c.as_slice.ensures in omega arith))),
  (λ e. let n = ap length (none-enabled-lives plan c.args.self.now.gate c.args.self.now.ops.items c.args.self.now.live.items c.args.self.now.queues.items c.args.self.now.flight c.args.self.now.steps v h.shows e) in let l = ap length c.as_slice.ensures in c.has_none.ensures.1 (omega arith)),
)
