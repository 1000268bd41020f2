use Rattle.std.proofs.Common.{◌≡◌, ◌≤◌, length, replicate}
use Rattle.std.specs.Vec.{vec_capacity}
use Rattle.stack_ops.specs.declared.reply.Reply.TheVariants.{Silent}
use Rattle.stack_core.proofs.start.silent.Given as goal

abbrev pub invariant-loop : goal.invariant-loop
invariant-loop l = record { replies : l.replies.items ≡ replicate l.counter Silent; count : length l.replies.items ≡ l.counter; room : l.n ≤ vec_capacity l.replies }
