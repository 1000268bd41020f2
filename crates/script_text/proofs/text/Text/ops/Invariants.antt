use Rattle.std.proofs.Common.{◌≡◌, ◌++◌, drop}
use Rattle.script_text.specs.Printed.{ops_text}
use Rattle.script_text.proofs.text.Text.ops.Given as goal

abbrev pub invariant-loop-op : goal.invariant-loop-op
invariant-loop-op l = l.self.bytes.items ++ ops_text (drop l.op-index l.ops) ≡ l.initial.self.bytes.items ++ ops_text l.ops
