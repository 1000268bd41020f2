use Rattle.std.proofs.Common.{◌≡◌, ◌++◌, ◌-◌}
use Rattle.script_text.specs.Generator.{after_ops, ops_from}
use Rattle.script_text.proofs.big.ops.Given as goal

abbrev pub invariant-loop-i : goal.invariant-loop-i
invariant-loop-i l = record {
  made : l.ops.items ++ ops_from (l.n - l._i) l.draws.state ≡ ops_from l.n l.initial.draws.state;
  state : after_ops (l.n - l._i) l.draws.state ≡ after_ops l.n l.initial.draws.state;
}
