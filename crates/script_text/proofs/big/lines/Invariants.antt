use Rattle.std.proofs.Common.{◌≡◌, ◌++◌, ◌+◌, ◌-◌}
use Rattle.script_text.specs.Generator.{numbers_from}
use Rattle.script_text.proofs.big.lines.Given as goal

abbrev pub invariant-loop-i : goal.invariant-loop-i
invariant-loop-i l = record {
  made : l.lines.items ++ numbers_from (l.n - l._i) l.number ≡ numbers_from l.n l.first;
  bound : l.number ≡ l.first + l._i;
}
