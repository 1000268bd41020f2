use Rattle.std.proofs.Common.{◌≡◌, ◌++◌, ◌-◌}
use Rattle.script_text.specs.Generator.{schedule_from}
use Rattle.script_text.proofs.big.schedule.Given as goal

abbrev pub invariant-loop-i : goal.invariant-loop-i
invariant-loop-i l = l.entries.items ++ schedule_from (l.n - l._i) l.draws.state ≡ schedule_from l.n l.initial.draws.state
