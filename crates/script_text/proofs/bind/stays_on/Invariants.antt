use Rattle.std.proofs.Common.{◌≡◌, ◌-◌}
use Rattle.script_text.specs.Bindings.{blocks_stay}
use Rattle.script_text.proofs.bind.stays_on.Given as goal

abbrev pub invariant-loop-i : goal.invariant-loop-i
invariant-loop-i l = blocks_stay l.against.table.now l.against.devices.now l.by l.at (l.n - l._i) ≡ blocks_stay l.against.table.now l.against.devices.now l.by l.v l.n
