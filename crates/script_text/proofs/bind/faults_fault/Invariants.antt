use Rattle.std.proofs.Common.{◌≡◌, [], drop, take}
use Rattle.script_text.specs.Bindings.{faults_fault}
use Rattle.script_text.proofs.bind.faults_fault.Given as goal

abbrev pub invariant-loop-i : goal.invariant-loop-i
invariant-loop-i l =
    faults_fault l.against.table.now l.against.devices.now l.against.size l.script.ops (take l.i l.script.faults) (drop l.i l.script.faults) (drop l.i l.script.lines)
    ≡ faults_fault l.against.table.now l.against.devices.now l.against.size l.script.ops [] l.script.faults l.script.lines
