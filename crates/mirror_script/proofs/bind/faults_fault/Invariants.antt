use Rattle.std.proofs.Common.{◌≡◌, [], drop, take}
use Rattle.mirror_script.specs.MirrorFaults.{faults_fault}
use Rattle.mirror_script.proofs.bind.faults_fault.Given as goal

abbrev pub invariant-loop-i : goal.invariant-loop-i
invariant-loop-i l =
    faults_fault l.script.mode.protect l.stored l.script.ops (take l.i l.script.faults) (drop l.i l.script.faults) (drop l.i l.script.lines)
    ≡ faults_fault l.script.mode.protect l.stored l.script.ops [] l.script.faults l.script.lines
