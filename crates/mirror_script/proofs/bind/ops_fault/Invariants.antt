use Rattle.std.proofs.Common.{◌≡◌, ◌+◌, drop, length}
use Rattle.mirror_script.specs.MirrorFaults.{ops_fault}
use Rattle.mirror_script.proofs.bind.ops_fault.Given as goal

abbrev pub invariant-loop-i : goal.invariant-loop-i
invariant-loop-i l =
    ops_fault l.script.mode.protect l.against.table.now l.against.devices.now l.against.size (drop l.i l.script.ops) (drop (length l.script.faults + l.i) l.script.lines)
    ≡ ops_fault l.script.mode.protect l.against.table.now l.against.devices.now l.against.size l.script.ops (drop (length l.script.faults) l.script.lines)
