use Rattle.std.proofs.Common.{◌≡◌, map}
use Rattle.script_text.specs.Crossings.{crossed}
use Rattle.script_text.proofs.draft.crossed.Given as goal

abbrev pub invariant-loop-fault : goal.invariant-loop-fault
invariant-loop-fault l = l.lines.items ≡ map (crossed l.third l.ops) l.yielded
