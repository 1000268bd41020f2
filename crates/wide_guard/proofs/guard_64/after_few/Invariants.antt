use Rattle.std.proofs.Common.{◌≡◌, drop}
use Rattle.wide_guard.specs.Registers.{rocksoft, register}
use Rattle.wide_guard.proofs.guard_64.after_few.Given as goal

abbrev pub invariant-loop-byte : goal.invariant-loop-byte
invariant-loop-byte l = register rocksoft l.state (drop l.byte-index l.part) ≡ register rocksoft l.start l.part
