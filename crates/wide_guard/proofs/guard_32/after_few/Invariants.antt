use Rattle.std.proofs.Common.{◌≡◌, drop}
use Rattle.wide_guard.specs.Registers.{castagnoli, register}
use Rattle.wide_guard.proofs.guard_32.after_few.Given as goal

abbrev pub invariant-loop-byte : goal.invariant-loop-byte
invariant-loop-byte l = register castagnoli l.state (drop l.byte-index l.part) ≡ register castagnoli l.start l.part
