use Rattle.std.proofs.Common.{◌≡◌, false, take}
use Rattle.dix_adapter.specs.Carried.{any_fails}
use Rattle.dix_adapter.proofs.outward.has_bad.Given as goal

abbrev pub invariant-loop-fate : goal.invariant-loop-fate
invariant-loop-fate l = any_fails (take l.fate-index l.fates) ≡ false
