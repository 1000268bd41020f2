use Rattle.std.proofs.Common.{◌≡◌, ◌+◌, ◌-◌, ◌≤◌, length, take}
use Rattle.pi_guard.specs.Register.{register}
use Rattle.pi_guard.specs.Trails.{after_64, owed}
use Rattle.pi_guard.proofs.narrow.whole_window.Given as goal

abbrev pub invariant-loop-at : goal.invariant-loop-at
invariant-loop-at l = (l.at + 64 ≤ length l.part) × (owed l.trail ≡ after_64 (register l.start (take l.at l.part)))

abbrev pub decreases-loop-at : goal.decreases-loop-at
decreases-loop-at l = length l.part - l.at
