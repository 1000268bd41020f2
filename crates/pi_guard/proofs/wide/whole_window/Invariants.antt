use Rattle.std.proofs.Common.{◌≡◌, ◌+◌, ◌-◌, ◌≤◌, length, take}
use Rattle.pi_guard.specs.Register.{register}
use Rattle.pi_guard.specs.Trails.{after_128, wide_owed}
use Rattle.pi_guard.proofs.wide.whole_window.Given as goal

abbrev pub invariant-loop-at : goal.invariant-loop-at
invariant-loop-at l = (l.at + 128 ≤ length l.part) × (wide_owed l.trail ≡ after_128 (register l.start (take l.at l.part)))

abbrev pub decreases-loop-at : goal.decreases-loop-at
decreases-loop-at l = length l.part - l.at
