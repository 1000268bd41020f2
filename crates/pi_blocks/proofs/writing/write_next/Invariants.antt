use Rattle.std.proofs.Common.{◌≡◌, ◌≤◌, ◌-◌, ◌+◌, ◌++◌, length, take, drop}
use Rattle.pi_blocks.specs.Parts.{IsInside, StaySame, before_in, bytes_of_mut, left_in}
use Rattle.pi_blocks.proofs.writing.write_next.Given as goal

abbrev pub invariant-loop-done : goal.invariant-loop-done
invariant-loop-done l = record {
  inside : IsInside bytes_of_mut l.parts l.place;
  within : l.done ≤ length l.bytes;
  count : length l.parts ≡ length l.initial.parts;
  same : StaySame l.initial.parts l.parts;
  left : left_in bytes_of_mut l.parts l.place ≡ drop l.done (left_in bytes_of_mut l.initial.parts l.initial.place);
  before : before_in bytes_of_mut l.parts l.place ≡ before_in bytes_of_mut l.initial.parts l.initial.place ++ take l.done l.bytes;
}

abbrev pub decreases-loop-done : goal.decreases-loop-done
decreases-loop-done l = length l.bytes - l.done + (length l.parts - l.place.part)
