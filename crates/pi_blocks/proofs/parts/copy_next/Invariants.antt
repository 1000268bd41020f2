use Rattle.std.proofs.Common.{◌≡◌, ◌≤◌, ◌-◌, ◌+◌, length, take, drop}
use Rattle.pi_blocks.specs.Parts.{IsInside, left_in}
use Rattle.pi_blocks.proofs.parts.copy_next.Given as goal

abbrev pub invariant-loop-done : goal.invariant-loop-done
invariant-loop-done g l = record {
  inside : IsInside g.P.Readable.read l.parts l.place;
  long : length l.out ≡ length l.initial.out;
  within : l.done ≤ length l.out;
  left : left_in g.P.Readable.read l.parts l.place ≡ drop l.done (left_in g.P.Readable.read l.parts l.initial.place);
  copied : take l.done l.out ≡ take l.done (left_in g.P.Readable.read l.parts l.initial.place);
}

abbrev pub decreases-loop-done : goal.decreases-loop-done
decreases-loop-done g l = length l.out - l.done + (length l.parts - l.place.part)
