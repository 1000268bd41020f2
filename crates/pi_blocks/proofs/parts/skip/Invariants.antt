use Rattle.std.proofs.Common.{◌≡◌, ◌≤◌, ◌-◌, ◌+◌, length, drop}
use Rattle.pi_blocks.specs.Parts.{IsInside, left_in}
use Rattle.pi_blocks.proofs.parts.skip.Given as goal

abbrev pub invariant-loop-wanted : goal.invariant-loop-wanted
invariant-loop-wanted g l = record {
  inside : IsInside g.P.Readable.read l.parts l.place;
  within : l.wanted ≤ l.count;
  enough : l.wanted ≤ length (left_in g.P.Readable.read l.parts l.place);
  left : left_in g.P.Readable.read l.parts l.place ≡ drop (l.count - l.wanted) (left_in g.P.Readable.read l.parts l.initial.place);
}

abbrev pub decreases-loop-wanted : goal.decreases-loop-wanted
decreases-loop-wanted g l = l.wanted + (length l.parts - l.place.part)
