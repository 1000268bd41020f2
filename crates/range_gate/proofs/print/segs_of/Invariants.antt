use Rattle.std.proofs.Common.{◌≡◌, ◌++◌, drop}
use Rattle.std.specs.List.{All}
use Rattle.range_gate.specs.Prints.{IsSound, chosen}
use Rattle.range_gate.proofs.print.segs_of.Given as goal

abbrev pub invariant-loop-t : goal.invariant-loop-t
invariant-loop-t l = record {
  items : l.segs.items ++ chosen l.writes (drop l.t-index l.touches) ≡ chosen l.writes l.touches;
  sound : All IsSound l.segs.items;
}
