use Rattle.std.proofs.Common.{◌-◌, ◌≤◌}
use Rattle.image_text.proofs.Making.{Made}
use Rattle.image_text.proofs.pieces.put_pieces.Given as goal

abbrev pub invariant-loop-i : goal.invariant-loop-i
invariant-loop-i l = record {
  few : l.i ≤ l.count;
  made : Made l.layout l.unit.ty l.unit.size l.first l.count l.i l.fn.pieces l.rest l.initial.blocks l.blocks;
}

abbrev pub decreases-loop-i : goal.decreases-loop-i
decreases-loop-i l = l.count - l.i
