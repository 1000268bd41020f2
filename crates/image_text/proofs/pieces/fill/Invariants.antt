use Rattle.std.proofs.Common.{◌≡◌, ◌-◌, ◌≤◌, length, take}
use Rattle.dix_base.specs.Told.{Took}
use Rattle.image_text.proofs.pieces.fill.Given as goal

abbrev pub invariant-loop-got : goal.invariant-loop-got
invariant-loop-got g l = record {
  few : l.got ≤ l.len;
  long : length l.into ≡ l.len;
  whole : length l.initial.into ≡ l.len;
  taken : Took (take l.got l.into) (g.S.Source.left l.initial.source) (g.S.Source.left l.source);
  calm : g.S.Source.faults l.source ≡ g.S.Source.faults l.initial.source;
  count : g.S.Source.faults l.initial.source ≤ g.S.Source.faults l.source;
}

abbrev pub decreases-loop-got : goal.decreases-loop-got
decreases-loop-got g l = l.len - l.got
