use Rattle.std.proofs.Common.{◌≡◌, ◌++◌, ◌+◌, ◌*◌, ◌<◌, ◌^◌, drop, length}
use Rattle.volume_tree.specs.Tracks.{tracks_of}
use Rattle.volume_tree.specs.Trees.{DoFit, stripes}
use Rattle.volume_tree.proofs.expanding.stripes.Given as goal

abbrev pub invariant-loop-y : goal.invariant-loop-y
invariant-loop-y l = record {
  fit : DoFit l.start (length l.legs) l.x (drop l.y-index l.ends);
  begins : l.start + l.x * length l.legs < 2 ^ 64;
  list : l.list.items ++ stripes l.start l.chunk (tracks_of l.legs) l.x (drop l.y-index l.ends) ≡ stripes l.start l.chunk (tracks_of l.legs) 0 l.ends;
}
