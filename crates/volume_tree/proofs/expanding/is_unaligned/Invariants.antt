use Rattle.std.proofs.Common.{◌≡◌, drop}
use Rattle.volume_tree.specs.Tracks.{tracks_of}
use Rattle.volume_tree.specs.Trees.{is_unaligned}
use Rattle.volume_tree.proofs.expanding.is_unaligned.Given as goal

abbrev pub invariant-loop-leg : goal.invariant-loop-leg
invariant-loop-leg l = is_unaligned l.chunk (tracks_of (drop l.leg-index l.legs)) ≡ is_unaligned l.chunk (tracks_of l.legs)
