use Rattle.std.proofs.Common.{◌≡◌, length}
use Rattle.std.specs.List.{list_any}
use Rattle.flip_sweep.specs.Verdicts.{is_same_block}
use Rattle.flip_sweep.proofs.listing.is_among.Given as goal

abbrev pub invariant-loop-other : goal.invariant-loop-other
invariant-loop-other l = list_any (is_same_block l.block) l.rest ≡ list_any (is_same_block l.block) l.blocks

abbrev pub decreases-loop-other : goal.decreases-loop-other
decreases-loop-other l = length l.rest
