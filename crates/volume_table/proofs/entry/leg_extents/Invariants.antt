use Rattle.std.proofs.Common.{◌≡◌, map, take}
use Rattle.volume_table.specs.Entries.{leg_extent}
use Rattle.volume_table.proofs.entry.leg_extents.Given as goal

abbrev pub invariant-loop-leg : goal.invariant-loop-leg
invariant-loop-leg l = l.found.items ≡ map (leg_extent l.len) (take l.leg-index l.legs)
