-- Where the fates of a request's blocks are kept.
use Rattle.std.specs.Prelude.{◌≡◌, ◌+◌, ◌-◌, ◌≤◌, length, get_or}
use Rattle.bio_core.specs.declared.bio.Bio.{Bio}
use Rattle.bio_core.specs.declared.request.Io.{Io}
use Rattle.stack_core.specs.declared.kept.Fates.{Fates}

-- The bio is of an op that has a place among the kept fates, and behind it one for each block of its request.
pub record HoldsFates (io : Io) (bio : Bio) (kept : Fates) : Type 0 where
  pub numbered : 1 ≤ bio.op
  pub starts : bio.op ≤ length kept.starts.items
  pub held : get_or kept.starts.items (bio.op - 1) 0 + io.count ≤ length kept.held.items

-- As many fates are kept, at the same places.
pub record KeepsPlaces (old new : Fates) : Type 0 where
  pub starts : new.starts.items ≡ old.starts.items
  pub held : length new.held.items ≡ length old.held.items
