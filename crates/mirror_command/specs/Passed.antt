-- Words of the crates below, for the crates above that stand on this one alone.
pub use Rattle.mirror_volume.specs.Enough.{AllReadLast, BothHoldLast, WasEnough}
pub use Rattle.mirror_volume.specs.Passed.{half_of, mirror_setting}
pub use Rattle.mirror_volume.specs.Premises.{IsFormedMirror, IsOneGoodRun, IsStillMirror}
