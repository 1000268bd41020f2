-- Lemmas of the crates below, for the crates above that stand on this one alone.
pub use Rattle.ref_remap.proofs.Tags.{mapped-bytes}
pub use Rattle.rig_api.proofs.FrameLaws.{frames_length, stored_least}
