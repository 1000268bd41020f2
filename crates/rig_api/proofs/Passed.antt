-- Lemmas of the crates below, for the crates above that stand on this one alone.
pub use Rattle.fault_schedule.proofs.Unaltered.{altered_none}
pub use Rattle.rig_api.proofs.FewFrames.{few_passed, few_written}
pub use Rattle.rig_api.proofs.FrameLaws.{frames_length, joined_append}
