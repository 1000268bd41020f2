-- Words of the crates below, for the crates above that stand on this one alone.
pub use Rattle.image_commands.specs.Causes.{WasFormatted}
pub use Rattle.mirror_command.specs.Passed.{AllReadLast, BothHoldLast, IsFormedMirror, IsOneGoodRun, IsStillMirror, WasEnough, half_of, mirror_setting}
pub use Rattle.mirror_command.specs.Stages.{HasServedMirror, repair_over}
pub use Rattle.mirror_command.specs.Texts.{is_any_lost, mirror_text}
pub use Rattle.mirror_command.specs.Verdict.{CauseRefused, CauseStopped, HasMirrored, OnIntactLegs}
pub use Rattle.mirror_command.specs.declared.mirrored.Mirrored.{Mirrored}
