-- Words of the crates below, for the crates above that stand on this one alone.
pub use Rattle.run_command.specs.Passed.{HasFallen, failed_in, opening_of, setting_of, unit_of}
pub use Rattle.run_command.specs.Premises.{IsAccountableRun, IsAccountedByForm, IsDetectableRun, IsFormedRun, IsPlainRun, setting_told}
pub use Rattle.run_command.specs.Texts.{has_bad}
pub use Rattle.run_command.specs.Verdict.{AllReadRightly, AllReadStored, CauseRefused, CauseStopped, CauseUntaken, Facts, Followed, HasRun, HasTable, RunReadsRightly, RunReadsStored, WasAsked, devices_of, table_over}
pub use Rattle.run_command.specs.Working.{IsSound}
pub use Rattle.run_command.specs.declared.verdict.Finished.{Finished}
