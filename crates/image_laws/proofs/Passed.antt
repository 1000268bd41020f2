-- Lemmas of the crates below, for the crates above that stand on this one alone.
pub use Rattle.run_command.proofs.Completing.{complete, same_script, table_is}
pub use Rattle.run_command.proofs.Devices.{image_devices}
pub use Rattle.run_command.proofs.FirstFaults.{head_is, held_fault, kept_asked, over_asked, read_is, right_asked, right_made, unbound_is, volume_is}
pub use Rattle.run_command.proofs.Passed.{blocks_are, formatted_below, formatted_clean, fresh_unit, known_from, shapes_are, told-stored, told_is_good}
pub use Rattle.run_command.proofs.Tables.{all_end}
