-- Words of the crates below, for the crates above that stand on this one alone.
pub use Rattle.rig_discovery.specs.Openings.{device_of}
pub use Rattle.stack_walk_laws.specs.Falls.{of_blocks}
pub use Rattle.stack_walk_laws.specs.Flips.{with_flips}
pub use Rattle.script_stack.specs.Causes.{table_of}
pub use Rattle.script_stack.specs.Followed.{HasFallen, HasWalked, IsBackedBy, KnownBlocks, NoMediumLine, SizesAre, failed_in, none_fails, opening_of, setting_of, unit_of}
pub use Rattle.script_stack.specs.Passed.{IsAddress}
pub use Rattle.script_stack.specs.Sends.{IsPlanFor, entries_of}
pub use Rattle.script_text.specs.Bindings.{binding_fault}
pub use Rattle.script_text.specs.Language.{script_in}
pub use Rattle.script_text.specs.declared.script.Script.{Script}
pub use Rattle.stack_core.specs.Mediums.{RoseBy, medium_lines, medium_replies, unscheduled_mediums}
pub use Rattle.stack_core.specs.OnRecord.{ListsNone, bad_blocks}
