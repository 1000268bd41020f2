-- Words of the crates below, for the crates above that stand on this one alone.
pub use Rattle.mirror_script.specs.MirrorFaults.{faults_fault, is_bad_kind, is_bad_line, is_past, length_fault, mirror_fault, mode_fault, names_blocks, op_fault, ops_fault, range_fault}
pub use Rattle.script_stack.specs.Causes.{table_of}
pub use Rattle.script_stack.specs.Followed.{HasFallen, HasWalked, IsBackedBy, Ran, SizesAre, failed_in, none_fails, opening_of, setting_of, unit_of}
pub use Rattle.script_stack.specs.Passed.{AreAllWhole, AreStored, Each, HasChangedBlocks, IsStack, IsStackOp, Keeps, RoseBy, Stack, all_blocks, listed_mediums, medium_lines, medium_replies, requests_from, unscheduled_mediums}
pub use Rattle.script_stack.specs.Sends.{SendsFor, by_words}
