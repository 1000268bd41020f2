-- Words of the crates below, for the crates above that stand on this one alone.
pub use Rattle.dix_adapter.specs.Ways.{blocks_told, cell_in, shapes_of}
pub use Rattle.script_run_laws.specs.Bound.{IsAddress}
pub use Rattle.script_run_laws.specs.Passed.{Each, IsFault, IsKind, IsProtect, IsWithin, Keeps, blocks_of, info_of}
pub use Rattle.script_run_laws.specs.SuitsStack.{IsStackOp, SuitsStack}
pub use Rattle.script_run_laws.specs.Units.{AreStored, all_blocks}
pub use Rattle.script_text.specs.Bindings.{binding_fault, is_third_line}
pub use Rattle.script_text.specs.declared.script.Script.{Script}
pub use Rattle.stack_core.specs.Doing.{HasChangedBlocks}
pub use Rattle.stack_core.specs.Mediums.{RoseBy, listed_mediums, medium_lines, medium_replies, unscheduled_mediums}
pub use Rattle.stack_core.specs.Passed.{AreAllWhole, requests_from}
pub use Rattle.stack_core.specs.Stacks.{IsStack}
pub use Rattle.stack_core.specs.declared.stack.Stack.{Stack}
