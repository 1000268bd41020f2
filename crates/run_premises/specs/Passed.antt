-- Words of the crates below, for the crates above that stand on this one alone.
pub use Rattle.block_path.specs.Acts.{State}
pub use Rattle.run_laws.specs.Passed.{AreClean, IsCalmRun, IsClean, NoEscape, Setting, accounted, address_of, as_expected, detectable, script_walk, steps_from}
pub use Rattle.run_laws.specs.ShownRun.{AreCleanWhereRead, DevicesAreClean, HasCells, IsAccountedRun, IsShownRun, LiesOn}
pub use Rattle.stack_ops.specs.Ops.{is_overwrite}
pub use Rattle.stack_ops.specs.declared.op.Op.{Op}
