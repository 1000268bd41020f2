-- Words of the crates below, for the crates above that stand on this one alone.
pub use Rattle.block_path.specs.Acts.{State}
pub use Rattle.block_path.specs.Blocks.{Sent}
pub use Rattle.block_path.specs.Moves.{hidden}
pub use Rattle.block_path.specs.Routes.{target}
pub use Rattle.block_path.specs.declared.mode.Mode.{Mode}
pub use Rattle.rig_api.specs.Log.{HasRoom, LogEntry, Room}
pub use Rattle.rig_api.specs.State.{RigState}
pub use Rattle.rig_api.specs.Telling.{no_spec}
pub use Rattle.rig_api.specs.declared.change.Change.{Change}
pub use Rattle.rig_api.specs.declared.change.Change.TheVariants.{Flip}
pub use Rattle.rig_api.specs.declared.rig.Outcome.{Outcome}
