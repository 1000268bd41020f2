-- Words of the crates below, for the crates above that stand on this one alone.
pub use Rattle.bio_core.specs.declared.fate.Why.{Why}
pub use Rattle.bio_core.specs.declared.fate.Why.TheVariants.{Adapter, App, Block, Medium, Refused, Short, Target}
pub use Rattle.bio_core.specs.declared.request.Dir.{Dir}
pub use Rattle.bio_core.specs.declared.request.Dir.TheVariants.{Read, Write}
pub use Rattle.range_gate.specs.Cells.{cells_of}
pub use Rattle.range_gate.specs.Prints.{IsSound, Rises, begins}
pub use Rattle.rig_api.specs.Log.{IsMediumSense, LogEntry}
pub use Rattle.rig_api.specs.Passed.{is_two}
pub use Rattle.rig_api.specs.declared.change.Change.{Change}
pub use Rattle.rig_api.specs.declared.change.Change.TheVariants.{Copy, Flip}
