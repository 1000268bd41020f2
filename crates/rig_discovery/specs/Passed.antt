-- Words of the crates below, for the crates above that stand on this one alone.
pub use Rattle.record_laws.specs.Answered.{Answers}
pub use Rattle.rig_api.specs.Telling.{no_spec, no_unit, unit_at}
pub use Rattle.rig_api.specs.declared.change.Change.{Change}
pub use Rattle.rig_api.specs.declared.change.Change.TheVariants.{Copy, Flip}
