-- Words of the crates below, for the crates above that stand on this one alone.
pub use Rattle.rig_discovery.specs.Discovery.{Ends, info_of}
