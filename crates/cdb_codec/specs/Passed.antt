-- Words of the crates below, for the crates above that stand on this one alone.
pub use Rattle.pi_tuple.specs.declared.TheConstants.{LARGEST_BLOCK, TUPLE}
pub use Rattle.pi_tuple.specs.declared.checks.PiType.TheVariants.{Zero}
