-- Words of the crates below, for the crates above that stand on this one alone.
pub use Rattle.pi_scrub.specs.Faults.{stored_finding}
