-- Words of the crates below, for the crates above that stand on this one alone.
pub use Rattle.merge_queue.specs.declared.Limits.{Limits}
