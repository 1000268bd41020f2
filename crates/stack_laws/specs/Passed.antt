-- Words of the crates below, for the crates above that stand on this one alone.
pub use Rattle.merge_queue.specs.Chains.{no_bio}
pub use Rattle.merge_queue.specs.Groups.{numbers, size}
pub use Rattle.merge_queue.specs.declared.limits.Limits.{Limits}
