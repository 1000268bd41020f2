-- Lemmas of the crates below, for the crates above that stand on this one alone.
pub use Rattle.merge_queue.proofs.Joins.{numbers-split}
pub use Rattle.merge_queue.proofs.Lists.{total-one}
pub use Rattle.merge_queue.proofs.Moves.{size-append}
