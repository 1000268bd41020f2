-- Lemmas of the crates below, for the crates above that stand on this one alone.
pub use Rattle.record_laws.proofs.Going.{puts_nothing, puts_then}
pub use Rattle.stack_walk_laws.proofs.Spare.{fewer}
pub use Rattle.stack_walk_laws.proofs.WalksBegin.{pages-grow}
