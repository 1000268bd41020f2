-- Lemmas of the crates below, for the crates above that stand on this one alone.
pub use Rattle.record_laws.proofs.Going.{answers_from}
