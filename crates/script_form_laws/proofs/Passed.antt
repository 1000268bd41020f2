-- Lemmas of the crates below, for the crates above that stand on this one alone.
pub use Rattle.run_premises.proofs.Lines.{no_shift}
