-- Lemmas of the crates below, for the crates above that stand on this one alone.
pub use Rattle.dix_adapter.proofs.Puts.{cell-is, told-at}
pub use Rattle.run_laws.proofs.Inside.{still_is}
pub use Rattle.run_laws.proofs.Passed.{each_same, medium_is}
