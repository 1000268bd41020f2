-- Lemmas of the crates below, for the crates above that stand on this one alone.
pub use Rattle.small_laws.proofs.Numbers.{one_more}
pub use Rattle.small_laws.proofs.Tests.{and_first, ltb_suc, never}
