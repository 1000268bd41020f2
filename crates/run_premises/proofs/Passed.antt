-- Lemmas of the crates below, for the crates above that stand on this one alone.
pub use Rattle.run_laws.proofs.Behind.{all_below}
pub use Rattle.run_laws.proofs.CleanWhereRead.{on_clean_devices, on_clean_volume, on_read_volume}
pub use Rattle.run_laws.proofs.Passed.{Small, data_is, tuple_below, tuple_is}
