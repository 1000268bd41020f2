-- Lemmas of the crates below, for the crates above that stand on this one alone.
pub use Rattle.mirror_command.proofs.Completing.{complete}
pub use Rattle.mirror_command.proofs.Mirroring.{known-told}
