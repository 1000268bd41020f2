-- Lemmas of the crates below, for the crates above that stand on this one alone.
pub use Rattle.volume_tree.proofs.Following.{together}
pub use Rattle.volume_tree.proofs.Gathering.{or_first, or_second}
pub use Rattle.volume_tree.proofs.Stretches.{Built, all_blocks, all_fit, all_follow, all_places, all_ranges, built}
