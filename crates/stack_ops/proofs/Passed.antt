-- Lemmas of the crates below, for the crates above that stand on this one alone.
pub use Rattle.range_gate.proofs.Rising.{rises}
pub use Rattle.range_gate.proofs.Sweep.{skip_left}
