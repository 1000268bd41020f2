-- Lemmas of the crates below, for the crates above that stand on this one alone.
pub use Rattle.rig_discovery.proofs.ToldSizes.{told_size}
pub use Rattle.run_laws.proofs.Labelled.{each_both}
pub use Rattle.script_laws.proofs.Held.{tag_twice}
pub use Rattle.script_laws.proofs.OpForms.{found_inside, no_fault}
