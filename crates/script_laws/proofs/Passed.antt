-- Lemmas of the crates below, for the crates above that stand on this one alone.
pub use Rattle.script_text.proofs.Staying.{not_behind}
