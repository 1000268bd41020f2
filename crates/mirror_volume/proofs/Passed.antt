-- Lemmas of the crates below, for the crates above that stand on this one alone.
pub use Rattle.mirror_volume.proofs.Lines.{lines-append, op-lines, op-unscheduled, overwrites-append, rose-later}
pub use Rattle.mirror_volume.proofs.Listed.{EachLists, ListsOnly, op-lists}
pub use Rattle.mirror_volume.proofs.Runs.{all_backed-append, all_records-append, all_unscheduled-append, armed-append, go_on-append, rose-add}
pub use Rattle.mirror_volume.proofs.Unnamed.{calm-unnamed, unnamed-first, unnamed-last}
