-- Lemmas of the crates below, for the crates above that stand on this one alone.
pub use Rattle.walk_laws.proofs.CalmRuns.{frame_length, op_meets, part_length, silent_form}
pub use Rattle.walk_laws.proofs.CalmWays.{IsProper, quiet, rtag_below}
pub use Rattle.walk_laws.proofs.EachFrom.{each_same}
pub use Rattle.walk_laws.proofs.InSteps.{each_length}
pub use Rattle.walk_laws.proofs.MapUnder.{AllProper, map_length, proper_opened, under_length, under_opened}
pub use Rattle.walk_laws.proofs.Named.{medium_is}
pub use Rattle.walk_laws.proofs.Passed.{places-append}
pub use Rattle.walk_laws.proofs.PlainSteps.{AllMeet, Stands, all_steps}
pub use Rattle.walk_laws.proofs.ScriptRows.{calm_run, faulty, formatted, opening, seg, with_faults}
pub use Rattle.walk_laws.proofs.TagLaws.{tag_right}
pub use Rattle.walk_laws.proofs.TupleFrames.{Small, below_append, below_at, below_drop, below_gather, below_replicate, below_scatter, below_take, data_is, four_below, frame_small, spelled, tuple_below, tuple_is, two_below}
