-- Words of the crates below, for the crates above that stand on this one alone.
pub use Rattle.block_path.specs.Acts.{State}
pub use Rattle.block_path.specs.Blocks.{Sent, Site, fetched_cell, stored_cell}
pub use Rattle.block_path.specs.Moves.{AreCells, hidden}
pub use Rattle.block_path.specs.Routes.{moved, target, told_by}
pub use Rattle.block_path.specs.declared.mode.Mode.{Mode}
pub use Rattle.dix_adapter.specs.Groups.{mode_of}
pub use Rattle.dix_adapter.specs.Ways.{blocks_told, cell_in, shapes_of}
pub use Rattle.run_laws.specs.BackedRun.{Backed}
pub use Rattle.run_laws.specs.BoundRun.{IsBoundRun, fates, rooms}
pub use Rattle.run_laws.specs.CarriedRun.{Carried}
pub use Rattle.run_laws.specs.OpsApart.{IsPlaced, OneCellEach, OpsConflict, is_shifted}
pub use Rattle.run_laws.specs.Passed.{Alters, Block, Reads, Seals, Sets, Setting, Shows, Step, Writes, WritesPi, act_of, acts_of, bad_from, block_of, body_of, changed, each_from, reply_of, route, script_replies, script_walk, source_of, steps_from, steps_of, tuple_of, whole_or_bad}
pub use Rattle.run_laws.specs.Records.{find, recorded}
pub use Rattle.run_laws.specs.ScriptMoves.{fates_of, own_at, room_of}
pub use Rattle.run_laws.specs.ToldRun.{came_by, told}
pub use Rattle.stack_steps.specs.Does.{Holds}
