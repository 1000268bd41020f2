-- Words of the crates below, for the crates above that stand on this one alone.
pub use Rattle.record_laws.specs.Answered.{AreAnswersTo}
pub use Rattle.stack_walk_laws.specs.AtTheEnd.{EndsAsFalling}
pub use Rattle.stack_walk_laws.specs.Falls.{of_blocks, over_falls}
pub use Rattle.stack_walk_laws.specs.Flips.{with_flips}
pub use Rattle.stack_walk_laws.specs.Ground.{Ground}
pub use Rattle.stack_walk_laws.specs.Passed.{Setting, script_replies, script_walk, steps_from}
pub use Rattle.stack_walk_laws.specs.Requests.{first_page, page_after, pages_from, request_of, requests_from}
pub use Rattle.stack_walk_laws.specs.Seals.{IsSealed}
pub use Rattle.stack_walk_laws.specs.Settling.{AreAllWhole}
pub use Rattle.stack_walk_laws.specs.Sheets.{io_at, op_in, plan_of, request_in}
pub use Rattle.stack_walk_laws.specs.Shifts.{shifted_by}
pub use Rattle.stack_walk_laws.specs.Starting.{AreTuples, CanStart, IsData, IsOp}
pub use Rattle.stack_walk_laws.specs.Takes.{AllTakeAny}
pub use Rattle.stack_walk_laws.specs.Units.{AreAtUnits}
pub use Rattle.stack_steps.specs.Does.{Holds, Works}
pub use Rattle.stack_steps.specs.declared.machine.Machine.{Machine}
