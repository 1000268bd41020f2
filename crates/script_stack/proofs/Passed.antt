-- Lemmas of the crates below, for the crates above that stand on this one alone.
pub use Rattle.dix_adapter.proofs.Runs.{AllLong, cut-joined, joined-long}
pub use Rattle.script_run_laws.proofs.Addresses.{IsChange, good-change}
pub use Rattle.script_run_laws.proofs.AtTarget.{TargetSuits, device-is, known-in, told-long}
pub use Rattle.script_run_laws.proofs.Bodies.{alone-of, both-of, if-none}
pub use Rattle.script_run_laws.proofs.Calm.{all-fit, are-bytes, calm-run, falling-run, lies-in, tag-fits}
pub use Rattle.script_run_laws.proofs.Landing.{room-of-read, room-of-write}
pub use Rattle.script_run_laws.proofs.Ops.{in-range, line-none}
pub use Rattle.script_run_laws.proofs.OverUnits.{IsBoundOver, at_first, cell-there, on-address, op-keeps, over, own-setting}
pub use Rattle.script_run_laws.proofs.Passed.{found_inside, no_fault, tag_twice}
pub use Rattle.script_run_laws.proofs.Places.{one-each, place-there}
pub use Rattle.script_run_laws.proofs.Rooms.{body-cells}
pub use Rattle.script_run_laws.proofs.Segments.{all-lie, distinct-body, lies, once-both, one-stands, stands}
pub use Rattle.script_run_laws.proofs.Shown.{accounted-run, has-cells, lies-on, shown-run}
pub use Rattle.script_run_laws.proofs.Standing.{bound, or-none}
pub use Rattle.script_run_laws.proofs.Suits.{stack-op, suits}
pub use Rattle.script_run_laws.proofs.Units.{over-units}
pub use Rattle.stack_core.proofs.NoMedium.{none_named, unfailing_lines}
pub use Rattle.stack_core.proofs.ToldOps.{is_told}
