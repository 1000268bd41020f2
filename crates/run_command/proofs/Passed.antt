-- Lemmas of the crates below, for the crates above that stand on this one alone.
pub use Rattle.rig_discovery.proofs.Bytes.{joined_frames}
pub use Rattle.rig_discovery.proofs.Opened.{right_head, told_is_good}
pub use Rattle.script_form_laws.proofs.Fresh.{blocks_are, bytes_are, first_found, formatted_below, formatted_clean, fresh_unit, shapes_are}
pub use Rattle.script_stack.proofs.Ended.{known_from, one_left, still_told}
pub use Rattle.script_stack.proofs.Following.{sizes-found, told-shapes, told-stored}
pub use Rattle.script_stack.proofs.Octets.{blocks_octets}
pub use Rattle.script_stack.proofs.Passed.{alone-of, both-of, bound, in-range, line-none, place-there}
pub use Rattle.script_stack.proofs.SendsBy.{recorded_long}
pub use Rattle.stack_core.proofs.NoMedium.{none_named}
pub use Rattle.stack_core.proofs.ToldOps.{is_told}
