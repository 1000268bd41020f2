-- Lemmas of the crates below, for the crates above that stand on this one alone.
pub use Rattle.script_stack.proofs.Begins.{blank-cells}
pub use Rattle.script_stack.proofs.Ended.{known_from}
pub use Rattle.script_stack.proofs.Following.{told-shapes, told-stored}
pub use Rattle.script_stack.proofs.Passed.{IsChange, alone-of, device-is, distinct-body, found_inside, good-change, if-none, is_told, known-in, lies, line-none, no_fault, none_named, one-each, one-stands, op-keeps, or-none, over-units, stack-op, stands, told-long, unfailing_lines}
