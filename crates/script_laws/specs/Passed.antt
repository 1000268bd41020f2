-- Words of the crates below, for the crates above that stand on this one alone.
pub use Rattle.script_lines.specs.declared.kind.ScriptKind.{ScriptKind}
pub use Rattle.script_lines.specs.declared.kind.ScriptKind.TheVariants.{BadFault, BadRange, BadSegments, SegOverlap, TooMany}
pub use Rattle.script_text.specs.Bindings.{at_line, binding_fault, block_stays, blocks_stay, expect_fault, faults_fault, has_no_tuples, is_alterable, is_at_medium, is_bad_change, is_bad_keep, is_bad_kind, is_bad_on, is_bad_shift, is_first_type, is_misplaced, is_of_medium, is_third_line, is_on, is_on_known, is_shift, is_type, op_fault, ops_fault, or_else, range_fault, request_at, request_by, request_of, shifts}
pub use Rattle.script_text.specs.Crossings.{is_read}
pub use Rattle.script_text.specs.Ops.{are_tuples, both_fault, data_fault, is_body, op_in}
pub use Rattle.script_text.specs.Rules.{is_count, needs_tuples}
pub use Rattle.script_text.specs.Segments.{any_share, are_few_each, are_inside, are_whole_tuples, do_overlap, is_inside}
pub use Rattle.script_text.specs.declared.fault.ScriptFault.{ScriptFault}
pub use Rattle.script_text.specs.declared.script.Script.{Script}
