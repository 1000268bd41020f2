-- Words of the crates below, for the crates above that stand on this one alone.
pub use Rattle.cdb_codec.specs.Decoded.{decoded}
pub use Rattle.cdb_codec.specs.Rule.{is_two}
pub use Rattle.cdb_codec.specs.declared.command.Cdb.{Cdb}
pub use Rattle.cdb_codec.specs.declared.command.CdbFault.{CdbFault}
pub use Rattle.cdb_codec.specs.declared.command.Rw.{Rw}
pub use Rattle.fault_schedule.specs.declared.Label.{Label}
pub use Rattle.fault_schedule.specs.declared.fault.Crossing.{Crossing}
pub use Rattle.fault_schedule.specs.declared.fault.Crossing.TheVariants.{MediumToTarget, TargetToAdapter}
pub use Rattle.fault_schedule.specs.declared.fault.FaultLine.{FaultLine}
pub use Rattle.sense_codes.specs.declared.Sense.{Sense}
pub use Rattle.rig_api.specs.Frames.{data_of, frames_of, joined, placed, sent_size, stored_size, tuple_of}
pub use Rattle.rig_api.specs.Headers.{all_bytes, bytes_of as HeadersBytes_of, is_spec}
pub use Rattle.rig_api.specs.Image.{unit_from, units_from, units_in}
pub use Rattle.rig_api.specs.Passing.{accepted, asked_of, crossed, is_one, released, then_crossed, unless, wanted_of, with_own_tuple}
unfoldable pub use Rattle.rig_api.specs.Passing.{found_in, from_medium, to_medium}
pub use Rattle.rig_api.specs.Requests.{blocks_in, blocks_of, is_foreign, request_of, transferred}
pub use Rattle.rig_api.specs.Target.{Answer, Broken, Flaw, Found, Refusal, Stop, Stored, answer_unless, bytes_of, capacity_data, carried_out, check_sense, each, fails_at, fails_under, moved_outside, first_of, first_sense, flaw_sense, foreign_form, has_blocks, illegal, kept_over, kept_under, medium_address, medium_sense, no_tuples, off_medium, onto_medium, outside, passage, passed, protection_byte, read_by, read_end, refusals_of, refused, sending, sent_unless, shape_of, stored_address, stored_from, stored_unless, storing, then_kept, wire_address, write_end, written_by, wrong_room}
unfoldable pub use Rattle.rig_api.specs.Target.{refusal, target_answer}
