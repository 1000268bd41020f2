-- Words of the crates below, for the crates above that stand on this one alone.
pub use Rattle.integrity_payload.specs.Payloads.{all_asked}
pub use Rattle.integrity_payload.specs.declared.payload.Owner.{Owner}
pub use Rattle.integrity_payload.specs.declared.payload.Owner.TheVariants.{App, Block}
pub use Rattle.ref_remap.specs.Remapped.{AreRemapped, remapped, remapped_bytes}
pub use Rattle.sense_codes.specs.declared.Sense.{Sense}
pub use Rattle.rig_api.specs.Frames.{data_of, frame_of, frames_of, joined, sent_size, stored_size, tuple_of}
pub use Rattle.rig_api.specs.Passing.{accepted, asked_of, crossed, released, then_crossed, unless, wanted_of, with_own_tuple}
unfoldable pub use Rattle.rig_api.specs.Passing.{found_in, from_medium, to_medium}
pub use Rattle.rig_api.specs.Requests.{request_of}
pub use Rattle.rig_api.specs.Target.{Stop, Stored, has_blocks}
pub use Rattle.rig_api.specs.declared.passage.Passage.{Passage}
pub use Rattle.rig_api.specs.declared.request.Request.{Request}
pub use Rattle.rig_api.specs.declared.request.Request.TheVariants.{Read, ReadCapacity, Verify, Write}
pub use Rattle.rig_api.specs.declared.units.UnitSpec.{UnitSpec}
