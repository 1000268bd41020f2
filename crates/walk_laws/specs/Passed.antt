-- Words of the crates below, for the crates above that stand on this one alone.
pub use Rattle.block_path.specs.Acts.{Act, Effect, State, act, conflict, effect, seen, tell}
pub use Rattle.block_path.specs.Blocks.{ActAnswer, AskedBlock, Sent, Site, fetched_cell, nothing_written, own_cell, own_frame, own_tuple, read_block, read_by, silent, stored_cell, stored_over, tuple_after, untouched, write_block, write_block_of_app, written_by}
pub use Rattle.block_path.specs.Moves.{AreCells, FrameAt, IsOne, carry_in, carry_out, hidden, joined as MovesJoined, make_tuple, map_back, map_out, settle}
pub use Rattle.block_path.specs.Operations.{handed_on, operation}
pub use Rattle.block_path.specs.Passed.{Passage, Read, ReadCapacity, Request, Sense, Verify, Write as TheVariantsWrite, accepted, asked_of, crossed, data_of, frame_of, frames_of, joined, released, remapped_bytes, request_of, sent_size, stored_size, then_crossed, tuple_of, unless, wanted_of, with_own_tuple}
unfoldable pub use Rattle.block_path.specs.Passed.{found_in, from_medium, to_medium}
pub use Rattle.block_path.specs.Routes.{Device, by_target, converted, host_size, host_type, is_crc, medium_lba, moved, passage, passes_tuples, sends_unless, stores_unless, target, stored_lba, told_by, wire_lba, wire_size, with_guard}
pub use Rattle.block_path.specs.Senses.{why_ended}
pub use Rattle.block_path.specs.Serial.{Apart, Leads, all_done, none_done, plain, plain_tells}
pub use Rattle.block_path.specs.WayIn.{Delivers, Spoils, Stops, WayIn, adapter_finds_in, at_host, delivered_unless, from_device, mapped_back, owner_finds, owner_says, received, verified, way_in}
unfoldable pub use Rattle.block_path.specs.WayIn.{from_wire}
pub use Rattle.block_path.specs.WayOut.{Fails, Refuses, Stores, WayOut, adapter_finds_out, at_device, from_adapter, goes_out, mapped_out, sent, way_out}
unfoldable pub use Rattle.block_path.specs.WayOut.{to_wire}
pub use Rattle.block_path.specs.declared.route.Route.{Route}
pub use Rattle.stack_ops.specs.Footprints.{bytes_of, cells_touched, footprint, is_alone, put_seg, reach_of, touches}
pub use Rattle.stack_ops.specs.Ops.{first_virt, is_overwrite}
pub use Rattle.stack_ops.specs.Passed.{Adapter, App, Block, Copy, Dir, LogEntry, Medium as TheVariantsMedium, Read as TheVariantsRead, Refused, Short, Target, Why, Write as TheVariantsWrite2}
pub use Rattle.stack_ops.specs.declared.op.Op.{Op}
pub use Rattle.stack_ops.specs.declared.op.Op.TheVariants.{Fetch, FetchPi, Fill, Overwrite, Put, Seal, Show, Wait, Write, WritePi}
pub use Rattle.stack_ops.specs.declared.reply.BadBlock.{BadBlock}
pub use Rattle.stack_ops.specs.declared.reply.Reply.{Reply}
pub use Rattle.stack_ops.specs.declared.reply.Reply.TheVariants.{Bad, Medium, Shown, Silent, Whole}
pub use Rattle.volume_table.specs.Places.{place_in, volume_len}
pub use Rattle.volume_table.specs.Tables.{IsOn}
pub use Rattle.volume_table.specs.declared.device.DeviceInfo.{DeviceInfo}
