-- Lemmas of the crates below, for the crates above that stand on this one alone.
pub use Rattle.block_path.proofs.Acts.{commutes, same_cells}
pub use Rattle.block_path.proofs.Cells.{AllBelow, Distinct, apart_at, below, distinct, gather_back, gather_length, in_head, no_clash, share_back, share_by}
pub use Rattle.block_path.proofs.InTurn.{plain_append}
pub use Rattle.block_path.proofs.Passed.{stored_least}
pub use Rattle.block_path.proofs.Leaves.{kept_length, over_whole}
pub use Rattle.block_path.proofs.PathLaws.{as_crc, as_ip, crossed_length, never_zero}
pub use Rattle.block_path.proofs.ReadMoves.{own_read, read_in_two}
pub use Rattle.block_path.proofs.Serial.{any_whole_order}
pub use Rattle.block_path.proofs.Served.{sent_or, stored_or}
pub use Rattle.block_path.proofs.Sizes.{altered_length, filled, mapped_sizes, out_size, tuple_length, unless_length}
pub use Rattle.block_path.proofs.WriteMoves.{bare_write, own_write, take_over, write_in_three}
pub use Rattle.stack_ops.proofs.Sides.{cells_are, places-append}
