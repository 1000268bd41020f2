-- Words of the crates below, for the crates above that stand on this one alone.
pub use Rattle.bio_core.specs.declared.TheConstants.{MOST_BLOCKS}
pub use Rattle.block_path.specs.declared.mode.Mode.{Mode}
pub use Rattle.rig_api.specs.declared.change.Change.{Change}
pub use Rattle.rig_api.specs.declared.change.Change.TheVariants.{Copy, Flip}
pub use Rattle.stack_ops.specs.Ops.{is_overwrite}
pub use Rattle.stack_ops.specs.declared.op.Op.{Op}
pub use Rattle.stack_ops.specs.declared.op.Op.TheVariants.{Fetch, FetchPi, Fill, Overwrite, Put, Seal, Show, Wait, Write, WritePi}
pub use Rattle.stack_ops.specs.declared.reply.Reply.{Reply}
pub use Rattle.stack_ops.specs.declared.reply.Reply.TheVariants.{Silent}
pub use Rattle.volume_tree.specs.Tracks.{FollowsFrom, ends, is_held, place_by, track_place}
pub use Rattle.volume_tree.specs.Trees.{AreTracks, DoFit, EntriesFollow, expanded, has_bad_length, is_unaligned, leg_from, stripe_between, stripes, tree_fault, tree_place}
pub use Rattle.volume_tree.specs.declared.TreeFault.{TreeFault}
pub use Rattle.volume_tree.specs.declared.TreeFault.TheVariants.{BadLength, TooMany, Unaligned}
