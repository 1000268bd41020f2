-- Words of the crates below, for the crates above that stand on this one alone.
pub use Rattle.walk_laws.specs.CalmRun.{AllFit, AreVolumeBlocks, Fits, IsCalm, IsCalmRun, LiesInImage}
pub use Rattle.walk_laws.specs.Detectable.{accounted, accounts_out, arrives, asks_app, bears, bears_some, crossed, detectable, found, guard_at, if_passed, is_foreign, is_in_doubt, is_left_spoilt, shows, shows_at_medium, shows_in, shows_on_wire, shows_out, step_accounts, step_shows}
pub use Rattle.walk_laws.specs.FirstLayer.{AtAdapter, AtTarget, has_flip, has_shift, is_all, is_flip, is_misdirected, is_served, is_stored_whole, last_accepted, last_stored, loses, tears}
pub use Rattle.walk_laws.specs.Passed.{Bad, BadBlock, Fetch, FetchPi, Fill, Medium, Op, Overwrite, Put, Reply, Seal, Show, Shown, Silent, Wait, Whole, Write, WritePi, first_virt, footprint, is_overwrite, put_seg, touches}
pub use Rattle.walk_laws.specs.Past.{steps_from}
pub use Rattle.walk_laws.specs.PlainMap.{MapEntry, Plain, all_pass, as_expected, entry_of, finds_of_app, finds_plainly, kept_unless, own_in, plain_from, plain_map, plain_step, tag_of}
pub use Rattle.walk_laws.specs.ReadsAs.{landing, listed_in, read_op}
pub use Rattle.walk_laws.specs.ScriptWalk.{act_of, acts_of, bad_from, changed, replies_from, reply_of, script_replies, script_walk, source_of, walk_from, whole_or_bad}
pub use Rattle.walk_laws.specs.Settings.{Block, Setting, block_of, route}
pub use Rattle.walk_laws.specs.Steps.{Alters, Reads, Seals, Sets, Shows, Step, Writes, WritesPi, body_of, each_from, frame_at, steps_of, tuple_of}
pub use Rattle.walk_laws.specs.UnderMap.{AreClean, IsClean, IsUnder, NoEscape, NoneEscapes, SuppliesNoEscape, address_of, held, home, map_from, opened, stored_as, under}
