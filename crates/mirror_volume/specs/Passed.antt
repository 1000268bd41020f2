-- Words of the crates below, for the crates above that stand on this one alone.
pub use Rattle.mirror_volume.specs.LegRuns.{AllBacked, AllFallen, AllOwn, GoOn, LegRun, NoneUnscheduled, RanLegs, all_records, all_unscheduled, armed_after, replies_of}
pub use Rattle.mirror_volume.specs.Mending.{IsRepairOf, RepairBy, stretches_in}
pub use Rattle.mirror_volume.specs.OnOps.{OpAsks, OpBy, OpRan, OpTells, OverwriteTells, Sides}
pub use Rattle.mirror_volume.specs.Standing.{HasLegDevices, IsBoundMirror, IsMirrorOver, IsRepairedAs, KeepsToWalk, RepairsAsWalk, StandsAt, half_of, mirror_setting, op_at, walked}
