-- Words of the crates below, for the crates above that stand on this one alone.
pub use Rattle.rig_discovery.specs.Discovery.{HasFound, LookAnswer, all_told, info_of, told as DiscoveryTold, with_info}
pub use Rattle.run_laws.specs.BackedRun.{Backed}
pub use Rattle.run_laws.specs.BoundRun.{IsBoundRun, fates, rooms}
pub use Rattle.run_laws.specs.CarriedRun.{Carried}
pub use Rattle.run_laws.specs.FallingReads.{falling_replies}
pub use Rattle.run_laws.specs.Records.{recorded}
pub use Rattle.run_laws.specs.StoreFaults.{falling_walk}
pub use Rattle.run_laws.specs.Suited.{keeps_size}
pub use Rattle.run_laws.specs.ToldRun.{IsRecordOfRun, told}
pub use Rattle.script_laws.specs.Keeping.{Each, IsFault, IsKind, IsProtect, IsWithin, Keeps, blocks_of}
pub use Rattle.script_laws.specs.Lines.{line_of}
