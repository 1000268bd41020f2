use Rattle.std.proofs.Common.{◌≡◌, ◌-◌, List, Some, true, length, take}
use Rattle.std.specs.Prelude.{is_some, map}
use Rattle.rig_api.specs.Log.{HasRoom}
use Rattle.rig_api.specs.Telling.{greatest_size, specs_of}
use Rattle.rig_api.specs.State.{Stays}
use Rattle.rig_api.specs.Passed.{Stored}
use Rattle.record_laws.specs.Answered.{Answers}
use Rattle.rig_discovery.specs.Discovery.{Ends, Spent, info_of}
use Rattle.rig_discovery.proofs.Steps.{SoFar}
use Rattle.rig_discovery.proofs.discovery.discover.Given as goal

abbrev pub invariant-loop-dev : goal.invariant-loop-dev
invariant-loop-dev g l = record {
  so_far : SoFar (g.R.Rig.state l.initial.rig).standing l.dev l.found.items (g.R.Rig.state l.initial.rig).log (g.R.Rig.state l.rig).log;
  few : length l.found.items ≡ l.dev;
  told : is_some (g.R.Rig.state l.initial.rig).units ≡ true → l.found.items ≡ map info_of (take l.dev (specs_of (g.R.Rig.state l.initial.rig).standing));
  ends : Ends l.found.items;
  answered : (us : List Stored) → (g.R.Rig.state l.initial.rig).units ≡ Some us → Answers us (g.R.Rig.state l.initial.rig) (g.R.Rig.state l.rig);
  units : (g.R.Rig.state l.rig).units ≡ (g.R.Rig.state l.initial.rig).units;
  stays : Stays (g.R.Rig.state l.initial.rig) (g.R.Rig.state l.rig);
  room : HasRoom (greatest_size (g.R.Rig.state l.initial.rig).standing) ((g.R.Rig.state l.initial.rig).standing.devices - l.dev) 0 (g.R.Rig.state l.rig).room;
  spent : Spent l.dev (g.R.Rig.state l.initial.rig).room (g.R.Rig.state l.rig).room;
}
