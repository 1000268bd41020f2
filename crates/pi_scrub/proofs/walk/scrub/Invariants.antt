use Rattle.std.proofs.Common.{◌≡◌, ◌++◌, [], List, Some, drop}
use Rattle.dix_base.specs.Told.{Calm}
use Rattle.rig_api.specs.Target.{Stored}
use Rattle.pi_scrub.specs.Faults.{all_faults}
use Rattle.pi_scrub.specs.Looks.{all_places}
use Rattle.pi_scrub.specs.Scrubbed.{Looked}
use Rattle.pi_scrub.proofs.walk.scrub.Given as goal
use Rattle.rig_api.specs.State.{Stays}

abbrev pub invariant-loop-dev : goal.invariant-loop-dev
invariant-loop-dev g l = record {
  looked : Looked l.devices (all_places 0 l.devices) (all_places l.dev (drop l.dev l.devices)) [] l.found.items
      (g.R.Rig.state l.initial.rig).log (g.R.Rig.state l.rig).log (g.R.Rig.state l.initial.rig).faults (g.R.Rig.state l.rig).faults;
  told : (us : List Stored) → (g.R.Rig.state l.initial.rig).units ≡ Some us → Calm (g.R.Rig.state l.initial.rig).faults (g.R.Rig.state l.rig).faults
      → l.found.items ++ all_faults l.dev (drop l.dev us) ≡ all_faults 0 us;
  units : (g.R.Rig.state l.rig).units ≡ (g.R.Rig.state l.initial.rig).units;
  stays : Stays (g.R.Rig.state l.initial.rig) (g.R.Rig.state l.rig);
}
