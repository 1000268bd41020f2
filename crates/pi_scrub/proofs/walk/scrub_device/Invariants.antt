use Rattle.std.proofs.Common.{◌≡◌, ◌+◌, ◌≤◌, ◌++◌, List, Some}
use Rattle.dix_base.specs.Told.{Calm}
use Rattle.rig_api.specs.Target.{Stored}
use Rattle.rig_api.specs.Telling.{unit_at}
use Rattle.rig_api.specs.State.{Stays}
use Rattle.pi_scrub.specs.Faults.{faults_of}
use Rattle.pi_scrub.specs.Looks.{info_at, places}
use Rattle.pi_scrub.specs.Scrubbed.{Looked}
use Rattle.pi_scrub.proofs.Joining.{with_rest}
use Rattle.pi_scrub.proofs.walk.scrub_device.Given as goal

abbrev pub invariant-loop-left : goal.invariant-loop-left
invariant-loop-left g l = record {
  span : l.lba + l.left ≡ (info_at l.devices l.dev).first + (info_at l.devices l.dev).blocks;
  above : (info_at l.devices l.dev).first ≤ l.lba;
  looked : Looked l.devices (places l.dev (info_at l.devices l.dev).first (info_at l.devices l.dev).blocks) (places l.dev l.lba l.left) l.initial.found.items l.found.items
      (g.R.Rig.state l.initial.rig).log (g.R.Rig.state l.rig).log (g.R.Rig.state l.initial.rig).faults (g.R.Rig.state l.rig).faults;
  told : (us : List Stored) → (g.R.Rig.state l.initial.rig).units ≡ Some us → Calm (g.R.Rig.state l.initial.rig).faults (g.R.Rig.state l.rig).faults
      → with_rest l.found.items l.dev (unit_at us l.dev) l.lba ≡ l.initial.found.items ++ faults_of l.dev (unit_at us l.dev);
  units : (g.R.Rig.state l.rig).units ≡ (g.R.Rig.state l.initial.rig).units;
  stays : Stays (g.R.Rig.state l.initial.rig) (g.R.Rig.state l.rig);
}

abbrev pub decreases-loop-left : goal.decreases-loop-left
decreases-loop-left g l = l.left
