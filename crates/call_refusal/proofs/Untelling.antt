-- Devices that aren't told refuse the call for the same reason.
use Rattle.std.specs.Prelude.{ℕ, List}
use Rattle.call_refusal.specs.Causes.{CauseUntold}
use Rattle.call_refusal.specs.Refusals.{of_untold}
use Rattle.rig_api.specs.State.{RigState}
use Rattle.rig_api.specs.declared.rig.RigFault.TheVariants as rig
use Rattle.rig_discovery.specs.Openings.{WhyUntold}
use Rattle.rig_discovery.specs.declared.opening.Untold.{Untold}
use Rattle.rig_discovery.specs.declared.opening.Untold.TheVariants as untold

pub refused : (u : Untold) (name : List ℕ) (old new : RigState) → WhyUntold u name old new → CauseUntold (of_untold u) name old new
refused (untold.Device bad) name old new w = w
refused (untold.Rig rig.Failed) name old new w = w
refused (untold.Rig rig.Memory) name old new w = w
refused (untold.Rig rig.BadMagic) name old new w = w
refused (untold.Rig rig.BadHeader) name old new w = w
refused (untold.Rig rig.BadLength) name old new w = w
