use Rattle.std.specs.Prelude.{ℕ, List, Some}
use Rattle.dix_base.specs.Told.{Rose}
use Rattle.rig_api.specs.State.{RigState}
use Rattle.rig_api.specs.Telling.{Opened}
use Rattle.rig_discovery.specs.Openings.{HasKept, ImageWasOpened, IsBad, OpenedOnce}
use Rattle.call_refusal.specs.declared.refusal.Refusal.{Refusal}
use Rattle.call_refusal.specs.declared.refusal.Refusal.TheVariants as refusal

-- Why it isn't known what the devices of an image are: it isn't opened, a device's answer is at fault, or there is no memory.
abbrev pub CauseUntold : Refusal → List ℕ → RigState → RigState → Type 0
CauseUntold (refusal.Image f) name old new = ImageWasOpened name (Some f) old new × HasKept old new
CauseUntold (refusal.BadCapacity dev) name old new = IsBad name dev old new
CauseUntold refusal.RigFault name old new = Rose old.faults new.faults × Opened name old.standing new.standing × HasKept old new
CauseUntold refusal.Memory name old new = HasKept old new × OpenedOnce name old.standing new.standing
CauseUntold _ name old new = ⊥
