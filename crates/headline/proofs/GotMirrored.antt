-- What a call on a mirror says where no store call failed: one lemma for each. The count of faults of a store in memory stays at 0.
use Rattle.std.proofs.Common.{◌≡◌, ℕ, List, Some}
use Rattle.rig_api.specs.Target.{Stored}
use Rattle.script_text.specs.declared.script.Script.{Script}
use Rattle.dix_run.specs.Passed.{HasServedMirror, HasMirrored, Mirrored, OnIntactLegs}
use Rattle.dix_run.proofs.Passed.{known-told}
use Rattle.rig_api.specs.State.{RigState}
use Rattle.image_laws.proofs.Got.{calm}

pub got_served : (run : Mirrored) (script : Script) (name : List ℕ) (old new : RigState) (us : List Stored) (m : HasMirrored run script name old new) → m.told.units ≡ Some us → new.faults ≡ 0
    → (left : List Stored) × ((new.units ≡ Some left) × HasServedMirror script m.devices us left run.mirror.state.pool run.mirror.replies.items run.mirror.state.marks.items run.repair.repaired run.repair.lost)
got_served run script name old new us m e none = m.ended.told us e (m.silent (calm m.told.faults new.faults none))

pub got_intact : (run : Mirrored) (script : Script) (name : List ℕ) (old new : RigState) (us : List Stored) (m : HasMirrored run script name old new) → m.told.units ≡ Some us → new.faults ≡ 0
    → (left : List Stored) × ((new.units ≡ Some left) × OnIntactLegs script m.devices us left run.repair.lost)
got_intact run script name old new us m e none =
    let known = known-told run script name old new m us e in
    (known.after, (known.ended, m.intact known (m.silent (calm m.told.faults new.faults none))))
