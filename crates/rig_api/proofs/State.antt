-- What leaves devices, image and armed faults.
use Rattle.std.specs.Prelude.{ℕ, ◌≡◌, ◌⊎◌, List, [], true, refl}
use Rattle.dix_base.specs.Told.{Rose}
use Rattle.std.proofs.Common.{arith, inl, inr, ◌∙◌}
use Rattle.fault_schedule.specs.declared.Label.{Label}
use Rattle.fault_schedule.specs.declared.fault.FaultLine.{FaultLine}
use Rattle.rig_api.specs.State.{Exchanged, RigState, Stays}
use Rattle.rig_api.specs.Target.{fails_at}
use Rattle.rig_api.specs.declared.rig.Outcome.{Outcome}

-- What stays as it is stays.
pub stays-still : (s : RigState) → Stays s s
stays-still s = record { tells = refl; standing = refl; armed = refl; count = omega arith }

-- So does what a command leaves.
pub stays-exchanged : {old new : RigState} {dev : ℕ} {cdb : List ℕ} {labels : List Label} {out before came : List ℕ} {o : Outcome} → Exchanged old new dev cdb labels out before came o → Stays old new
stays-exchanged e = record { tells = e.tells; standing = e.standing; armed = e.armed; count = e.count }

-- What stays, and stays again, stays.
pub stays-on : {first then last : RigState} → Stays first then → Stays then last → Stays first last
stays-on a b = record { tells = b.tells ∙ a.tells; standing = b.standing ∙ a.standing; armed = b.armed ∙ a.armed; count = let x = a.count in let y = b.count in omega arith }

-- Without labels no line says that the medium fails.
pub unlabelled-rose : (armed : List FaultLine) (k old new : ℕ) → Rose old new ⊎ (fails_at armed [] k ≡ true) → Rose old new
unlabelled-rose armed k old new (inl rose) = rose
unlabelled-rose armed k old new (inr fails) = absurd (cc)
