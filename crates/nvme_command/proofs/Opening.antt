-- An image that is opened and asked what its devices are.
use Rattle.std.proofs.Common.{ℕ, ◌≡◌, inl, inr, List, length, ap, ◌∙◌, arith}
use Rattle.rig_api.specs.Head.{units_of}
use Rattle.rig_api.specs.Telling.{Standing}
use Rattle.rig_api.specs.State.{RigState}
use Rattle.rig_discovery.specs.Openings.{HasOpened}
use Rattle.call_refusal.specs.declared.refusal.Refusal.{Refusal}
use Rattle.call_refusal.specs.declared.refusal.Refusal.TheVariants as refusal
use Rattle.nvme_command.specs.Sessions.{CauseNoFront}
use Rattle.nvme_command.specs.Causes.{CauseClosed}

-- why an opened image has no front is why it is closed
pub closed_by : (x : Refusal) (name : List ℕ) (old between new : RigState) → HasOpened name old between new → between.standing.devices ≡ length (units_of between.standing.head) → new.armed ≡ between.armed →
    CauseNoFront x between.standing between.units between.log new.log between.image new.image → CauseClosed x name old new
closed_by (refusal.BadCapacity dev) name old between new since counted armed c = record { between = between; since = since; armed = armed ∙ since.kept.armed; fault = c.0; untold = c.1 }
closed_by refusal.Memory name old between new since counted armed (inl c) =
    let first = since.kept.count in
    let more = since.count in
    inl (
      record { image = c.1 ∙ since.kept.image; armed = armed ∙ since.kept.armed; log = c.0 ∙ since.kept.log; count = omega (arith, first, more) },
      inr (ap (λ (s : Standing). s.openings) since.standing ∙ since.opened.opened.0, ap (λ (s : Standing). s.name) since.standing ∙ since.opened.opened.1),
    )
closed_by refusal.Memory name old between new since counted armed (inr c) = inr (c.0, record { between = between; since = since; counted = counted; found = c.1 }, armed ∙ since.kept.armed)
closed_by _ name old between new since counted armed c = absurd c
