-- A repair over a rig that tells its blocks.
use Rattle.std.proofs.Common.{ℕ, ◌≡◌, List, length, map, Option, ap, subst, sym, ◌∙◌}
use Rattle.std.specs.Prelude.{is_some}
use Rattle.rig_api.specs.Target.{Stored}
use Rattle.rig_api.specs.declared.units.UnitSpec.{UnitSpec}
use Rattle.rig_api.specs.Telling.{IsStanding, Standing, units_told}
use Rattle.rig_api.specs.State.{RigState}
use Rattle.rig_discovery.specs.Discovery.{info_of}
use Rattle.dix_adapter.specs.Ways.{shapes_of}
use Rattle.stack_ops.specs.declared.reply.Reply.{Reply}
use Rattle.volume_table.specs.declared.device.DeviceInfo.{DeviceInfo}
use Rattle.script_text.specs.declared.script.Script.{Script}
use Rattle.mirror_volume.specs.LegsPassed.{table_of, AreStored}
use Rattle.mirror_volume.proofs.LegsPassed.{told-shapes, told-stored, is_told}
use Rattle.mirror_volume.specs.LegRuns.{AllWalked, LegRun, RanLegs}
use Rattle.mirror_volume.specs.Mending.{Mended, RepairBy, stretches_in}
use Rattle.mirror_volume.specs.OnOps.{Sides}
use Rattle.mirror_volume.specs.Standing.{HasLegDevices, IsBoundMirror, IsRepairedAs, RepairsAsWalk, StandsAt, half_of}

-- what the law of a repair says
abbrev pub RepairLaw : Type 0
RepairLaw = (s : Script) (devices : List DeviceInfo) (us now left : List Stored) (sides : Sides) (replies : List Reply) (new : Mended) (runs : List LegRun) → IsBoundMirror s devices
    → devices ≡ map info_of (shapes_of now) → AreStored now → length sides.marks ≡ half_of s devices → StandsAt s devices us sides replies now
    → RepairBy s (half_of s devices) 0 (stretches_in (half_of s devices)) (record { marks = sides.marks; repaired = 0; lost = 0 }) new runs → AllWalked (table_of s devices) now runs left
    → IsRepairedAs s devices us (length replies) new.marks new.repaired new.lost left

module _ (law : RepairLaw) (s : Script) (devices : List DeviceInfo) (half : ℕ) (bound : IsBoundMirror s devices) (is-half : half ≡ half_of s devices) (st : Standing) (image : Option (List ℕ))
    (has : HasLegDevices devices (is_some image) st) (ready : IsStanding st image) where
  pub repair-told : (before after : RigState) (sides : Sides) (replies : List Reply) (new : Mended) (runs : List LegRun) → before.units ≡ units_told st image → length sides.marks ≡ half
      → RanLegs (table_of s devices) devices runs before after → RepairBy s half 0 (stretches_in half) (record { marks = sides.marks; repaired = 0; lost = 0 }) new runs
      → RepairsAsWalk s devices sides before after replies new.marks new.repaired new.lost runs
  repair-told before after sides replies new runs laid marked ran by us now told none stands =
      let e = sym laid ∙ told in
      let units = has.told (is_told st image now e) ∙ ap (λ (xs : List UnitSpec). map info_of xs) (sym (told-shapes st image now e ready)) in
      let x = ran.told now told none in (
        x.0,
        (
          x.1.0,
          law s devices us now x.0 sides replies new runs bound units (told-stored st image now e ready) (marked ∙ is-half) stands
              (subst (λ h. RepairBy s h 0 (stretches_in h) (record { marks = sides.marks; repaired = 0; lost = 0 }) new runs) is-half by) x.1.1,
        ),
      )
