-- The devices that a rig told, where it tells its image.
use Rattle.std.proofs.Common.{ℕ, ◌≡◌, ◌<◌, true, List, [], ◌∷◌, ◌++◌, length, take, drop, Option, Some, None, refl, sym, ap, ◌∙◌, arith}
use Rattle.std.specs.Prelude.{is_some, map}
use Rattle.rig_discovery.proofs.Bytes.{bytes_told, holds_blocks, some_unit}
use Rattle.rig_discovery.proofs.Devices.{shapes}
use Rattle.rig_discovery.specs.Openings.{HasDevices}
use Rattle.rig_api.specs.Head.{head_of, units_of}
use Rattle.rig_api.specs.Telling.{IsStanding, Standing, specs_of, units_told}
use Rattle.rig_api.specs.State.{RigState}
use Rattle.rig_api.proofs.HeadLaws.{headed, all_specs}
use Rattle.call_refusal.specs.Passed.{info_of}
use Rattle.stack_walk_laws.specs.Passed.{blocks_told}
use Rattle.rig_api.specs.Frames.{joined}
use Rattle.rig_api.specs.Target.{Stored}
use Rattle.rig_api.proofs.FrameLaws.{joined_append}
use Rattle.volume_table.specs.declared.device.DeviceInfo.{DeviceInfo}
use Rattle.run_command.specs.Verdict.{HoldsBlocks, WasAsked, devices_of}

-- devices that are a told rig's are as its head tells them
as_head : (s : Standing) (devices : List DeviceInfo) (units : Option (List Stored)) (image : List ℕ) → HasDevices devices s units → units ≡ units_told s (Some image) → devices ≡ map info_of (specs_of s)
as_head s devices units image has laid = has.told _ laid ∙ sym (shapes (specs_of s) (drop 512 image))

known : (s : Standing) (devices : List DeviceInfo) (units : Option (List Stored)) (image : Option (List ℕ)) → HasDevices devices s units → units ≡ units_told s image → is_some image ≡ true → devices ≡ map info_of (specs_of s)
known s devices units None has laid told = absurd (cc)
known s devices units (Some image) has laid told = as_head s devices units image has laid

-- the devices of a rig that tells are its head's
pub known_infos : (name : List ℕ) (devices : List DeviceInfo) (old new : RigState) → WasAsked name devices old new → new.units ≡ units_told new.standing new.image → is_some new.image ≡ true → devices ≡ map info_of (specs_of new.standing)
known_infos name devices old new asked laid told = known new.standing devices new.units new.image asked.told.devices_are laid told

-- they are those of the image
pub image_devices : (name : List ℕ) (devices : List DeviceInfo) (old new : RigState) (image : List ℕ) → WasAsked name devices old new → old.image ≡ Some image → devices ≡ devices_of image
image_devices name devices old new image asked e =
    let since = asked.told.since in
    let between = asked.told.between in
    let told : between.image ≡ Some image = since.kept.image ∙ e in
    let laid : new.units ≡ units_told new.standing (Some image) = since.units ∙ since.laid ∙ ap (units_told between.standing) told ∙ ap (λ (s : Standing). units_told s (Some image)) (sym since.standing) in
    let head : new.standing.head ≡ head_of image = ap (λ (s : Standing). s.head) since.standing ∙ headed between.standing.head image between.image told since.opened.head in
    as_head new.standing devices new.units image asked.told.devices_are laid ∙ ap (map info_of) (all_specs new.standing asked.all ∙ ap units_of head)

-- an image whose head is right has a device
pub has_device : (name : List ℕ) (devices : List DeviceInfo) (old new : RigState) → WasAsked name devices old new → 0 < new.standing.devices
has_device name devices old new asked =
    let some = some_unit asked.told.between.standing.head asked.told.since.opened.judged in
    let same = ap (λ (s : Standing). length (units_of s.head)) asked.told.since.standing in
    omega (arith, some, same, asked.all)

bytes_are : (us : List Stored) → bytes_told us ≡ joined (blocks_told us)
bytes_are [] = refl
bytes_are (u ∷ us) = ap (λ v. joined u.blocks ++ v) (bytes_are us) ∙ sym (joined_append u.blocks (blocks_told us))

-- the image of a rig that was told before and after, and stands on devices
pub image_holds : (old new : RigState) → new.standing ≡ old.standing → 0 < old.standing.devices → IsStanding old.standing old.image → IsStanding new.standing new.image → new.units ≡ units_told new.standing new.image → is_some new.image ≡ is_some old.image → HoldsBlocks old new
image_holds old new same some ready ready' laid' tells image e =
    let h = holds_blocks old.standing new.standing old.image new.image new.units same some ready ready' laid' tells image e in
    (h.0, h.1, h.2 ∙ ap (λ v. Some (take 512 image ++ v)) (bytes_are h.0))
