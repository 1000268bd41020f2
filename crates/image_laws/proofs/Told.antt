-- What a rig that tells its image tells of its units: after it was opened, and after a run.
use Rattle.std.proofs.Common.{◌≡◌, ℕ, ◌≤◌, ◌<◌, inl, inr, true, false, List, length, map, take, Some, None, sym, ap, subst, ◌∙◌, arith}
use Rattle.std.specs.Prelude.{All, Option, ◌++◌}
use Rattle.pi_tuple.specs.Finds.{is_zero}
use Rattle.rig_api.specs.Frames.{joined}
use Rattle.rig_api.specs.Headers.{is_layout}
use Rattle.rig_api.specs.Image.{formatted, units_in}
use Rattle.rig_api.specs.Target.{Stored}
use Rattle.rig_api.specs.declared.units.UnitSpec.{UnitSpec}
use Rattle.rig_api.specs.Head.{Head, head_fault, head_of, units_of}
use Rattle.rig_api.specs.Telling.{IsStanding, Standing, own_units, specs_of, units_told}
use Rattle.rig_api.specs.State.{RigState}
use Rattle.rig_api.proofs.HeadLaws.{headed, all_specs, right_layout}
use Rattle.rig_discovery.specs.Discovery.{info_of}
use Rattle.volume_table.specs.declared.device.DeviceInfo.{DeviceInfo}
use Rattle.dix_adapter.specs.Ways.{blocks_told, cell_in}
use Rattle.walk_laws.specs.PlainMap.{as_expected}
use Rattle.walk_laws.specs.Settings.{Setting}
use Rattle.run_laws.specs.ShownRun.{DevicesAreClean}
use Rattle.dix_base.specs.Told.{Becomes}
use Rattle.image_commands.specs.Causes.{WasFormatted}
use Rattle.image_rig.proofs.Heads.{layout_parts}
use Rattle.run_command.specs.Verdict.{WasAsked, devices_of}
use Rattle.run_command.proofs.Devices.{image_devices}
use Rattle.image_laws.specs.Over.{blocks_in, image_with}
use Rattle.image_laws.proofs.Cut.{image_is_cut}
use Rattle.image_rig.proofs.FreshHead.{units_back}

-- ---- after it was opened

-- a rig stands on the image's head
pub head_asked : (name : List ℕ) (devices : List DeviceInfo) (old told : RigState) (image : List ℕ) → old.image ≡ Some image → WasAsked name devices old told → told.standing.head ≡ head_of image
head_asked name devices old told image e asked =
    let since = asked.told.since in
    ap (λ (s : Standing). s.head) since.standing ∙ headed asked.told.between.standing.head image asked.told.between.image (since.kept.image ∙ e) since.opened.head

-- and tells the image's units
pub units_asked : (name : List ℕ) (devices : List DeviceInfo) (old told : RigState) (image : List ℕ) → old.image ≡ Some image → WasAsked name devices old told → told.units ≡ Some (own_units image)
units_asked name devices old told image e asked =
    let since = asked.told.since in
    let between = asked.told.between in
    let all : between.standing.devices ≡ length (units_of between.standing.head) = subst (λ (s : Standing). s.devices ≡ length (units_of s.head)) since.standing asked.all in
    let head : between.standing.head ≡ head_of image = ap (λ (s : Standing). s.head) (sym since.standing) ∙ head_asked name devices old told image e asked in
    since.units ∙ since.laid ∙ ap (units_told between.standing) (since.kept.image ∙ e)
    ∙ ap (λ specs. Some (units_in specs image)) (all_specs between.standing all ∙ ap units_of head)

-- ---- after a run

some_units : (h : Head) → head_fault h ≡ None → 1 ≤ length (units_of h)
some_units h e = (layout_parts (units_of h) (right_layout h e)).0

stands_on : (s : Standing) (image : List ℕ) → 1 ≤ s.devices → IsStanding s (Some image) → s.head ≡ head_of image
stands_on s image n (inl none) = absurd (omega (arith, n, none))
stands_on s image n (inr on) = on.told

-- what a rig that stands as it did tells of its image afterwards
pub record IsAfter (image image' : List ℕ) (left : List Stored) : Type 0 where
  pub head : head_of image' ≡ head_of image
  pub units : left ≡ own_units image'

pub after : (s : Standing) (image image' : List ℕ) (left : List Stored) → head_fault (head_of image) ≡ None → s.head ≡ head_of image → s.devices ≡ length (units_of s.head) → IsStanding s (Some image') → units_told s (Some image') ≡ Some left → IsAfter image image' left
after s image image' left right head all standing told =
    let n = some_units (head_of image) right in
    let m : s.devices ≡ length (units_of (head_of image)) = all ∙ ap (λ h. length (units_of h)) head in
    let same : s.head ≡ head_of image' = stands_on s image' (omega (arith, n, m)) standing in
    record {
      head = sym same ∙ head;
      units = let u : left ≡ units_in (specs_of s) image' = cc in u ∙ ap (λ specs. units_in specs image') (all_specs s all ∙ ap units_of same);
    }

-- so its bytes are the old header and the blocks that it tells
pub image_after : (image image' : List ℕ) (left : List Stored) (blocks : List (List ℕ)) → head_fault (head_of image) ≡ None → IsAfter image image' left → blocks_told left ≡ blocks → image' ≡ image_with image blocks
image_after image image' left blocks right a e =
    let same : blocks_in image' ≡ blocks = ap blocks_told (sym a.units) ∙ e in
    let front : take 512 image' ≡ take 512 image = ap (λ (h : Head). h.first) a.head in
    image_is_cut image' (ap head_fault a.head ∙ right) ∙ ap (λ bs. image_with image' bs) same ∙ ap (λ xs. xs ++ joined blocks) front

-- ---- after `format`

left_by : (units : List UnitSpec) (image : List ℕ) (old new : Option (List ℕ)) → Becomes (λ was is. is ≡ formatted units) old new → new ≡ Some image → image ≡ formatted units
left_by units image None None b e = cc
left_by units image None (Some is) b e = absurd b
left_by units image (Some was) None b e = absurd b
left_by units image (Some was) (Some is) b e = let same : image ≡ is = cc in same ∙ b

pub formatted_left : (units : List UnitSpec) (name image : List ℕ) (old new : RigState) → WasFormatted name units old new → new.image ≡ Some image → image ≡ formatted units
formatted_left units name image old new f e = left_by units image old.image new.image f.image e

pub devices_back : (units : List UnitSpec) → is_layout units ≡ true → devices_of (formatted units) ≡ map info_of units
devices_back units h = ap (map info_of) (units_back units h)

pub stored_back : (units : List UnitSpec) → is_layout units ≡ true → own_units (formatted units) ≡ units_in units (formatted units)
stored_back units h = ap (λ us. units_in us (formatted units)) (units_back units h)

abbrev pub CleanLaw : Type 0
CleanLaw = (m : Setting) (units : List UnitSpec) → length units ≤ 8 → is_zero m.ty ≡ false → as_expected m 0 ≡ true → m.site.cell ≡ cell_in units → DevicesAreClean m (map info_of units) (blocks_told (units_in units (formatted units)))

abbrev pub BytesLaw : Type 0
BytesLaw = (units : List UnitSpec) → length units ≤ 8 → All (All (λ x. x < 256)) (blocks_told (units_in units (formatted units)))

pub told_formatted : CleanLaw → BytesLaw → (units : List UnitSpec) (name : List ℕ) (devices : List DeviceInfo) (old told : RigState) → is_layout units ≡ true → old.image ≡ Some (formatted units) → WasAsked name devices old told
    → (us : List Stored) × (told.units ≡ Some us) × (devices ≡ map info_of units) × All (All (λ x. x < 256)) (blocks_told us)
    × ((m : Setting) → is_zero m.ty ≡ false → as_expected m 0 ≡ true → m.site.cell ≡ cell_in units → DevicesAreClean m devices (blocks_told us))
told_formatted clean bytes units name devices old told h e asked =
    let few = (layout_parts units h).1 in
    let ds : devices ≡ map info_of units = image_devices name devices old told (formatted units) asked e ∙ devices_back units h in (
      units_in units (formatted units),
      units_asked name devices old told (formatted units) e asked ∙ ap Some (stored_back units h),
      ds,
      bytes units few,
      λ m z app cell. subst (λ (d : List DeviceInfo). DevicesAreClean m d (blocks_told (units_in units (formatted units)))) (sym ds) (clean m units few z app cell),
    )
