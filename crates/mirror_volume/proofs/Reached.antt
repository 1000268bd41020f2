-- A rig has the blocks that an overwrite of a mirror's script names.
use Rattle.std.proofs.Common.{◌≡◌, ◌<◌, ◌≤◌, ℕ, zero, suc, ◌+◌, Bool, true, eqb, leb, ltb, ◌&&◌, List, [], ◌∷◌, length, map, refl, sym, ap, ◌∙◌, subst, arith}
use Rattle.std.specs.Prelude.{slice_index_or}
use Rattle.std.proofs.lemmas.Bool.{and_from, eq-eqb, le-leb, lt-ltb}
use Rattle.pi_tuple.specs.declared.checks.PiType.{PiType}
use Rattle.rig_api.specs.declared.change.Change.{Change}
use Rattle.rig_api.specs.declared.change.Change.TheVariants.{Copy, Flip}
use Rattle.rig_api.specs.Telling.{Standing, can_change, has_address, no_spec, source_of, spec_at, specs_of}
use Rattle.rig_discovery.specs.Discovery.{info_of}
use Rattle.rig_api.specs.Frames.{stored_size}
use Rattle.rig_api.specs.declared.units.UnitSpec.{UnitSpec}
use Rattle.volume_table.specs.declared.device.DeviceInfo.{DeviceInfo}
use Rattle.volume_table.specs.Faults.{device}
use Rattle.volume_table.specs.Tables.{IsOn}
use Rattle.mirror_volume.specs.LegsPassed.{HasChangedBlocks}
use Rattle.mirror_volume.proofs.LegsPassed.{IsChange}
use Rattle.mirror_volume.specs.Standing.{HasLegDevices}

-- a block of the volume's kind, as a rig that tells its image has it
record Stands (st : Standing) (ty : PiType) (size dev lba : ℕ) : Type 0 where
  has : has_address (spec_at st dev) lba ≡ true
  long : stored_size (spec_at st dev).ty (spec_at st dev).size ≡ stored_size ty size

spec-is : (us : List UnitSpec) (dev : ℕ) → dev < length (map info_of us) → device (map info_of us) dev ≡ info_of (slice_index_or us dev no_spec)
spec-is [] dev l = absurd (omega (arith, l))
spec-is (u ∷ us) zero l = refl
spec-is (u ∷ us) (suc dev) l = spec-is us dev (omega (arith, l))

stands : (st : Standing) (ty : PiType) (size dev lba : ℕ) → IsOn (map info_of (specs_of st)) ty size dev lba 1 → Stands st ty size dev lba
stands st ty size dev lba h =
    let u = spec_at st dev in
    let d = spec-is (specs_of st) dev h.known in
    let low : u.first ≤ lba = subst (λ (x : DeviceInfo). x.first ≤ lba) d h.begins in
    let high : lba + 1 ≤ u.first + u.blocks = subst (λ (x : DeviceInfo). lba + 1 ≤ x.first + x.blocks) d h.ends in
    let ty_is : u.ty ≡ ty = ap (λ (x : DeviceInfo). x.ty) (sym d) ∙ h.type_is in
    let size_is : u.size ≡ size = ap (λ (x : DeviceInfo). x.size) (sym d) ∙ h.size_is in
    record {
      has = and_from (leb u.first lba) (ltb lba (u.first + u.blocks)) (le-leb u.first lba low) (lt-ltb lba (u.first + u.blocks) (omega (arith, high)));
      long = λ i. stored_size (ty_is i) (size_is i);
    }

can : (st : Standing) (ty : PiType) (size dev lba : ℕ) (change : Change) → IsChange (map info_of (specs_of st)) ty size dev lba change → can_change st dev lba change ≡ true
can st ty size dev lba (Flip off bytes) c = (stands st ty size dev lba c.to).has
can st ty size dev lba (Copy from at) c =
    let a = stands st ty size dev lba c.to in
    let b = stands st ty size from at (c.copied from at refl) in
    let to : ℕ = stored_size (spec_at st dev).ty (spec_at st dev).size in
    let copied : ℕ = stored_size (spec_at st from).ty (spec_at st from).size in
    and_from (has_address (spec_at st dev) lba) (has_address (spec_at st from) at && eqb copied to) a.has (and_from (has_address (spec_at st from) at) (eqb copied to) b.has (eq-eqb copied to (b.long ∙ sym a.long)))

source-known : (devices : List DeviceInfo) (ty : PiType) (size dev lba : ℕ) (change : Change) → IsChange devices ty size dev lba change → source_of change dev < length devices
source-known devices ty size dev lba (Flip off bytes) c = c.to.known
source-known devices ty size dev lba (Copy from at) c = (c.copied from at refl).known

pub has-blocks : (devices : List DeviceInfo) (told : Bool) (st : Standing) (ty : PiType) (size dev lba : ℕ) (change : Change) → HasLegDevices devices told st → IsChange devices ty size dev lba change → HasChangedBlocks told st dev lba change
has-blocks devices told st ty size dev lba change h c =
    let here = c.to.known in
    let there = source-known devices ty size dev lba change c in
    let n = h.count in
    record {
      device = omega (arith, n, here);
      source = omega (arith, n, there);
      place = λ e. can st ty size dev lba change (subst (λ (ds : List DeviceInfo). IsChange ds ty size dev lba change) (h.told e) c);
    }
