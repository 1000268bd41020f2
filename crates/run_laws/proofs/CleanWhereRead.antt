-- Where clean devices, or without a shift a clean volume, make the blocks clean to which reads come.
use Rattle.std.proofs.Common.{◌≡◌, ℕ, false, List, [], get_or, sym, ap, subst, ◌∙◌}
use Rattle.std.specs.Prelude.{nat_abs, pos}
use Rattle.pi_tuple.specs.Finds.{is_zero}
use Rattle.fault_schedule.specs.Altered.{shift_of}
use Rattle.fault_schedule.specs.declared.fault.Crossing.{Crossing}
use Rattle.fault_schedule.specs.declared.fault.Crossing.TheVariants.{AdapterToTarget, MediumToTarget}
use Rattle.walk_laws.specs.Passed.{DeviceInfo, medium_lba, wire_lba}
use Rattle.walk_laws.specs.Settings.{Setting, route}
use Rattle.walk_laws.specs.UnderMap.{AreClean, IsClean}
use Rattle.run_laws.specs.ShownRun.{AreCleanWhereRead, DevicesAreClean}
use Rattle.run_laws.proofs.Layers.{unmoved}

module _ (m : Setting) (devices : List DeviceInfo) (image : List (List ℕ)) where
  pub on_clean_devices : DevicesAreClean m devices image → AreCleanWhereRead m devices image
  on_clean_devices clean b l on = clean b.virt (medium_lba m.site.faults (route m b)) l on

  -- no shift of what is read
  pub on_read_volume : is_zero m.ty ≡ false → ((op : ℕ) → shift_of m.site.faults AdapterToTarget op ≡ pos 0) → ((op : ℕ) → shift_of m.site.faults MediumToTarget op ≡ pos 0) → AreClean m image → AreCleanWhereRead m devices image
  on_read_volume tuples sent fetched clean b l on =
      let wire = unmoved m (route m b).lba (shift_of m.site.faults AdapterToTarget b.op) (ap nat_abs (sent b.op)) in
      let home = unmoved m (wire_lba m.site.faults (route m b)) (shift_of m.site.faults MediumToTarget b.op) (ap nat_abs (fetched b.op)) ∙ wire in
      subst (λ (a : ℕ). IsClean m a (get_or image (m.site.cell (route m b).dev a) [])) (sym home) (clean b.virt l tuples)

  pub on_clean_volume : is_zero m.ty ≡ false → ((at : Crossing) (op : ℕ) → shift_of m.site.faults at op ≡ pos 0) → AreClean m image → AreCleanWhereRead m devices image
  on_clean_volume tuples still clean = on_read_volume tuples (still AdapterToTarget) (still MediumToTarget) clean
