-- The script of the rows is bound as a mirror's, and meets the premises.
use Rattle.std.proofs.Common.{◌≡◌, ◌<◌, ℕ, zero, suc, ◌+◌, true, [], get_or, refl, arith}
use Rattle.std.specs.Prelude.{None, Some}
use Rattle.script_lines.specs.declared.kind.ScriptKind.TheVariants.{BadFault}
use Rattle.pi_guard.specs.Guards.{crc, ip}
use Rattle.pi_tuple.specs.declared.checks.PiType.TheVariants.{One}
use Rattle.fault_schedule.specs.declared.fault.Crossing.TheVariants.{AdapterToHost, AdapterToTarget, HostToAdapter, MediumToTarget, TargetToAdapter, TargetToMedium}
use Rattle.page_pool.specs.Places.{run}
use Rattle.rig_api.specs.Image.{fresh}
use Rattle.rig_api.specs.Passing.{found_in, from_medium, to_medium}
use Rattle.block_path.specs.WayIn.{from_wire}
use Rattle.block_path.specs.WayOut.{to_wire}
use Rattle.dix_adapter.specs.Ways.{blocks_told}
use Rattle.volume_table.specs.Faults.{table_fault}
use Rattle.walk_laws.specs.Past.{brought_by}
use Rattle.walk_laws.specs.Settings.{Setting}
use Rattle.walk_laws.specs.UnderMap.{AreClean, IsClean, home}
use Rattle.script_text.specs.declared.script.Script.{Script}
use Rattle.script_stack.specs.Causes.{table_of}
use Rattle.mirror_volume.specs.LegsPassed.{mirror_fault}
use Rattle.mirror_laws.specs.OneGood.{HasGoodLeg, IsUnnamed}
use Rattle.mirror_volume.specs.Enough.{opening_over}
use Rattle.mirror_volume.specs.Standing.{half_of, mirror_setting}
use Rattle.mirror_volume.specs.Rows.{devices, failing_script, script, still_script, us}
use Rattle.mirror_volume.specs.Premises.{IsFormedMirror, IsOneGoodRun, IsStillMirror}

no_fault : table_fault script.entries devices 512 ≡ None
no_fault = refl

pub bound : mirror_fault script (table_of script devices) devices ≡ None
bound = refl

abbrev m : Setting
m = mirror_setting script devices us

half : half_of script devices ≡ 1
half = refl

block_clean : IsClean m 0 (fresh One 512 0)
unfolding crc
block_clean = record { no_escape = refl; guard = refl; app = refl; rtag = λ h. refl }

clean : AreClean m (blocks_told us)
clean zero l z = block_clean
clean (suc zero) l z = block_clean
clean (suc (suc v)) l z = absurd (omega (arith, l))

equal : (u : ℕ) → u < 1 → brought_by 512 (get_or (blocks_told us) (home m (1 + u)) []) ≡ brought_by 512 (get_or (blocks_told us) (home m u) [])
equal zero l = refl
equal (suc u) l = absurd (omega (arith, l))

-- leg 1 has no fault line
written : IsUnnamed m (record { op = 1; k = 1; virt = 1 })
written HostToAdapter = refl
written AdapterToTarget = refl
written TargetToMedium = refl
written MediumToTarget = refl
written TargetToAdapter = refl
written AdapterToHost = refl

fetched : IsUnnamed m (record { op = 2; k = 1; virt = 1 })
fetched HostToAdapter = refl
fetched AdapterToTarget = refl
fetched TargetToMedium = refl
fetched MediumToTarget = refl
fetched TargetToAdapter = refl
fetched AdapterToHost = refl

one_good : (u : ℕ) → u < 1 → HasGoodLeg m 1 script.ops (opening_over script us) u
unfolding crc ip found_in to_medium from_medium to_wire from_wire run
one_good zero l = record { leg = true; spares = (λ e. written, (λ e. fetched, tt)); serves = (λ e. refl, (λ e. refl, (λ e. refl, tt))) }
one_good (suc u) l = absurd (omega (arith, l))

pub one_good_row : IsOneGoodRun script devices us
unfolding crc ip found_in to_medium from_medium to_wire from_wire run
one_good_row = record {
  ty = refl;
  protect = refl;
  clean = clean;
  equal = equal;
  no_escape = (λ h. refl, (λ h. refl, (tt, tt)));
  accounted = refl;
  kept = refl;
  one_good = one_good;
}

-- And so it can be read off the script.
pub formed_row : IsFormedMirror script devices us
unfolding crc
formed_row = record {
  ty = refl;
  protect = refl;
  form = refl;
  a_leg = refl;
  escapes = refl;
  clean = clean;
  equal = equal;
}

-- So it is where the medium of leg 0 fails the write.
pub failing_bound : mirror_fault failing_script (table_of failing_script devices) devices ≡ None
failing_bound = refl

pub failing_row : IsFormedMirror failing_script devices us
failing_row = record {
  ty = refl;
  protect = refl;
  form = refl;
  a_leg = refl;
  escapes = refl;
  clean = λ v l z. (let c = clean v l z in record { no_escape = c.no_escape; guard = c.guard; app = c.app; rtag = c.rtag });
  equal = equal;
}

pub still_bound : (mirror_fault (still_script 3) (table_of (still_script 3) devices) devices ≡ None) × (mirror_fault (still_script 4) (table_of (still_script 4) devices) devices ≡ None)
still_bound = (refl, refl)

still_clean : (protect : ℕ) → AreClean (mirror_setting (still_script protect) devices us) (blocks_told us)
still_clean protect v l z =
    let c = clean v l z in
    record { no_escape = c.no_escape; guard = c.guard; app = c.app; rtag = c.rtag }

pub still_row : (protect : ℕ) → IsStillMirror (still_script protect) devices us
still_row protect = record {
  ty = refl;
  faults = refl;
  overwrites = refl;
  escapes = refl;
  clean = still_clean protect;
  equal = equal;
}

-- With the fault the script isn't still, and under 011b it isn't bound.
pub not_bound : (λ (s : Script). mirror_fault s (table_of s devices) devices) (record script { mode = record script.mode { protect = 3 } }) ≡ Some (record { line = 7; kind = BadFault })
not_bound = refl
