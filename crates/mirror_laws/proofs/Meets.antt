-- Mirrors that meet all that one good leg asks for, and some that don't.
use Rattle.std.proofs.Common.{◌≡◌, ◌<◌, ℕ, zero, suc, ◌+◌, Bool, true, false, List, [], ◌∷◌, length, get_or, replicate, refl, sym, ap, subst, ◌∙◌, arith}
use Rattle.std.specs.Option.{unwrap_or}
use Rattle.std.specs.Prelude.{ℤ, pos, eqb, ◌&&◌, ◌||◌, if◌then◌else◌, Option, None}
use Rattle.std.proofs.lemmas.Bool.{false≢true}
use Rattle.std.proofs.lemmas.List.Elements.{All-append, All-cons, All-nil, All-replicate}
use Rattle.pi_guard.specs.Guards.{crc, ip}
use Rattle.pi_tuple.specs.declared.checks.PiType.TheVariants.{One}
use Rattle.page_pool.specs.Places.{run}
use Rattle.fault_schedule.specs.Altered.{is_same, shift_of}
use Rattle.fault_schedule.specs.declared.fault.FaultLine.{FaultLine}
use Rattle.fault_schedule.specs.declared.fault.Crossing.{Crossing}
use Rattle.fault_schedule.specs.declared.fault.Crossing.TheVariants.{AdapterToHost, AdapterToTarget, HostToAdapter, MediumToTarget, TargetToAdapter, TargetToMedium}
use Rattle.rig_api.specs.Passing.{found_in, from_medium, to_medium}
use Rattle.volume_table.specs.declared.device.DeviceInfo.{DeviceInfo}
use Rattle.volume_table.specs.Places.{place_in}
use Rattle.block_path.specs.WayIn.{from_wire}
use Rattle.block_path.specs.WayOut.{to_wire}
use Rattle.walk_laws.specs.Past.{brought_by, steps_from}
use Rattle.walk_laws.specs.Detectable.{accounted}
use Rattle.walk_laws.specs.Settings.{Setting}
use Rattle.walk_laws.specs.UnderMap.{AreClean, IsClean, NoneEscapes, home}
use Rattle.run_laws.specs.ShownRun.{HasBlock, HasCells, LiesOn}
use Rattle.run_laws.proofs.ShownRows.{one_list}
use Rattle.mirror_laws.specs.OneGood.{AllServe, AllSpare, AreBytes, IsMirrorRun, IsUnnamed, OneGood, loses_none, on_leg, script_asks}
use Rattle.mirror_laws.specs.LegByLeg.{HasLegs}
use Rattle.mirror_laws.specs.Sizes.{AllHavePlaces, HasSizes}
use Rattle.mirror_laws.specs.Mirror.{count_of}
use Rattle.mirror_laws.proofs.Rows.{good_failed, lost, neither_stored, opening, ops, stale, torn, unfound, unsent, unstored, with_faults}

abbrev devices : List DeviceInfo
devices = record { ty = One; blocks = 1; size = 512; first = 0 } ∷ record { ty = One; blocks = 1; size = 512; first = 0 } ∷ []

-- ---- whatever the faults

module _ (faults : List FaultLine) where
  abbrev m : Setting
  m = with_faults faults

  there : (dev lba : ℕ) → dev < 2 → lba < 1 → HasBlock m devices dev lba
  there zero lba d l = record { known = omega arith; begins = omega arith; ends = omega (arith, l); type_is = refl; size_is = refl }
  there (suc zero) lba d l = record { known = omega arith; begins = omega arith; ends = omega (arith, l); type_is = refl; size_is = refl }
  there (suc (suc dev)) lba d l = absurd (omega (arith, d))

  lba_zero : (dev lba : ℕ) → HasBlock m devices dev lba → lba ≡ 0
  lba_zero zero lba h = let e = h.ends in omega (arith, e)
  lba_zero (suc zero) lba h = let e = h.ends in omega (arith, e)
  lba_zero (suc (suc dev)) lba h = absurd (let k = h.known in omega (arith, k))

  inside : (v : ℕ) → v < 2 → HasBlock m devices (place_in m.entries v).0 (place_in m.entries v).1
  inside zero l = there 0 0 (omega arith) (omega arith)
  inside (suc zero) l = there 1 0 (omega arith) (omega arith)
  inside (suc (suc v)) l = absurd (omega (arith, l))

  dev_of : (v : ℕ) → v < 2 → (place_in m.entries v).0 ≡ v
  dev_of zero l = refl
  dev_of (suc zero) l = refl
  dev_of (suc (suc v)) l = absurd (omega (arith, l))

  lies : LiesOn m devices
  lies = record { inside = inside; alone = λ v w k l e. sym (dev_of v k) ∙ ap (λ (x : ℕ × ℕ). x.0) e ∙ dev_of w l }

  cells : HasCells m devices opening.blocks
  cells = record {
    within = λ dev lba h. h.known;
    apart = λ dev lba other at h k e. (e, lba_zero dev lba h ∙ sym (lba_zero other at k));
    size = λ dev lba h. sized dev h.known;
  } where
    sized : (dev : ℕ) → dev < 2 → length (get_or opening.blocks dev []) ≡ 520
    sized zero l = refl
    sized (suc zero) l = refl
    sized (suc (suc dev)) l = absurd (omega (arith, l))

  clean_at : (dev : ℕ) → dev < 2 → IsClean m 0 (get_or opening.blocks dev [])
  unfolding crc
  clean_at zero l = record { no_escape = refl; guard = refl; app = refl; rtag = λ h. refl }
  clean_at (suc zero) l = record { no_escape = refl; guard = refl; app = refl; rtag = λ h. refl }
  clean_at (suc (suc dev)) l = absurd (omega (arith, l))

  clean : AreClean m opening.blocks
  clean v l z =
      let h = inside v l in
      let dev = (place_in m.entries v).0 in
      subst (λ a. IsClean m a (get_or opening.blocks dev [])) (sym (lba_zero dev (place_in m.entries v).1 h)) (clean_at dev h.known)

  equal : (u : ℕ) → u < 1 → brought_by 512 (get_or opening.blocks (home m (1 + u)) []) ≡ brought_by 512 (get_or opening.blocks (home m u) [])
  equal zero l = refl
  equal (suc u) l = absurd (omega (arith, l))

  -- no shift, and what is asked of the legs
  meets : ((at : Crossing) (op : ℕ) → shift_of faults at op ≡ pos 0) → NoneEscapes m (script_asks m 1 ops opening) opening → accounted m (script_asks m 1 ops opening) opening ≡ true →
      loses_none m (script_asks m 1 ops opening) ≡ true → OneGood m 1 ops opening → IsMirrorRun m devices 1 ops opening
  meets still bare known kept good = record {
    checked = record { ty = refl; dix = refl; dif = refl; protect = refl; device = refl };
    unshifted = still;
    long = refl;
    lies = lies;
    cells = cells;
    clean = clean;
    equal = equal;
    bind = (tt, ((omega arith, (refl, omega arith)), ((omega arith, (refl, one_list 512 512 (omega arith))), (tt, tt))));
    no_escape = bare;
    accounted = known;
    kept = kept;
    one_good = good;
  }

-- ---- leg 0 refuses the write

-- a line that is no shift shifts nothing, whether it is the op's or not
abbrev nothing : Bool → Option ℤ
nothing c = if c then None else None

never : (c : Bool) → unwrap_or (nothing c) (pos 0) ≡ pos 0
never true = refl
never false = refl

unshifted : (at : Crossing) (op : ℕ) → shift_of stale.site.faults at op ≡ pos 0
unshifted HostToAdapter op = never (eqb 2 op)
unshifted AdapterToTarget op = refl
unshifted TargetToMedium op = refl
unshifted MediumToTarget op = refl
unshifted TargetToAdapter op = refl
unshifted AdapterToHost op = refl

unnamed2 : IsUnnamed stale (record { op = 2; k = 1; virt = 1 })
unnamed2 HostToAdapter = refl
unnamed2 AdapterToTarget = refl
unnamed2 TargetToMedium = refl
unnamed2 MediumToTarget = refl
unnamed2 TargetToAdapter = refl
unnamed2 AdapterToHost = refl

unnamed3 : IsUnnamed stale (record { op = 3; k = 1; virt = 1 })
unnamed3 HostToAdapter = refl
unnamed3 AdapterToTarget = refl
unnamed3 TargetToMedium = refl
unnamed3 MediumToTarget = refl
unnamed3 TargetToAdapter = refl
unnamed3 AdapterToHost = refl

one_good : OneGood stale 1 ops opening
unfolding crc ip found_in to_medium from_medium to_wire from_wire run
one_good zero l = record { leg = true; spares = (tt, (λ e. unnamed2, (λ e. unnamed3, (tt, tt)))); serves = (tt, (λ e. refl, (λ e. refl, (λ e. refl, (tt, tt))))) }
one_good (suc u) l = absurd (omega (arith, l))

mirror_run : IsMirrorRun stale devices 1 ops opening
unfolding crc ip found_in to_medium from_medium to_wire from_wire run
mirror_run = meets stale.site.faults unshifted (tt, (λ h. refl, (λ h. refl, (tt, (tt, tt))))) refl refl one_good

-- ---- the medium of leg 0 fails the write, fails the read, or stores a part of the block, which the target finds

-- one line that is no flip alters no block
alters_none : (c : Bool) → ((c && false) || false) ≡ false
alters_none true = refl
alters_none false = refl

unstored_run : IsMirrorRun unstored devices 1 ops opening
unfolding crc ip found_in to_medium from_medium to_wire from_wire run
unstored_run = meets unstored.site.faults (λ at op. never (is_same TargetToMedium at && eqb 2 op)) (tt, (λ h. refl, (λ h. refl, (tt, (tt, tt))))) refl refl good where
  good : OneGood unstored 1 ops opening
  good zero l = record { leg = true; spares = (tt, (λ e at. alters_none _, (λ e at. alters_none _, (tt, tt)))); serves = (tt, (λ e. absurd (omega (arith, e)), (λ e. refl, (λ e. refl, (tt, tt))))) }
  good (suc u) l = absurd (omega (arith, l))

unsent_run : IsMirrorRun unsent devices 1 ops opening
unfolding crc ip found_in to_medium from_medium to_wire from_wire run
unsent_run = meets unsent.site.faults (λ at op. never (is_same TargetToMedium at && eqb 3 op)) (tt, (λ h. refl, (λ h. refl, (tt, (tt, (tt, tt)))))) refl refl good where
  good : OneGood unsent 1 ops opening
  good zero l = record { leg = true; spares = (tt, (λ e at. alters_none _, (λ e at. alters_none _, (tt, tt)))); serves = (tt, (λ e. refl, (λ e. refl, (λ e. absurd (omega (arith, e)), (λ e. refl, (tt, tt)))))) }
  good (suc u) l = absurd (omega (arith, l))

torn_run : IsMirrorRun torn devices 1 ops opening
unfolding crc ip found_in to_medium from_medium to_wire from_wire run
torn_run = meets torn.site.faults (λ at op. never (is_same TargetToMedium at && eqb 2 op)) (tt, (λ h. refl, (λ h. refl, (tt, (tt, (tt, tt)))))) refl refl good where
  good : OneGood torn 1 ops opening
  good zero l = record { leg = true; spares = (tt, (λ e at. alters_none _, (λ e at. alters_none _, (tt, tt)))); serves = (tt, (λ e. absurd (omega (arith, e)), (λ e. refl, (λ e. refl, (λ e. refl, (tt, tt)))))) }
  good (suc u) l = absurd (omega (arith, l))

-- ---- what doesn't meet it

-- Neither medium stores the block: it has no good leg.
none_good : OneGood neither_stored 1 ops opening → ⊥
unfolding crc ip found_in to_medium from_medium to_wire from_wire run
none_good h = let good = h 0 (omega arith) in by good.leg good.serves where
  by : (leg : Bool) → AllServe neither_stored (on_leg leg 0 1) (script_asks neither_stored 1 ops opening) → ⊥
  by false h = false≢true (h.1.0 refl)
  by true h = false≢true (h.1.1.0 refl)

-- Nor has it where a line alters it on leg 0, and the medium of leg 1 fails it.
no_other : OneGood good_failed 1 ops opening → ⊥
unfolding crc ip found_in to_medium from_medium to_wire from_wire run
no_other h = let good = h 0 (omega arith) in by good.leg good.spares good.serves where
  by : (leg : Bool) → AllSpare good_failed 1 (count_of ops) leg 0 (steps_from good_failed 1 ops) → AllServe good_failed (on_leg leg 0 1) (script_asks good_failed 1 ops opening) → ⊥
  by false spares h = false≢true (sym (spares.1.0 refl HostToAdapter))
  by true spares h = false≢true (h.1.1.0 refl)

-- A part is stored that can't be told from the whole.
not_found : accounted unfound (script_asks unfound 1 ops opening) opening ≡ false
unfolding crc ip found_in to_medium from_medium to_wire from_wire run
not_found = refl

-- The block is lost on leg 0: all else is met, and the read has what stood there before.
lost_alone : (accounted lost (script_asks lost 1 ops opening) opening ≡ true) × ((loses_none lost (script_asks lost 1 ops opening) ≡ false) × OneGood lost 1 ops opening)
unfolding crc ip found_in to_medium from_medium to_wire from_wire run
lost_alone = (refl, (refl, good)) where
  good : OneGood lost 1 ops opening
  good zero l = record { leg = true; spares = (tt, (λ e at. alters_none _, (λ e at. alters_none _, (tt, tt)))); serves = (tt, (λ e. absurd (omega (arith, e)), (λ e. refl, (λ e. refl, (tt, tt))))) }
  good (suc u) l = absurd (omega (arith, l))

-- ---- more that is asked of a mirror

bytes : AreBytes stale 1 opening.blocks
bytes zero l = All-append (λ x. x < 256) (replicate 519 0) (0 ∷ []) (All-replicate (λ x. x < 256) 519 0 (omega arith)) (All-cons (λ x. x < 256) 0 [] (omega arith) (All-nil (λ x. x < 256)))
bytes (suc u) l = absurd (omega (arith, l))

-- And all that is asked of a mirror whose requests are done leg by leg.
legs : HasLegs stale 1
legs = record { unshifted = unshifted; long = refl; one_cell_each = λ u v k l e. sym (dev_of stale.site.faults u k) ∙ e ∙ dev_of stale.site.faults v l }

stored : (v : ℕ) → v < 2 → length (get_or opening.blocks (place_in stale.entries v).0 []) ≡ 520
stored zero l = refl
stored (suc zero) l = refl
stored (suc (suc v)) l = absurd (omega (arith, l))

sizes : HasSizes stale opening.blocks
sizes = record { device = refl; protect = omega arith; stored = stored }

places : AllHavePlaces stale 1 opening.blocks ops
places = (tt, ((omega arith, refl), (tt, (tt, tt))))
