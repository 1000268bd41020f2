-- A script over a formatted image, in type 1 with tuples passed all the way: its settings with a flip and without, and where its blocks lie.
use Rattle.std.proofs.Common.{◌≡◌, ◌<◌, ◌≤◌, ℕ, ◌%◌, Bool, true, false, List, [], ◌∷◌, length, get_or, map, Option, None, refl, sym, ap, subst, ◌∙◌, arith}
use Rattle.std.specs.Prelude.{All}
use Rattle.std.specs.List.{list_any}
use Rattle.std.proofs.lemmas.Bool.{or_from}
use Rattle.pi_tuple.specs.Finds.{is_escaped}
use Rattle.pi_tuple.specs.declared.checks.PiType.TheVariants.{One}
use Rattle.fault_schedule.specs.declared.fault.Crossing.TheVariants.{TargetToMedium}
use Rattle.fault_schedule.specs.declared.fault.FaultKind.TheVariants.{Flip}
use Rattle.fault_schedule.specs.declared.fault.FaultLine.{FaultLine}
use Rattle.stack_ops.specs.declared.op.Op.{Op}
use Rattle.stack_ops.specs.Ops.{is_overwrite}
use Rattle.rig_api.specs.Frames.{tuple_of}
use Rattle.rig_api.specs.Image.{formatted}
use Rattle.rig_api.specs.Target.{Stored}
use Rattle.rig_api.specs.Telling.{own_units}
use Rattle.rig_discovery.specs.Discovery.{Ends, info_of}
use Rattle.volume_table.specs.Places.{place_in, volume_len}
use Rattle.volume_table.specs.Tables.{IsOn, MadeFor, Table}
use Rattle.volume_table.specs.declared.device.DeviceInfo.{DeviceInfo}
use Rattle.volume_table.proofs.Laws.{made}
use Rattle.dix_adapter.specs.Ways.{blocks_told, cell_in, shapes_of}
use Rattle.block_path.specs.Routes.{target}
use Rattle.walk_laws.specs.CalmRun.{LiesInImage}
use Rattle.walk_laws.specs.Settings.{Setting}
use Rattle.walk_laws.specs.UnderMap.{home}
use Rattle.run_laws.specs.ShownRun.{IsChecked}
use Rattle.run_laws.proofs.Reading.{checked_form}
use Rattle.script_run_laws.proofs.Calm.{lies-in}
use Rattle.script_run_laws.proofs.OverUnits.{IsBoundOver}
use Rattle.script_run_laws.specs.Units.{AreStored}
use Rattle.script_laws.proofs.Ranges.{all_in_range}
use Rattle.script_text.specs.Bindings.{binding_fault}
use Rattle.script_text.specs.Crossings.{crossing_of, is_read}
use Rattle.script_text.specs.declared.fault.ScriptFault.{ScriptFault}
use Rattle.script_text.specs.declared.script.Script.{Script}
use Rattle.image_laws.specs.Passed.{devices_of}
use Rattle.image_laws.proofs.Passed.{all_end, blocks_are, formatted_below, fresh_unit, shapes_are}
use Rattle.image_rig.proofs.Heads.{layout_parts}
use Rattle.image_laws.specs.Over.{setting_over, volume_over}
use Rattle.image_laws.proofs.Told.{devices_back, stored_back}
use Rattle.flip_sweep.specs.Flips.{bad_if, fault_before, overwrite_fault, with_flip}
use Rattle.flip_sweep.specs.Swept.{Sweep}
use Rattle.flip_sweep.specs.declared.flips.Site.{Site}
use Rattle.flip_sweep.proofs.Sounding.{no_faults}
use Rattle.lab_laws.specs.Flips.{IsGuarded}
use Rattle.lab_laws.proofs.Made.{all_ends}
use Rattle.lab_laws.proofs.OneLine.{m0, m1, one_line}
use Rattle.lab_laws.proofs.Fresh.{no_escape, units_stored}
use Rattle.small_laws.proofs.Numbers.{even_size}

-- ---- no overwrite

rest_none : (faults : List FaultLine) (lines : List ℕ) (rest : Option ScriptFault) → fault_before faults lines rest ≡ None → rest ≡ None
rest_none [] lines rest e = e
rest_none (f ∷ faults) [] rest e = e
rest_none (f ∷ faults) (l ∷ lines) rest e = absurd (cc)

none_if : (b : Bool) (line : ℕ) (rest : Option ScriptFault) → bad_if b line rest ≡ None → (b ≡ false) × (rest ≡ None)
none_if true line rest e = absurd (cc)
none_if false line rest e = (refl, e)

no_overwrites : (ops : List Op) (lines : List ℕ) → length ops ≤ length lines → overwrite_fault ops lines ≡ None → list_any is_overwrite ops ≡ false
no_overwrites [] lines l e = refl
no_overwrites (op ∷ ops) [] l e = absurd (omega arith)
no_overwrites (op ∷ ops) (line ∷ lines) l e =
    let p = none_if (is_overwrite op) line (overwrite_fault ops lines) e in
    or_from (is_overwrite op) (list_any is_overwrite ops) p.0 (no_overwrites ops lines (omega arith) p.1)

module _ (w : Sweep) (h : IsGuarded w) where
  abbrev pub s : Script
  s = w.script

  abbrev pub image : List ℕ
  image = formatted w.units

  abbrev pub us : List Stored
  us = own_units image

  abbrev pub table : Table
  table = volume_over s image

  -- the setting of the run as it is
  abbrev pub own : Setting
  own = setting_over s image

  pub few : length w.units ≤ 8
  few = (layout_parts w.units h.layout).1

  pub us_are : us ≡ map fresh_unit w.units
  us_are = stored_back w.units h.layout ∙ blocks_are w.units few

  pub shapes : shapes_of us ≡ w.units
  shapes = ap shapes_of (stored_back w.units h.layout) ∙ shapes_are w.units few

  pub devices : devices_of image ≡ map info_of w.units
  devices = devices_back w.units h.layout

  pub same_devices : devices_of image ≡ map info_of (shapes_of us)
  same_devices = devices ∙ ap (map info_of) (sym shapes)

  pub tabled : MadeFor table (devices_of image) s.block
  tabled =
      let keeps = h.sound.keeps in
      let ends = all_end (devices_of image) (subst Ends (sym devices) (all_ends w.units (layout_parts w.units h.layout).2)) in
      made s.entries (devices_of image) s.block keeps.entries_count.high_is (all_in_range s.entries keeps.entries_are) ends h.volume

  pub bound : IsBoundOver s table us
  bound = record {
    keeps = h.sound.keeps;
    lines = h.sound.lines;
    made = subst (λ ds. MadeFor table ds s.block) same_devices tabled;
    bound = subst (λ (ds : List DeviceInfo). binding_fault s table ds ≡ None) same_devices h.lines;
    stored = subst AreStored (sym us_are) (units_stored w.units);
  }

  pub unfaulted : s.faults ≡ []
  unfaulted = no_faults s h.sound h.own

  pub no_overwrite : list_any is_overwrite s.ops ≡ false
  no_overwrite = no_overwrites s.ops s.lines (let l = h.sound.lines in omega (arith, l)) (rest_none s.faults s.lines (overwrite_fault s.ops s.lines) h.own)

  -- ---- the settings of both runs

  abbrev pub under : List FaultLine → Setting
  under lines = record own { site = record own.site { faults = lines; device = target lines } }

  pub is_checked : (lines : List FaultLine) → IsChecked (under lines)
  is_checked lines = record { ty = h.ty; dix = h.dix; dif = h.dif; protect = h.protect; device = refl }

  abbrev pub plain : Setting
  plain = m0 own TargetToMedium 0 0 0 0

  pub plain_is : own ≡ plain
  plain_is = ap under unfaulted ∙ checked_form (under []) (is_checked [])

  pub flipped_is : (at : Site) (off : ℕ) → let crossing = crossing_of at.spot (Flip off (w.byte ∷ [])) (is_read s.ops at.op) in setting_over (with_flip s at off w.byte) image ≡ m1 own crossing at.op at.k off w.byte
  flipped_is at off = let lines = one_line (crossing_of at.spot (Flip off (w.byte ∷ [])) (is_read s.ops at.op)) at.op at.k off w.byte ∷ [] in checked_form (under lines) (is_checked lines)

  pub is_even : own.size % 2 ≡ 0
  is_even = even_size s.block h.sound.keeps.block_is

  pub blocks_below : All (All (λ x. x < 256)) (blocks_told us)
  blocks_below = subst (λ us. All (All (λ x. x < 256)) (blocks_told us)) (sym (stored_back w.units h.layout)) (formatted_below w.units few)

  pub lies_there : LiesInImage plain (volume_len own.entries) (blocks_told us)
  lies_there = subst (λ (m : Setting). LiesInImage m (volume_len own.entries) (blocks_told us)) plain_is (lies-in s table us bound blocks_below)

  -- ---- where blocks lie

  pub on : (v : ℕ) → v < volume_len own.entries → IsOn (map info_of w.units) One own.size (place_in own.entries v).0 (place_in own.entries v).1 1
  on v l = subst (λ ty. IsOn (map info_of w.units) ty own.size (place_in own.entries v).0 (place_in own.entries v).1 1) h.ty (subst (λ ds. IsOn ds table.ty own.size (place_in own.entries v).0 (place_in own.entries v).1 1) devices (tabled.inside v l))

  pub cells : own.site.cell ≡ cell_in w.units
  cells = ap cell_in shapes

  pub unescaped : (v : ℕ) → v < volume_len own.entries → is_escaped One (tuple_of own.size (get_or (blocks_told us) (home plain v) [])) ≡ false
  unescaped v l =
      ap (λ (us : List Stored). is_escaped One (tuple_of own.size (get_or (blocks_told us) (home plain v) []))) (stored_back w.units h.layout)
      ∙ no_escape plain w.units few refl cells on v l
