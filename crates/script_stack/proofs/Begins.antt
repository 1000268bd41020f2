-- The stack of a script follows the walk of its script before its first step.
use Rattle.std.proofs.Common.{◌≡◌, ◌<◌, ◌≤◌, ℕ, zero, suc, ◌+◌, ◌*◌, ◌/◌, ◌%◌, Bool, List, [], ◌∷◌, length, get_or, map, replicate, None, refl, sym, ap, subst, ◌∙◌, arith}
use Rattle.std.proofs.Math.Nat.{div-add-mod}
use Rattle.std.proofs.lemmas.List.{ext_get_or, length-replicate}
use Rattle.page_pool.specs.Cells.{flat}
use Rattle.page_pool.specs.Pages.{IsBlank}
use Rattle.page_pool.proofs.Celled.{cell-holds, length-flat}
use Rattle.bio_core.specs.Bios.{block_size}
use Rattle.dix_adapter.specs.Ways.{blocks_told, cell_in, shapes_of, site_of}
use Rattle.fault_schedule.specs.declared.fault.FaultLine.{FaultLine}
use Rattle.rig_api.specs.Telling.{Standing, no_spec, specs_of}
use Rattle.rig_api.specs.Target.{Stored}
use Rattle.stack_core.specs.Passed.{AreAtUnits, Ground, IsSealed, pages_from, requests_from, io_at, op_in, shifted_by, Setting}
use Rattle.volume_table.specs.Faults.{device}
use Rattle.volume_table.specs.Places.{place_in}
use Rattle.script_run_laws.proofs.AtUnits.{lies-at-units}
use Rattle.rig_api.specs.declared.units.UnitSpec.{UnitSpec}
use Rattle.script_text.specs.Passed.{Op}
use Rattle.volume_table.specs.declared.device.DeviceInfo.{DeviceInfo}
use Rattle.volume_table.specs.Tables.{MadeFor, Table}
use Rattle.dix_adapter.specs.Passed.{target}
use Rattle.script_run_laws.specs.Passed.{fates, info_of}
use Rattle.script_text.specs.declared.script.Script.{Script}
use Rattle.script_text.specs.Bindings.{binding_fault}
use Rattle.script_run_laws.specs.Bound.{IsSettingOf}
use Rattle.script_run_laws.specs.SuitsStack.{SuitsStack}
use Rattle.script_run_laws.specs.Units.{all_blocks}
use Rattle.script_run_laws.proofs.Standing.{seals-whole, stands-on-ground}
use Rattle.script_run_laws.proofs.Units.{over-units}
use Rattle.stack_core.specs.declared.stack.Stack.{Stack}
use Rattle.stack_core.specs.NewStacks.{IsSetUp}
use Rattle.stack_core.specs.Walking.{IsOver, Opens, SizesFit, WalksAtFirst, WalksFallingAtFirst, WalksToldAtFirst}
use Rattle.script_stack.specs.Beginning.{setup_of}
use Rattle.script_stack.specs.Followed.{BeginsFalling, BeginsTold, BeginsWalks, SizesAre, begun_of, setting_of, unit_of}
use Rattle.script_stack.proofs.Runs.{own-infos}
use Rattle.script_stack.proofs.Ready.{sizes-of}

-- ---- pages of zeros

zero-there : (n i : ℕ) → get_or {A = ℕ} (replicate n 0) i 0 ≡ 0
zero-there zero i = refl
zero-there (suc n) zero = refl
zero-there (suc n) (suc i) = zero-there n i

pub blank-cells : (n : ℕ) (pool : List (List ℕ)) → IsBlank n pool → flat pool ≡ replicate (4096 * n) 0
blank-cells n pool b =
    let long : length (flat pool) ≡ length (replicate (4096 * n) 0) = length-flat pool b.whole ∙ (ap (λ k. 4096 * k) b.pages ∙ sym (length-replicate (4096 * n) 0)) in
    ext_get_or 0 (flat pool) (replicate (4096 * n) 0) long
    (λ i l. (let e = length-flat pool b.whole in
    let p = b.pages in
    let whole : 4096 * (i / 4096) + i % 4096 ≡ i = div-add-mod i 4096 in
    let low : i % 4096 < 4096 = omega arith in
    let page : i / 4096 < length pool = omega arith in
    ap (λ j. get_or (flat pool) j 0) (sym whole) ∙ (cell-holds pool (i / 4096) (i % 4096) b.whole page low ∙ (b.zeros (record { page = i / 4096; off = i % 4096 }) ∙ sym (zero-there (4096 * n) i)))))

none-there : (n c : ℕ) → get_or {A = List (List ℕ)} (replicate n []) c [] ≡ []
none-there zero c = refl
none-there (suc n) zero = refl
none-there (suc n) (suc c) = none-there n c

pub opens : (s : Script) (units : List UnitSpec) (blocks : List (List ℕ)) (r : Stack) → IsBlank (pages_from s.mode.dix s.pages s.ops) r.pool → Opens (begun_of s units blocks) r
opens s units blocks r b = record { bytes = sym (blank-cells (pages_from s.mode.dix s.pages s.ops) r.pool b); logs = none-there (all_blocks units) }

-- ---- the stack is over its script

module _ (s : Script) (t : Table) (units : List UnitSpec) (fails : ℕ → Bool) (blocks : List (List ℕ)) (suits : SuitsStack s) (lines : length s.lines ≡ length s.faults + length s.ops) (few : length (map info_of units) ≤ 8) (made : MadeFor t (map info_of units) s.block) (bound : binding_fault s t (map info_of units) ≡ None) where
  abbrev m : Setting
  m = setting_of s t units fails

  pub own_setting : IsSettingOf m s t (map info_of units) (all_blocks units)
  own_setting = over-units m s t units refl refl refl refl refl refl

  pub is_over : (r : Stack) → IsSetUp (setup_of s t) s.ops r → IsOver m (4096 * s.pages) (begun_of s units blocks) r.sheet r.adapter r.host
  is_over r h =
      let logs : length (begun_of s units blocks).logs ≡ all_blocks units = length-replicate (all_blocks units) [] in
      let ground = subst (λ k. Ground m (4096 * s.pages) k s.ops) (sym logs) (stands-on-ground m s t (map info_of units) (all_blocks units) suits lines made bound own_setting) in
      let long : length (begun_of s units blocks).fates ≡ fates s.ops = length-replicate (fates s.ops) None in
      let sizes = (sizes-of s t (map info_of units) suits lines few made bound).size in
      record {
        ground = subst (Ground m (4096 * s.pages) (length (begun_of s units blocks).logs)) (sym h.ops) ground;
        found = subst (λ ops. fates ops ≤ length (begun_of s units blocks).fates) (sym h.ops) (omega arith);
        pages = s.pages;
        bytes = refl;
        ios = h.ios ∙ ap (requests_from s.mode.dix s.pages) (sym h.ops);
        shifted = h.shifted ∙ ap (λ (ops : List Op). shifted_by s.faults (length ops)) (sym h.ops);
        mode = sym h.mode;
        ty = sym h.ty;
        host_is = h.host;
        size = subst (λ ios. (i : ℕ) → 0 < (io_at ios i).count → block_size (io_at ios i) ≡ s.block) (sym h.ios) sizes;
        entries = ap (λ (x : Table). x.entries) (sym h.table);
        faults = sym h.faults;
        seals = subst (λ ops. (i : ℕ) → i < length ops → IsSealed m (op_in ops i)) (sym h.ops) (seals-whole m s suits refl);
      }

-- ---- over any rig, and over one that tells its blocks

-- the devices of the volume have blocks of the script's size
fits-found : (s : Script) (t : Table) (devices : List DeviceInfo) (st : Standing) (fails : ℕ → Bool) → MadeFor t devices s.block → SizesAre devices st → SizesFit (setting_of s t (map unit_of devices) fails) st
fits-found s t devices st fails made sizes v l =
    let on = made.inside v l in
    sizes (place_in t.entries v).0 on.known ∙ on.size_is

pub begins-walks : (s : Script) (t : Table) (devices : List DeviceInfo) (r : Stack) → SuitsStack s → length s.lines ≡ length s.faults + length s.ops → length devices ≤ 8 → MadeFor t devices s.block → binding_fault s t devices ≡ None → IsSetUp (setup_of s t) s.ops r →
    IsBlank (pages_from s.mode.dix s.pages s.ops) r.pool → WalksAtFirst r → BeginsWalks s t devices r
begins-walks s t devices r suits lines few made bound is blank first fails blocks st log sizes =
    let units = map unit_of devices in
    let e = sym (own-infos devices) in
    first (setting_of s t units fails) (4096 * s.pages) (begun_of s units blocks) st log (opens s units blocks r blank)
    (is_over s t units fails blocks suits lines (subst (λ (ds : List DeviceInfo). length ds ≤ 8) e few) (subst (λ ds. MadeFor t ds s.block) e made) (subst (λ ds. binding_fault s t ds ≡ None) e bound) r is)
    (fits-found s t devices st fails made sizes)

info-size : (units : List UnitSpec) (d : ℕ) → d < length (map info_of units) → (get_or units d no_spec).size ≡ (device (map info_of units) d).size
info-size [] d l = absurd (omega arith)
info-size (u ∷ units) zero l = refl
info-size (u ∷ units) (suc d) l = info-size units d (omega arith)

-- what a stack of a script begins with over a rig that tells its blocks
record BeginsAt (s : Script) (t : Table) (fails : ℕ → Bool) (us : List Stored) (r : Stack) (st : Standing) : Type 0 where
  opens_so : Opens (begun_of s (shapes_of us) (blocks_told us)) r
  over : IsOver (setting_of s t (shapes_of us) fails) (4096 * s.pages) (begun_of s (shapes_of us) (blocks_told us)) r.sheet r.adapter r.host
  sizes : SizesFit (setting_of s t (shapes_of us) fails) st
  site : (setting_of s t (shapes_of us) fails).site ≡ site_of r.adapter (specs_of st)
  units : AreAtUnits (setting_of s t (shapes_of us) fails) (specs_of st) r.sheet.ops
  armed : s.faults ≡ r.adapter.tamper

module _ (s : Script) (t : Table) (devices : List DeviceInfo) (r : Stack) (suits : SuitsStack s) (lines : length s.lines ≡ length s.faults + length s.ops) (few : length devices ≤ 8) (made : MadeFor t devices s.block) (bound : binding_fault s t devices ≡ None) (is : IsSetUp (setup_of s t) s.ops r) (blank : IsBlank (pages_from s.mode.dix s.pages s.ops) r.pool) where
  begins-at : (fails : ℕ → Bool) (us : List Stored) (st : Standing) → devices ≡ map info_of (specs_of st) → shapes_of us ≡ specs_of st → BeginsAt s t fails us r st
  begins-at fails us st found shapes =
      let units = shapes_of us in
      let m = setting_of s t units fails in
      let e : devices ≡ map info_of units = found ∙ ap (map info_of) (sym shapes) in
      let few' = subst (λ (ds : List DeviceInfo). length ds ≤ 8) e few in
      let made' = subst (λ ds. MadeFor t ds s.block) e made in
      let bound' = subst (λ ds. binding_fault s t ds ≡ None) e bound in
      let own = own_setting s t units fails (blocks_told us) suits lines few' made' bound' in
      let sizes : SizesAre (map info_of units) st = λ d l. ap (λ us. (get_or us d no_spec).size) (sym shapes) ∙ info-size units d l in
      record {
        opens_so = opens s units (blocks_told us) r blank;
        over = is_over s t units fails (blocks_told us) suits lines few' made' bound' r is;
        sizes = λ v l. (let on = made'.inside v l in sizes (place_in t.entries v).0 on.known ∙ on.size_is);
        site = ap (λ (fs : List FaultLine). record { faults = fs; device = target fs; cell = cell_in units }) (sym is.faults) ∙ ap (site_of r.adapter) shapes;
        units = subst (λ us. AreAtUnits m us r.sheet.ops) shapes (subst (AreAtUnits m units) (sym is.ops) (lies-at-units m s t units (all_blocks units) own lines made' bound'));
        armed = sym is.faults;
      }

  pub begins-falling : WalksFallingAtFirst r → BeginsFalling s t devices r
  begins-falling first fails us st log found shapes =
      let b = begins-at fails us st found shapes in
      first (setting_of s t (shapes_of us) fails) (4096 * s.pages) (begun_of s (shapes_of us) (blocks_told us)) us s.faults st log b.opens_so b.over b.sizes b.site b.units b.armed refl

  pub begins-told : WalksToldAtFirst r → BeginsTold s t devices r
  begins-told first fails us st log found shapes =
      let b = begins-at fails us st found shapes in
      first (setting_of s t (shapes_of us) fails) (4096 * s.pages) (begun_of s (shapes_of us) (blocks_told us)) us s.faults st log b.opens_so b.over b.sizes b.site b.units b.armed refl
