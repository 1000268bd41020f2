-- Over a target whose blocks have the size of stored blocks, the ops of a bound script are bound.
use Rattle.std.proofs.Common.{◌≡◌, ◌<◌, ◌≤◌, ℕ, zero, suc, ◌+◌, ◌*◌, ◌-◌, true, eqb, List, [], ◌∷◌, length, drop, get_or, map, refl, sym, ap, ◌∙◌, subst, arith, Some, None}
use Rattle.std.proofs.lemmas.Bool.{eq-eqb}
use Rattle.std.proofs.lemmas.List.{length-drop}
use Rattle.pi_tuple.specs.declared.checks.PiType.{PiType}
use Rattle.fault_schedule.specs.Altered.{byte_at, shift_of}
use Rattle.fault_schedule.specs.declared.fault.Crossing.TheVariants.{AdapterToTarget, MediumToTarget, TargetToMedium}
use Rattle.fault_schedule.specs.declared.fault.FaultLine.{FaultLine}
use Rattle.fault_schedule.proofs.Xored.{length-xored}
use Rattle.rig_api.specs.Frames.{stored_size}
use Rattle.rig_api.specs.Target.{Stored, shape_of}
use Rattle.rig_api.specs.declared.units.UnitSpec.{UnitSpec}
use Rattle.rig_discovery.specs.Passed.{no_unit, unit_at, Change, Copy, Flip}
use Rattle.rig_discovery.specs.Discovery.{info_of}
use Rattle.stack_walk_laws.specs.Passed.{blocks_told, cell_in, shapes_of, State, Site, fetched_cell, moved, target, Mode}
use Rattle.stack_walk_laws.proofs.Passed.{cell-is, told-at}
use Rattle.volume_table.specs.declared.device.DeviceInfo.{DeviceInfo}
use Rattle.volume_table.specs.declared.entry.Entry.{Entry}
use Rattle.volume_table.specs.Faults.{device}
use Rattle.volume_table.specs.Places.{place_in, volume_len}
use Rattle.volume_table.specs.Tables.{IsOn, MadeFor, Table}
use Rattle.run_laws.specs.Passed.{changed, source_of, Block, Setting, block_of, route, Op, Fetch, FetchPi, Fill, Overwrite, Put, Seal, Show, Wait, Write, WritePi}
use Rattle.run_laws.specs.BoundRun.{AllBound, AllSuit, IsBoundRun, Suits, fates, rooms}
use Rattle.run_laws.specs.Suited.{IsAtTarget, keeps_size}
use Rattle.stack_walk_laws.specs.Spots.{op_in as op_at}
use Rattle.script_laws.specs.Passed.{Script, binding_fault, op_fault, request_of}
use Rattle.script_run_laws.specs.Bound.{IsSettingOf}
use Rattle.script_run_laws.specs.SuitsStack.{SuitsStack}
use Rattle.script_run_laws.specs.Units.{AreStored}
use Rattle.script_run_laws.proofs.Addresses.{AreLed, all-led, good-change}
use Rattle.script_run_laws.proofs.BoundRuns.{OpSuits, bound-all, suits-all}
use Rattle.script_run_laws.proofs.Ops.{at-least-one, in-range, no-fault}
use Rattle.script_run_laws.proofs.Shifts.{fetched-at, stored-at}
use Rattle.script_run_laws.proofs.Spreads.{asked-by}
use Rattle.script_run_laws.proofs.Standing.{bound}

-- ---- what lies at an address of a unit

pub known-in : (us : List Stored) (dev : ℕ) → dev < length (map info_of (shapes_of us)) → dev < length us
known-in [] dev l = absurd (omega arith)
known-in (u ∷ us) zero l = omega arith
known-in (u ∷ us) (suc dev) l = let k = known-in us dev (omega arith) in omega arith

pub device-is : (us : List Stored) (dev : ℕ) → dev < length us → device (map info_of (shapes_of us)) dev ≡ info_of (shape_of (unit_at us dev))
device-is [] dev l = absurd (omega arith)
device-is (u ∷ us) zero l = refl
device-is (u ∷ us) (suc dev) l = device-is us dev (omega arith)

pub told-long : (us : List Stored) (ty : PiType) (size dev lba : ℕ) → AreStored us → IsOn (map info_of (shapes_of us)) ty size dev lba 1 → length (get_or (blocks_told us) (cell_in (shapes_of us) dev lba) []) ≡ stored_size ty size
told-long us ty size dev lba stored h =
    let l = known-in us dev h.known in
    let d = device-is us dev l in
    let u = unit_at us dev in
    let i = lba - u.first in
    let low : u.first ≤ lba = subst (λ (x : DeviceInfo). x.first ≤ lba) d h.begins in
    let high : lba + 1 ≤ u.first + length u.blocks = subst (λ (x : DeviceInfo). lba + 1 ≤ x.first + x.blocks) d h.ends in
    let inside : i < length u.blocks = omega arith in
    let ty_is : u.ty ≡ ty = ap (λ (x : DeviceInfo). x.ty) (sym d) ∙ h.type_is in
    let size_is : u.size ≡ size = ap (λ (x : DeviceInfo). x.size) (sym d) ∙ h.size_is in
    ap (λ c. length (get_or (blocks_told us) c [])) (cell-is us dev lba l) ∙ ap length (told-at us dev i l inside) ∙ stored dev no_unit l i [] inside ∙ ap (λ (x : PiType). stored_size x u.size) ty_is ∙ ap (stored_size ty) size_is

-- ---- a change

-- Where the block that is copied is as long as the one that it replaces, what is left is as long too.
change-fits : (blocks : List (List ℕ)) (site : Site) (dev lba : ℕ) (change : Change) → ((from at : ℕ) → change ≡ Copy from at → length (get_or blocks (site.cell from at) []) ≡ length (get_or blocks (site.cell dev lba) [])) →
    (block : List ℕ) → keeps_size blocks (source_of site dev lba change) block ≡ true → keeps_size blocks (site.cell dev lba) (changed change block) ≡ true
change-fits blocks site dev lba (Flip off bytes) same block h = subst (λ (n : ℕ). eqb n (length (get_or blocks (site.cell dev lba) [])) ≡ true) (sym (length-xored (byte_at off bytes) 0 block)) h
change-fits blocks site dev lba (Copy from at) same block h = subst (λ (n : ℕ). eqb (length block) n ≡ true) (same from at refl) h

-- ---- ops

-- what lies at each address of a device of the volume's type and block size has the size of a stored block
abbrev pub AreLong : Setting → PiType → (size : ℕ) → List DeviceInfo → List (List ℕ) → Type 0
AreLong m ty size devices blocks = (dev lba : ℕ) → IsOn devices ty size dev lba 1 → length (get_or blocks (m.site.cell dev lba) []) ≡ stored_size m.ty m.size

op-suits : (m : Setting) (t : Table) (devices : List DeviceInfo) (size : ℕ) (blocks : List (List ℕ)) (i : ℕ) (op : Op) → AreLong m t.ty size devices blocks → op_fault t devices size op ≡ None → ((v n : ℕ) → request_of op ≡ Some (v, n) → v + n ≤ volume_len t.entries → AllSuit m (keeps_size blocks) i v n) → OpSuits m (keeps_size blocks) i op
op-suits m t devices size blocks i (Fill seg byte) long h suit = tt
op-suits m t devices size blocks i (Put page off bytes) long h suit = tt
op-suits m t devices size blocks i (Show seg) long h suit = tt
op-suits m t devices size blocks i (Seal n body tuples app rtag) long h suit = tt
op-suits m t devices size blocks i (Write v n body app) long h suit = suit v n refl (in-range t v n h)
op-suits m t devices size blocks i (Fetch v n body) long h suit = suit v n refl (in-range t v n h)
op-suits m t devices size blocks i (WritePi v n body tuples) long h suit = suit v n refl (in-range t v n h)
op-suits m t devices size blocks i (FetchPi v n body tuples) long h suit = suit v n refl (in-range t v n h)
op-suits m t devices size blocks i (Overwrite dev lba change) long h suit =
    let c = good-change t devices size dev lba change h in
    change-fits blocks m.site dev lba change (λ from at e. long from at (c.copied from at e) ∙ sym (long dev lba c.to))
op-suits m t devices size blocks i Wait long h suit = tt

-- ---- blocks

-- What a target does to a block, as a law of a crate below says.
abbrev pub TargetSuits : Type 0
TargetSuits = (m : Setting) (opening : List (List ℕ)) (b : Block) → IsAtTarget m opening b → Suits m (keeps_size opening) b

module _ (law : TargetSuits) (m : Setting) (s : Script) (t : Table) (devices : List DeviceInfo) (logs : ℕ) (blocks : List (List ℕ)) (is : IsSettingOf m s t devices logs) (at : m.site.device ≡ target m.site.faults) (long : AreLong m t.ty s.block devices blocks) (k : SuitsStack s) where
  block-suits : (i v n : ℕ) → AreLed t devices s i v n → AllSuit m (keeps_size blocks) i v n
  block-suits i v n a j l =
      let place = place_in t.entries (v + j) in
      let wire = moved place.1 (shift_of s.faults AdapterToTarget i) in
      let least : 0 < s.mode.protect = at-least-one s.mode.protect k.protect_is.range.low_is in
      law m blocks (block_of i v j) (record {
        device = at;
        protect = subst (λ (x : Mode). 0 < x.protect) (sym is.mode) least;
        stored = ap (λ c. length (get_or blocks c [])) (stored-at m s t i v is.entries is.faults j) ∙ long place.0 (moved wire (shift_of s.faults TargetToMedium i)) (a.stored j l).on;
        fetched = ap (λ c. length (get_or blocks c [])) (fetched-at m s t i v is.entries is.faults j) ∙ long place.0 (moved wire (shift_of s.faults MediumToTarget i)) (a.medium j l).on;
      })

  all-bound : length s.lines ≡ length s.faults + length s.ops → MadeFor t devices s.block → binding_fault s t devices ≡ None → AllBound m (keeps_size blocks) (4096 * s.pages) 1 s.ops
  all-bound n made h =
      let b = bound s t devices h in
      let lines = length-drop (length s.faults) s.lines in
      let many : length s.ops ≤ length (drop (length s.faults) s.lines) = omega arith in
      let few : length s.faults ≤ length s.lines = omega arith in
      let suits : (j : ℕ) → j < length s.ops → OpSuits m (keeps_size blocks) (suc j) (op_at s.ops j)
      = λ j l. op-suits m t devices s.block blocks (suc j) (op_at s.ops j) long (no-fault t devices s.block s.ops (drop (length s.faults) s.lines) j many b.ops l)
      (λ v c e w. block-suits (suc j) v c (all-led s t devices made few b.faults (suc j) v c (asked-by s.ops j l ∙ e) w)) in
      bound-all m (keeps_size blocks) s.mode.dix s.pages s.block 1 s.ops is.size (ap (λ (x : Mode). x.dix) is.mode) k.ops_are (suits-all m (keeps_size blocks) s.ops suits)

-- ---- over units

-- what is behind the adapter: a target with the script's faults armed, whose units' blocks have cells one after another
abbrev pub behind : Script → List UnitSpec → Site
behind s units = record { faults = s.faults; device = target s.faults; cell = cell_in units }

pub long-told : (m : Setting) (s : Script) (t : Table) (us : List Stored) (logs : ℕ) (opening : State) → AreStored us → opening.blocks ≡ blocks_told us → IsSettingOf m s t (map info_of (shapes_of us)) logs → m.site ≡ behind s (shapes_of us) → AreLong m t.ty s.block (map info_of (shapes_of us)) opening.blocks
long-told m s t us logs opening stored e is site = λ dev lba on.
    (ap (λ (x : Site). length (get_or opening.blocks (x.cell dev lba) [])) site ∙ ap (λ (bs : List (List ℕ)). length (get_or bs (cell_in (shapes_of us) dev lba) [])) e ∙ told-long us t.ty s.block dev lba stored on
    ∙ ap (λ (x : PiType). stored_size x s.block) (sym is.ty) ∙ ap (stored_size m.ty) (sym is.size))

over-stored : TargetSuits → (m : Setting) (s : Script) (t : Table) (us : List Stored) (logs : ℕ) (opening : State) → SuitsStack s → length s.lines ≡ length s.faults + length s.ops → AreStored us → opening.blocks ≡ blocks_told us → 4096 * s.pages + rooms m s.ops ≤ length opening.bytes → fates s.ops ≤ length opening.fates
    → MadeFor t (map info_of (shapes_of us)) s.block → binding_fault s t (map info_of (shapes_of us)) ≡ None → IsSettingOf m s t (map info_of (shapes_of us)) logs → m.site ≡ behind s (shapes_of us) → IsBoundRun m (keeps_size opening.blocks) (4096 * s.pages) s.ops opening
over-stored law m s t us logs opening k n stored e room found made h is site =
    let at : m.site.device ≡ target m.site.faults = ap (λ (x : Site). x.device) site ∙ ap (λ (x : Site). target x.faults) (sym site) in
    let long = long-told m s t us logs opening stored e is site in
    record {
      bound = all-bound law m s t (map info_of (shapes_of us)) logs opening.blocks is at long k n made h;
      room = room;
      found = found;
      all_fine = λ c. eq-eqb (length (get_or opening.blocks c [])) (length (get_or opening.blocks c [])) refl;
    }

pub over-units : TargetSuits → (m : Setting) (s : Script) (t : Table) (units : List UnitSpec) (us : List Stored) (logs : ℕ) (opening : State) → SuitsStack s → length s.lines ≡ length s.faults + length s.ops → MadeFor t (map info_of units) s.block → binding_fault s t (map info_of units) ≡ None → IsSettingOf m s t (map info_of units) logs → m.site ≡ behind s units
    → shapes_of us ≡ units → AreStored us → opening.blocks ≡ blocks_told us → 4096 * s.pages + rooms m s.ops ≤ length opening.bytes → fates s.ops ≤ length opening.fates → IsBoundRun m (keeps_size opening.blocks) (4096 * s.pages) s.ops opening
over-units law m s t units us logs opening k n made h is site e stored b room found =
    subst
    (λ (x : List UnitSpec). MadeFor t (map info_of x) s.block → binding_fault s t (map info_of x) ≡ None → IsSettingOf m s t (map info_of x) logs → m.site ≡ behind s x → IsBoundRun m (keeps_size opening.blocks) (4096 * s.pages) s.ops opening)
    e (over-stored law m s t us logs opening k n stored b room found) made h is site
