-- Each block of a request of a bound script lies in the unit of its device, also where a shift leads it.
use Rattle.std.proofs.Common.{◌≡◌, ◌<◌, ◌≤◌, ℕ, zero, suc, ◌+◌, true, List, [], ◌∷◌, length, drop, get_or, map, refl, sym, ap, ◌∙◌, subst, arith, ℤ, pos, ◌+ℤ◌, Some, None}
use Rattle.std.specs.Prelude.{leb}
use Rattle.std.proofs.lemmas.Bool.{and_from, le-leb}
use Rattle.std.proofs.lemmas.List.{length-drop}
use Rattle.pi_tuple.specs.declared.checks.PiType.{PiType}
use Rattle.fault_schedule.specs.Altered.{shift_of}
use Rattle.fault_schedule.specs.declared.fault.Crossing.{Crossing}
use Rattle.fault_schedule.specs.declared.fault.Crossing.TheVariants.{AdapterToTarget, MediumToTarget, TargetToMedium}
use Rattle.fault_schedule.specs.declared.fault.FaultLine.{FaultLine}
use Rattle.rig_api.specs.Target.{has_blocks}
use Rattle.rig_api.specs.declared.units.UnitSpec.{UnitSpec}
use Rattle.rig_discovery.specs.Passed.{no_spec}
use Rattle.rig_discovery.specs.Discovery.{info_of}
use Rattle.stack_walk_laws.specs.Passed.{moved}
use Rattle.volume_table.specs.declared.device.DeviceInfo.{DeviceInfo}
use Rattle.volume_table.specs.declared.entry.Entry.{Entry}
use Rattle.volume_table.specs.Faults.{device}
use Rattle.volume_table.specs.Places.{place_in, volume_len}
use Rattle.volume_table.specs.Tables.{IsOn, MadeFor, Table}
use Rattle.run_laws.specs.Passed.{Setting, Op, Fetch, FetchPi, Fill, Overwrite, Put, Seal, Show, Wait, Write, WritePi, first_virt}
use Rattle.run_laws.specs.ScriptMoves.{fates_of}
use Rattle.stack_walk_laws.specs.Spots.{op_in as op_at}
use Rattle.stack_walk_laws.specs.Units.{AreAtUnits, IsAtUnit}
use Rattle.script_laws.specs.Passed.{Script, binding_fault, op_fault, request_of}
use Rattle.script_run_laws.specs.Bound.{IsSettingOf}
use Rattle.script_run_laws.proofs.Addresses.{AreLed, IsLed, all-led}
use Rattle.script_run_laws.proofs.Ops.{in-range, no-fault}
use Rattle.script_run_laws.proofs.Shifts.{clear-is}
use Rattle.script_run_laws.proofs.Spreads.{asked-by}
use Rattle.script_run_laws.proofs.Standing.{bound}

-- ---- an address of a device, in its unit

unit-is : (us : List UnitSpec) (dev : ℕ) → dev < length (map info_of us) → device (map info_of us) dev ≡ info_of (get_or us dev no_spec)
unit-is [] dev l = absurd (omega arith)
unit-is (u ∷ us) zero l = refl
unit-is (u ∷ us) (suc dev) l = unit-is us dev (omega arith)

has-one : (u : UnitSpec) (lba : ℕ) → u.first ≤ lba → lba + 1 ≤ u.first + u.blocks → has_blocks u (pos lba) 1 ≡ true
has-one u lba low high = and_from (leb u.first lba) (leb (lba + 1) (u.first + u.blocks)) (le-leb u.first lba low) (le-leb (lba + 1) (u.first + u.blocks) high)

at-unit : (m : Setting) (us : List UnitSpec) (ty : PiType) (size dev lba : ℕ) → m.ty ≡ ty → m.size ≡ size → IsOn (map info_of us) ty size dev lba 1 → IsAtUnit m us dev (pos lba)
at-unit m us ty size dev lba t z h =
    let d = unit-is us dev h.known in
    record {
      ty = ap (λ (x : DeviceInfo). x.ty) (sym d) ∙ h.type_is ∙ sym t;
      size = ap (λ (x : DeviceInfo). x.size) (sym d) ∙ h.size_is ∙ sym z;
      there = has-one (get_or us dev no_spec) lba (subst (λ (x : DeviceInfo). x.first ≤ lba) d h.begins) (subst (λ (x : DeviceInfo). lba + 1 ≤ x.first + x.blocks) d h.ends);
    }

once-led : (m : Setting) (us : List UnitSpec) (ty : PiType) (size dev lba : ℕ) (a : ℤ) → m.ty ≡ ty → m.size ≡ size → IsLed (map info_of us) ty size dev lba a → IsAtUnit m us dev (pos lba +ℤ a)
once-led m us ty size dev lba a t z h = subst (λ (x : ℤ). IsAtUnit m us dev x) (sym (clear-is lba a h.clear)) (at-unit m us ty size dev (moved lba a) t z h.on)

twice-led : (m : Setting) (us : List UnitSpec) (ty : PiType) (size dev lba : ℕ) (a b : ℤ) → m.ty ≡ ty → m.size ≡ size → IsLed (map info_of us) ty size dev lba a → IsLed (map info_of us) ty size dev (moved lba a) b → IsAtUnit m us dev ((pos lba +ℤ a) +ℤ b)
twice-led m us ty size dev lba a b t z h k = subst (λ (x : ℤ). IsAtUnit m us dev (x +ℤ b)) (sym (clear-is lba a h.clear)) (once-led m us ty size dev (moved lba a) b t z k)

-- ---- a request

pub asks : (op : Op) → 0 < fates_of op → request_of op ≡ Some (first_virt op, fates_of op)
asks (Fill seg byte) l = absurd (omega arith)
asks (Put page off bytes) l = absurd (omega arith)
asks (Show seg) l = absurd (omega arith)
asks (Seal n body tuples app rtag) l = absurd (omega arith)
asks (Write v n body app) l = refl
asks (Fetch v n body) l = refl
asks (WritePi v n body tuples) l = refl
asks (FetchPi v n body tuples) l = refl
asks (Overwrite dev lba change) l = absurd (omega arith)
asks Wait l = absurd (omega arith)

in-volume : (t : Table) (devices : List DeviceInfo) (size : ℕ) (op : Op) → 0 < fates_of op → op_fault t devices size op ≡ None → first_virt op + fates_of op ≤ volume_len t.entries
in-volume t devices size (Fill seg byte) l h = absurd (omega arith)
in-volume t devices size (Put page off bytes) l h = absurd (omega arith)
in-volume t devices size (Show seg) l h = absurd (omega arith)
in-volume t devices size (Seal n body tuples app rtag) l h = absurd (omega arith)
in-volume t devices size (Write v n body app) l h = in-range t v n h
in-volume t devices size (Fetch v n body) l h = in-range t v n h
in-volume t devices size (WritePi v n body tuples) l h = in-range t v n h
in-volume t devices size (FetchPi v n body tuples) l h = in-range t v n h
in-volume t devices size (Overwrite dev lba change) l h = absurd (omega arith)
in-volume t devices size Wait l h = absurd (omega arith)

module _ (m : Setting) (s : Script) (t : Table) (units : List UnitSpec) (logs : ℕ) (is : IsSettingOf m s t (map info_of units) logs) where
  -- by the setting's own entries and faults
  sent-of : (i v k : ℕ) → IsAtUnit m units (place_in t.entries (v + k)).0 (pos (place_in t.entries (v + k)).1 +ℤ shift_of s.faults AdapterToTarget i) →
      IsAtUnit m units (place_in m.entries (v + k)).0 (pos (place_in m.entries (v + k)).1 +ℤ shift_of m.site.faults AdapterToTarget i)
  sent-of i v k h =
      subst (λ (es : List Entry). IsAtUnit m units (place_in es (v + k)).0 (pos (place_in es (v + k)).1 +ℤ shift_of m.site.faults AdapterToTarget i)) (sym is.entries)
      (subst (λ (fs : List FaultLine). IsAtUnit m units (place_in t.entries (v + k)).0 (pos (place_in t.entries (v + k)).1 +ℤ shift_of fs AdapterToTarget i)) (sym is.faults) h)

  on-medium-of : (at : Crossing) (i v k : ℕ) → IsAtUnit m units (place_in t.entries (v + k)).0 ((pos (place_in t.entries (v + k)).1 +ℤ shift_of s.faults AdapterToTarget i) +ℤ shift_of s.faults at i) →
      IsAtUnit m units (place_in m.entries (v + k)).0 ((pos (place_in m.entries (v + k)).1 +ℤ shift_of m.site.faults AdapterToTarget i) +ℤ shift_of m.site.faults at i)
  on-medium-of at i v k h =
      subst (λ (es : List Entry). IsAtUnit m units (place_in es (v + k)).0 ((pos (place_in es (v + k)).1 +ℤ shift_of m.site.faults AdapterToTarget i) +ℤ shift_of m.site.faults at i)) (sym is.entries)
      (subst (λ (fs : List FaultLine). IsAtUnit m units (place_in t.entries (v + k)).0 ((pos (place_in t.entries (v + k)).1 +ℤ shift_of fs AdapterToTarget i) +ℤ shift_of fs at i)) (sym is.faults) h)

  pub lies-at-units : length s.lines ≡ length s.faults + length s.ops → MadeFor t (map info_of units) s.block → binding_fault s t (map info_of units) ≡ None → AreAtUnits m units s.ops
  lies-at-units n made h =
      let b = bound s t (map info_of units) h in
      let lines = length-drop (length s.faults) s.lines in
      let long : length s.ops ≤ length (drop (length s.faults) s.lines) = omega arith in
      let few : length s.faults ≤ length s.lines = omega arith in
      let led : (i : ℕ) → i < length s.ops → 0 < fates_of (op_at s.ops i) → AreLed t (map info_of units) s (suc i) (first_virt (op_at s.ops i)) (fates_of (op_at s.ops i))
      = λ i l some. all-led s t (map info_of units) made few b.faults (suc i) (first_virt (op_at s.ops i)) (fates_of (op_at s.ops i)) (asked-by s.ops i l ∙ asks (op_at s.ops i) some)
      (in-volume t (map info_of units) s.block (op_at s.ops i) some (no-fault t (map info_of units) s.block s.ops (drop (length s.faults) s.lines) i long b.ops l)) in
      record {
        sent = λ i k l j.
            let v = first_virt (op_at s.ops i) in
            let a = led i l (omega arith) in
            sent-of (suc i) v k (once-led m units t.ty s.block (place_in t.entries (v + k)).0 (place_in t.entries (v + k)).1 (shift_of s.faults AdapterToTarget (suc i)) is.ty is.size (a.wire k j));
        fetched = λ i k l j.
            let v = first_virt (op_at s.ops i) in
            let a = led i l (omega arith) in
            on-medium-of MediumToTarget (suc i) v k (twice-led m units t.ty s.block (place_in t.entries (v + k)).0 (place_in t.entries (v + k)).1 (shift_of s.faults AdapterToTarget (suc i)) (shift_of s.faults MediumToTarget (suc i)) is.ty is.size (a.wire k j) (a.medium k j));
        stored = λ i k l j.
            let v = first_virt (op_at s.ops i) in
            let a = led i l (omega arith) in
            on-medium-of TargetToMedium (suc i) v k (twice-led m units t.ty s.block (place_in t.entries (v + k)).0 (place_in t.entries (v + k)).1 (shift_of s.faults AdapterToTarget (suc i)) (shift_of s.faults TargetToMedium (suc i)) is.ty is.size (a.wire k j) (a.stored k j));
      }
