-- Addresses of devices that have the volume's type and block size: of each block of a request, where the op's shifts lead it, and of an overwrite.
use Rattle.std.proofs.Common.{◌≡◌, ◌<◌, ◌≤◌, ◌⊎◌, inl, inr, ℕ, ◌+◌, true, false, not, ◌&&◌, ◌||◌, List, [], length, refl, sym, ap, ◌∙◌, subst, arith, ℤ, pos, Option, Some, None}
use Rattle.std.specs.Prelude.{nat_le, nat_lt, eqb, slice_get}
use Rattle.std.proofs.lemmas.Bool.{and_parts, eqb-true, leb-true, ltb-true, or_parts, not-false}
use Rattle.pi_tuple.specs.declared.checks.PiType.{PiType}
use Rattle.pi_tuple.specs.declared.checks.PiType.TheVariants.{Zero as TypeZero, One as TypeOne, Two as TypeTwo, Three as TypeThree}
use Rattle.fault_schedule.specs.Altered.{is_same, shift_of}
use Rattle.fault_schedule.specs.declared.fault.Crossing.{Crossing}
use Rattle.fault_schedule.specs.declared.fault.Crossing.TheVariants.{AdapterToTarget, MediumToTarget, TargetToMedium}
use Rattle.stack_walk_laws.specs.Passed.{moved}
use Rattle.rig_discovery.specs.Passed.{Change, Copy}
use Rattle.run_laws.specs.Passed.{Overwrite}
use Rattle.volume_table.specs.declared.device.DeviceInfo.{DeviceInfo}
use Rattle.volume_table.specs.Places.{place_in, volume_len}
use Rattle.volume_table.specs.Tables.{IsOn, MadeFor, Table}
use Rattle.script_laws.specs.Passed.{Script, faults_fault, is_alterable, is_bad_change, is_on, is_type, op_fault, request_at, BadFault}
use Rattle.script_run_laws.proofs.Bodies.{if-none}
use Rattle.script_run_laws.proofs.Shifts.{IsClear, Lands, Stays, got, landed, one-shift, shift-stays, stays-put}

-- ---- of a block of a request

-- The address, so many blocks off, is one of a device of this type and block size.
pub record IsLed (devices : List DeviceInfo) (ty : PiType) (size dev lba : ℕ) (by : ℤ) : Type 0 where
  pub on : IsOn devices ty size dev (moved lba by) 1
  pub clear : IsClear lba by

led : (devices : List DeviceInfo) (ty : PiType) (size dev lba : ℕ) (by : ℤ) → IsOn devices ty size dev lba 1 → Lands devices dev lba by → IsLed devices ty size dev lba by
led devices ty size dev lba by h l =
    let ends = l.there.ends in
    record { on = record { known = h.known; begins = l.there.begins; ends = omega arith; type_is = h.type_is; size_is = h.size_is }; clear = l.clear }

led-nowhere : (devices : List DeviceInfo) (ty : PiType) (size dev lba : ℕ) → IsOn devices ty size dev lba 1 → IsLed devices ty size dev lba (pos 0)
led-nowhere devices ty size dev lba h = record { on = subst (λ (a : ℕ). IsOn devices ty size dev a 1) (stays-put lba) h; clear = tt }

-- two shifts one after the other, of which one is none
led-twice : (devices : List DeviceInfo) (ty : PiType) (size dev lba : ℕ) (a b : ℤ) → (a ≡ pos 0) ⊎ (b ≡ pos 0) → IsLed devices ty size dev lba a → IsLed devices ty size dev lba b → IsLed devices ty size dev (moved lba a) b
led-twice devices ty size dev lba a b c x y =
    elim c [
      | inl e ↦ subst (λ (p : ℕ). IsLed devices ty size dev p b) (stays-put lba ∙ ap (moved lba) (sym e)) y
      | inr e ↦ subst (λ (z : ℤ). IsLed devices ty size dev (moved lba a) z) (sym e) (led-nowhere devices ty size dev (moved lba a) x.on)
    ]

-- where the shifts of op i lead the blocks of its request: the command on the wire, and from there on the medium, for a read and for a write
pub record AreLed (t : Table) (devices : List DeviceInfo) (s : Script) (i v n : ℕ) : Type 0 where
  pub wire : (j : ℕ) → j < n → IsLed devices t.ty s.block (place_in t.entries (v + j)).0 (place_in t.entries (v + j)).1 (shift_of s.faults AdapterToTarget i)
  pub medium : (j : ℕ) → j < n → IsLed devices t.ty s.block (place_in t.entries (v + j)).0 (moved (place_in t.entries (v + j)).1 (shift_of s.faults AdapterToTarget i)) (shift_of s.faults MediumToTarget i)
  pub stored : (j : ℕ) → j < n → IsLed devices t.ty s.block (place_in t.entries (v + j)).0 (moved (place_in t.entries (v + j)).1 (shift_of s.faults AdapterToTarget i)) (shift_of s.faults TargetToMedium i)

led-block : (t : Table) (devices : List DeviceInfo) (size v n : ℕ) (by : ℤ) → MadeFor t devices size → Stays t devices v n by → v + n ≤ volume_len t.entries → (j : ℕ) → j < n → IsLed devices t.ty size (place_in t.entries (v + j)).0 (place_in t.entries (v + j)).1 by
led-block t devices size v n by made c w j l =
    led devices t.ty size (place_in t.entries (v + j)).0 (place_in t.entries (v + j)).1 by (made.inside (v + j) (omega arith)) (landed t devices size v n by made c w j l)

pub all-led : (s : Script) (t : Table) (devices : List DeviceInfo) → MadeFor t devices s.block → length s.faults ≤ length s.lines → faults_fault t devices s.block s.ops [] s.faults s.lines ≡ None → (i v n : ℕ) → request_at s.ops i ≡ Some (v, n) → v + n ≤ volume_len t.entries → AreLed t devices s i v n
all-led s t devices made few good i v n r w =
    let stays = λ (at : Crossing). shift-stays t devices s.block s.ops i v n r at [] s.faults s.lines few good in
    let a = shift_of s.faults AdapterToTarget i in
    let on = λ (at : Crossing). led-block t devices s.block v n (shift_of s.faults at i) made (stays at) w in
    let one = λ (at : Crossing) (far : is_same AdapterToTarget at ≡ false). one-shift t devices s.block s.ops i v n r at far [] s.faults s.lines few good in
    let twice = λ (at : Crossing) (far : is_same AdapterToTarget at ≡ false) (j : ℕ) (l : j < n).
    led-twice devices t.ty s.block (place_in t.entries (v + j)).0 (place_in t.entries (v + j)).1 a (shift_of s.faults at i) (one at far) (on AdapterToTarget j l) (on at j l) in
    record { wire = on AdapterToTarget; medium = twice MediumToTarget refl; stored = twice TargetToMedium refl }

-- ---- of an overwrite

pub same-type : (a b : PiType) → is_type a b ≡ true → a ≡ b
same-type TypeZero TypeZero h = refl
same-type TypeZero TypeOne h = absurd cc
same-type TypeZero TypeTwo h = absurd cc
same-type TypeZero TypeThree h = absurd cc
same-type TypeOne TypeZero h = absurd cc
same-type TypeOne TypeOne h = refl
same-type TypeOne TypeTwo h = absurd cc
same-type TypeOne TypeThree h = absurd cc
same-type TypeTwo TypeZero h = absurd cc
same-type TypeTwo TypeOne h = absurd cc
same-type TypeTwo TypeTwo h = refl
same-type TypeTwo TypeThree h = absurd cc
same-type TypeThree TypeZero h = absurd cc
same-type TypeThree TypeOne h = absurd cc
same-type TypeThree TypeTwo h = absurd cc
same-type TypeThree TypeThree h = refl

alterable : (devices : List DeviceInfo) (ty : PiType) (size dev lba : ℕ) → is_alterable ty size lba (slice_get devices dev) ≡ true → IsOn devices ty size dev lba 1
alterable devices ty size dev lba h = known (slice_get devices dev) refl h
  where
    known : (o : Option DeviceInfo) → slice_get devices dev ≡ o → is_alterable ty size lba o ≡ true → IsOn devices ty size dev lba 1
    known None e k = absurd cc
    known (Some d) e k =
        let g = got devices dev d e in
        let same = sym g.1 in
        let a = and_parts (is_type d.ty ty) (eqb d.size size && is_on d lba (pos 0)) k in
        let b = and_parts (eqb d.size size) (is_on d lba (pos 0)) a.1 in
        let c = and_parts (nat_le d.first (lba + 0)) (nat_lt (lba + 0) (d.first + d.blocks)) b.1 in
        let low = leb-true d.first (lba + 0) c.0 in
        let high = ltb-true (lba + 0) (d.first + d.blocks) c.1 in
        record {
          known = g.0;
          begins = subst (λ (x : DeviceInfo). x.first ≤ lba) same (omega arith);
          ends = subst (λ (x : DeviceInfo). lba + 1 ≤ x.first + x.blocks) same (omega arith);
          type_is = ap (λ (x : DeviceInfo). x.ty) g.1 ∙ same-type d.ty ty a.0;
          size_is = ap (λ (x : DeviceInfo). x.size) g.1 ∙ eqb-true d.size size b.0;
        }

-- what is changed is there, and what is copied too
pub record IsChange (devices : List DeviceInfo) (ty : PiType) (size dev lba : ℕ) (change : Change) : Type 0 where
  pub to : IsOn devices ty size dev lba 1
  pub copied : (from at : ℕ) → change ≡ Copy from at → IsOn devices ty size from at 1

copied-from : (t : Table) (devices : List DeviceInfo) (size : ℕ) (change : Change) → is_bad_change t devices size change ≡ false → (from at : ℕ) → change ≡ Copy from at → IsOn devices t.ty size from at 1
copied-from t devices size change h from at e =
    let k = subst (λ (c : Change). is_bad_change t devices size c ≡ false) e h in
    alterable devices t.ty size from at (not-false (is_alterable t.ty size at (slice_get devices from)) k)

pub good-change : (t : Table) (devices : List DeviceInfo) (size dev lba : ℕ) (change : Change) → op_fault t devices size (Overwrite dev lba change) ≡ None → IsChange devices t.ty size dev lba change
good-change t devices size dev lba change h =
    let a = if-none (is_bad_change t devices size change || not (is_alterable t.ty size lba (slice_get devices dev))) BadFault None h in
    let b = or_parts (is_bad_change t devices size change) (not (is_alterable t.ty size lba (slice_get devices dev))) a.0 in
    record { to = alterable devices t.ty size dev lba (not-false (is_alterable t.ty size lba (slice_get devices dev)) b.1); copied = copied-from t devices size change b.0 }
