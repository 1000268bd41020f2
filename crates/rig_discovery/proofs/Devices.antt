-- The devices that a rig told.
use Rattle.std.proofs.Common.{ℕ, suc, ◌≡◌, ◌+◌, ◌≤◌, Bool, true, false, leb, ◌&&◌, List, [], ◌∷◌, length, drop, Option, Some, None, refl, sym, ap, ◌∙◌, arith}
use Rattle.std.specs.Prelude.{is_some, map}
use Rattle.std.proofs.lemmas.Bool.{leb-true}
use Rattle.rig_api.specs.Headers.{bytes_of}
use Rattle.rig_api.specs.Image.{unit_from, units_from, units_in}
use Rattle.rig_api.specs.Target.{Stored}
use Rattle.rig_api.specs.declared.units.UnitSpec.{UnitSpec}
use Rattle.rig_api.specs.Head.{Head, head_fault, units_of}
use Rattle.rig_api.specs.Log.{LogEntry}
use Rattle.rig_api.specs.Telling.{Standing, specs_of, units_told}
use Rattle.rig_api.proofs.HeadLaws.{right_layout}
use Rattle.volume_table.specs.declared.device.DeviceInfo.{DeviceInfo}
use Rattle.rig_discovery.specs.Discovery.{LookAnswer, Ends, HasFound, all_told, info_of, told, with_info}
use Rattle.rig_discovery.proofs.Telling.{shape_is}
use Rattle.rig_discovery.specs.Openings.{HasDevices, device_of}

pub second_true : (a b c : Bool) → (a && (b && c)) ≡ true → b ≡ true
second_true a b c h = grind arith

-- a right head tells at most eight units
pub few_units : (h : Head) → head_fault h ≡ None → length (units_of h) ≤ 8
few_units h e = leb-true (length (units_of h)) 8 (second_true _ (leb (length (units_of h)) 8) _ (right_layout h e))

one_info : (x : Option DeviceInfo) (rest : Option (List DeviceInfo)) (found : List DeviceInfo) (n : ℕ) → with_info x rest ≡ Some found → ((more : List DeviceInfo) → rest ≡ Some more → length more ≡ n) → length found ≡ suc n
one_info None rest found n e f = absurd (cc)
one_info (Some i) None found n e f = absurd (cc)
one_info (Some i) (Some more) found n e f = let k : found ≡ i ∷ more = cc in ap length k ∙ ap suc (f more refl)

told_length : (s : Standing) (dev : ℕ) (xs : List LookAnswer) (found : List DeviceInfo) → all_told s dev xs ≡ Some found → length found ≡ length xs
told_length s dev [] found e = let k : found ≡ [] = cc in ap length k
told_length s dev (x ∷ xs) found e = one_info (told s dev x) (all_told s (dev + 1) xs) found (length xs) e (λ more r. told_length s (dev + 1) xs more r)

pub shapes : (us : List UnitSpec) (bytes : List ℕ) → map info_of us ≡ map device_of (units_from us bytes)
shapes [] bytes = refl
shapes (u ∷ us) bytes =
    let same : info_of u ≡ device_of (unit_from u bytes) = ap (λ (v : UnitSpec). info_of v) (sym (shape_is u bytes)) in
    ap (λ (d : DeviceInfo). d ∷ map info_of us) same ∙ ap (λ (v : List DeviceInfo). device_of (unit_from u bytes) ∷ v) (shapes us (drop (bytes_of u) bytes))

units_are : (s : Standing) (image : Option (List ℕ)) (us : List Stored) → units_told s image ≡ Some us → (bytes : List ℕ) × (us ≡ units_in (specs_of s) bytes)
units_are s None us e = absurd (cc)
units_are s (Some bytes) us e = let k : us ≡ units_in (specs_of s) bytes = cc in (bytes, k)

-- what was discovered are the rig's devices
pub devices_are : (s s' : Standing) (devices : List DeviceInfo) (units units' : Option (List Stored)) (image : Option (List ℕ)) {log log' : List LogEntry} → HasFound s devices log log' → s.devices ≤ 8 → Ends devices → s' ≡ s → units' ≡ units → units ≡ units_told s image → (is_some units ≡ true → devices ≡ map info_of (specs_of s)) →
    HasDevices devices s' units'
devices_are s s' devices units units' image found few ends same kept laid told =
    let n : length devices ≡ s.devices = told_length s 0 found.answers devices found.told ∙ found.each in
    record {
      count = n ∙ ap (λ (v : Standing). v.devices) (sym same);
      few = omega (arith, n, few);
      ends = ends;
      told = λ us e.
          let old : units ≡ Some us = sym kept ∙ e in
          let here = units_are s image us (sym laid ∙ old) in
          told (ap is_some old) ∙ shapes (specs_of s) (drop 512 here.0) ∙ ap (λ (v : List Stored). map device_of v) (sym here.1);
    }

-- a rig that tells its blocks has no device at fault
pub silent : (units : Option (List Stored)) → (is_some units ≡ true → false ≡ true) → is_some units ≡ false
silent None never = refl
silent (Some us) never = sym (never refl)
