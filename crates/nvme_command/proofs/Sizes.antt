-- The devices that are told have a block size that is served.
use Rattle.std.proofs.Common.{◌≡◌, ◌<◌, ℕ, ◌+◌, Bool, true, false, eqb, leb, ◌&&◌, ◌||◌, if◌then◌else◌, List, [], ◌∷◌, length, Option, Some, None, refl, sym, ap, subst, ◌∙◌, arith}
use Rattle.std.specs.Prelude.{slice_index_or}
use Rattle.std.specs.List.{list_all}
use Rattle.std.proofs.lemmas.List.{take_all}
use Rattle.std.proofs.lemmas.Bool.{and_from}
use Rattle.rig_api.specs.Headers.{is_spec}
use Rattle.rig_api.specs.declared.units.UnitSpec.{UnitSpec}
use Rattle.rig_api.specs.Head.{head_fault, units_of}
use Rattle.rig_api.specs.Log.{LogEntry}
use Rattle.rig_api.specs.Telling.{Standing, no_spec, spec_at, specs_of}
use Rattle.rig_api.proofs.HeadLaws.{right_layout}
use Rattle.volume_table.specs.declared.device.DeviceInfo.{DeviceInfo}
use Rattle.rig_discovery.specs.Discovery.{LookAnswer, HasFound, all_told, told, with_info}
use Rattle.rig_discovery.proofs.Telling.{all_at, last_true}
use Rattle.rig_discovery.proofs.ToldSizes.{told_size}
use Rattle.rig_api.specs.Target.{Stored}
use Rattle.rig_discovery.specs.Openings.{HasDevices as Discovered}
use Rattle.nvme_front.specs.Answers.{HasNamespaces}
use Rattle.nvme_front.specs.Refusals.{has_size}

good-size : (u : UnitSpec) → is_spec u ≡ true → (eqb u.size 512 || eqb u.size 4096) ≡ true
good-size u h = by (eqb u.size 512) (eqb u.size 4096) u.blocks _ h
  where
    by : (a b : Bool) (n : ℕ) (x : Bool) → (leb 1 n && (leb n (if a then 65536 else (if b then 8192 else 0)) && x)) ≡ true → (a || b) ≡ true
    by true b n x h = refl
    by false true n x h = refl
    by false false n x h = grind arith

all-sizes : (s : Standing) (dev : ℕ) (xs : List LookAnswer) (found : List DeviceInfo) → all_told s dev xs ≡ Some found → ((k : ℕ) → k < dev + length xs → is_spec (spec_at s k) ≡ true) → list_all has_size found ≡ true
all-sizes s dev [] found e good = let k : found ≡ [] = cc in ap (list_all has_size) k
all-sizes s dev (x ∷ xs) found e good =
    by (told s dev x) (all_told s (dev + 1) xs) refl (λ more q. all-sizes s (dev + 1) xs more q (λ j l. good j (omega arith))) e
  where
    by : (i : Option DeviceInfo) (rest : Option (List DeviceInfo)) → told s dev x ≡ i → ((more : List DeviceInfo) → rest ≡ Some more → list_all has_size more ≡ true) → with_info i rest ≡ Some found → list_all has_size found ≡ true
    by None rest p q e = absurd (cc)
    by (Some i) None p q e = absurd (cc)
    by (Some i) (Some more) p q e =
        let k : found ≡ i ∷ more = cc in
        let z = told_size s dev x i p in
        let g = good-size (spec_at s dev) (good dev (omega arith)) in
        let h : has_size i ≡ true = ap (λ n. eqb n 512 || eqb n 4096) z ∙ g in
        ap (list_all has_size) k ∙ and_from (has_size i) (list_all has_size more) h (q more refl)

pub sizes-found : (s : Standing) (found : List DeviceInfo) (old new : List LogEntry) → head_fault s.head ≡ None → s.devices ≡ length (units_of s.head) → HasFound s found old new → list_all has_size found ≡ true
sizes-found s found old new right devices f =
    let all : specs_of s ≡ units_of s.head = take_all s.devices (units_of s.head) (omega (arith, devices)) in
    let good : list_all is_spec (units_of s.head) ≡ true = last_true _ _ _ (right_layout s.head right) in
    let n = f.each in
    let inside : (k : ℕ) → k < 0 + length f.answers → k < length (units_of s.head) = λ k l. omega (arith, l, n, devices) in
    all-sizes s 0 f.answers found f.told (λ k l. ap (λ us. is_spec (slice_index_or us k no_spec)) all ∙ all_at (units_of s.head) k good (inside k l))

-- the devices that were discovered are those of the front
pub for-front : (front devices : List DeviceInfo) (s : Standing) (units : Option (List Stored)) → front ≡ devices → Discovered devices s units → HasNamespaces front s units
for-front front devices s units e h = subst (λ ds. HasNamespaces ds s units) (sym e) (record { count = h.count; told = h.told })
