-- A script that was run over a rig was followed to its end.
use Rattle.std.proofs.Common.{◌≡◌, ◌<◌, ℕ, zero, suc, ◌+◌, List, [], ◌∷◌, length, Option, Some, None, refl, sym, ap, subst, ◌∙◌, arith}
use Rattle.std.specs.Prelude.{take}
use Rattle.std.proofs.lemmas.List.{length-map, length-take}
use Rattle.std.specs.List.{All}
use Rattle.std.proofs.lemmas.List.Elements.{All-cons, All-nil}
use Rattle.std.proofs.lemmas.Option.{none-some, same_Some}
use Rattle.rig_api.specs.Frames.{stored_size}
use Rattle.rig_api.specs.Image.{units_in}
use Rattle.rig_api.specs.Target.{Stored, shape_of}
use Rattle.rig_api.specs.Head.{units_of}
use Rattle.rig_api.specs.Log.{LogEntry}
use Rattle.rig_api.specs.Telling.{IsStanding, Standing, spec_at, specs_of, unit_at, units_told}
use Rattle.script_run_laws.specs.Passed.{LookAnswer, HasFound, all_told, DiscoveryTold as told, with_info}
use Rattle.script_run_laws.proofs.Passed.{told_size}
use Rattle.volume_table.specs.declared.device.DeviceInfo.{DeviceInfo}
use Rattle.volume_table.specs.Faults.{device}
use Rattle.dix_adapter.specs.Ways.{shapes_of}
use Rattle.dix_adapter.proofs.Runs.{AllLong}
use Rattle.dix_adapter.proofs.Units.{unit-stands}
use Rattle.script_run_laws.specs.Units.{AreStored}
use Rattle.script_stack.specs.Followed.{SizesAre}

-- ---- what was found has the sizes that the head tells

sizes-from : (s : Standing) (dev : ℕ) (answers : List LookAnswer) (found : List DeviceInfo) → all_told s dev answers ≡ Some found → (d : ℕ) → d < length found → (spec_at s (dev + d)).size ≡ (device found d).size
sizes-from s dev [] found e d l = absurd (let n = ap length (same_Some [] found e) in omega arith)
sizes-from s dev (a ∷ answers) found e d l = by (told s dev a) refl (all_told s (dev + 1) answers) refl e (λ more f d l. sizes-from s (dev + 1) answers more f d l) where
  by : (i : Option DeviceInfo) → told s dev a ≡ i → (rest : Option (List DeviceInfo)) → all_told s (dev + 1) answers ≡ rest → with_info i rest ≡ Some found
      → ((more : List DeviceInfo) → all_told s (dev + 1) answers ≡ Some more → (d : ℕ) → d < length more → (spec_at s (dev + 1 + d)).size ≡ (device more d).size) → (spec_at s (dev + d)).size ≡ (device found d).size
  by None f rest g e behind = absurd (none-some found e)
  by (Some i) f None g e behind = absurd (none-some found e)
  by (Some i) f (Some more) g e behind =
      let same = same_Some (i ∷ more) found e in
      subst (λ ds. (spec_at s (dev + d)).size ≡ (device ds d).size) same (at d (subst (λ ds. d < length ds) (sym same) l))
    where
      at : (d : ℕ) → d < length (i ∷ more) → (spec_at s (dev + d)).size ≡ (device (i ∷ more) d).size
      at zero l = let z : dev + 0 ≡ dev = omega arith in ap (λ x. (spec_at s x).size) z ∙ sym (told_size s dev a i f)
      at (suc d) l = let z : dev + suc d ≡ dev + 1 + d = omega arith in ap (λ x. (spec_at s x).size) z ∙ behind more g d (omega arith)

pub sizes-found : (s : Standing) (devices : List DeviceInfo) (old new : List LogEntry) → HasFound s devices old new → SizesAre devices s
sizes-found s devices old new h d l = let z : d ≡ 0 + d = omega arith in ap (λ x. (spec_at s x).size) z ∙ sizes-from s 0 h.answers devices h.told d l

-- ---- the units that a rig tells

pub told-shapes : (st : Standing) (image : Option (List ℕ)) (us : List Stored) → units_told st image ≡ Some us → IsStanding st image → shapes_of us ≡ specs_of st
told-shapes st None us e r = absurd (none-some us e)
told-shapes st (Some bytes) us e r = by st.devices refl where
  by : (n : ℕ) → st.devices ≡ n → shapes_of us ≡ specs_of st
  by zero z =
      let none : specs_of st ≡ [] = ap (λ n. take n (units_of st.head)) z in
      subst (λ x. shapes_of x ≡ specs_of st) (same_Some (units_in (specs_of st) bytes) us e) (ap (λ x. shapes_of (units_in x bytes)) none ∙ sym none)
  by (suc n) z = (unit-stands st (Some bytes) us 0 e r (omega arith)).shapes

long-all : (w : ℕ) (blocks : List (List ℕ)) → AllLong w blocks → All (λ block. length block ≡ w) blocks
long-all w [] h = All-nil _
long-all w (b ∷ bs) h = All-cons (λ block. length {A = ℕ} block ≡ w) b bs h.0 (long-all w bs h.1)

stored-from : (us : List Stored) → ((dev : ℕ) → dev < length us → AllLong (stored_size (unit_at us dev).ty (unit_at us dev).size) (unit_at us dev).blocks) → AreStored us
stored-from [] h = All-nil _
stored-from (u ∷ us) h = All-cons (λ (u : Stored). All (λ block. length {A = ℕ} block ≡ stored_size u.ty u.size) u.blocks) u us (long-all (stored_size u.ty u.size) u.blocks (h 0 (omega arith))) (stored-from us (λ dev l. h (suc dev) (omega arith)))

pub told-stored : (st : Standing) (image : Option (List ℕ)) (us : List Stored) → units_told st image ≡ Some us → IsStanding st image → AreStored us
told-stored st image us e r =
    let s = told-shapes st image us e r in
    let n = length-map us shape_of in
    let m = ap length s in
    let t = length-take st.devices (units_of st.head) in
    stored-from us (λ dev l. (unit-stands st image us dev e r (omega arith)).long)
