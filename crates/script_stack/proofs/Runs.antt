-- What a run begins with, without the private pages.
use Rattle.std.proofs.Common.{◌≡◌, ◌≤◌, ℕ, zero, suc, ◌+◌, ◌*◌, Bool, List, [], ◌∷◌, length, map, replicate, take, None, refl, ap, arith}
use Rattle.std.proofs.lemmas.List.{length-replicate}
use Rattle.rig_api.specs.declared.units.UnitSpec.{UnitSpec}
use Rattle.script_text.specs.Passed.{Op}
use Rattle.volume_table.specs.declared.device.DeviceInfo.{DeviceInfo}
use Rattle.volume_table.specs.Tables.{Table}
use Rattle.dix_adapter.specs.Passed.{hidden}
use Rattle.script_run_laws.specs.Passed.{fates, rooms, info_of}
use Rattle.script_text.specs.declared.script.Script.{Script}
use Rattle.stack_core.specs.Passed.{page_after, pages_from, Setting}
use Rattle.stack_core.proofs.Passed.{pages-grow}
use Rattle.stack_core.proofs.Spotted.{after_is}
use Rattle.script_stack.specs.Followed.{begun_of, opening_of, setting_of, unit_of}

take-zeros : (n k : ℕ) → n ≤ k → take {A = ℕ} n (replicate k 0) ≡ replicate n 0
take-zeros zero k h = refl
take-zeros (suc n) zero h = absurd (omega arith)
take-zeros (suc n) (suc k) h = ap (λ xs. 0 ∷ xs) (take-zeros n k (omega arith))

pub hides : (s : Script) (units : List UnitSpec) (blocks : List (List ℕ)) → hidden (4096 * s.pages) (begun_of s units blocks) ≡ opening_of s units blocks
hides s units blocks =
    let g = pages-grow s.mode.dix s.pages s.ops in
    ap (λ bytes. record (opening_of s units blocks) { bytes = bytes }) (take-zeros (4096 * s.pages) (4096 * pages_from s.mode.dix s.pages s.ops) (omega arith))

-- it has no others
pub hides-all : (s : Script) (units : List UnitSpec) (blocks : List (List ℕ)) → hidden (4096 * s.pages) (opening_of s units blocks) ≡ opening_of s units blocks
hides-all s units blocks = ap (λ bytes. record (opening_of s units blocks) { bytes = bytes }) (take-zeros (4096 * s.pages) (4096 * s.pages) (omega arith))

-- the private pages of all ops
rooms-are : (m : Setting) (dix : Bool) (page : ℕ) (ops : List Op) → m.mode.dix ≡ dix → 4096 * pages_from dix page ops ≡ 4096 * page + rooms m ops
rooms-are m dix page [] d = omega arith
rooms-are m dix page (op ∷ ops) d = let a = rooms-are m dix (page_after dix page op) ops d in let b = after_is m dix page op d in omega arith

pub has-room : (s : Script) (t : Table) (units : List UnitSpec) (blocks : List (List ℕ)) (fails : ℕ → Bool) → 4096 * s.pages + rooms (setting_of s t units fails) s.ops ≤ length (begun_of s units blocks).bytes
has-room s t units blocks fails =
    let a : 4096 * pages_from s.mode.dix s.pages s.ops ≡ 4096 * s.pages + rooms (setting_of s t units fails) s.ops = rooms-are (setting_of s t units fails) s.mode.dix s.pages s.ops refl in
    let b : length (begun_of s units blocks).bytes ≡ 4096 * pages_from s.mode.dix s.pages s.ops = length-replicate (4096 * pages_from s.mode.dix s.pages s.ops) 0 in
    omega (arith, a, b)

pub has-cells : (s : Script) (units : List UnitSpec) (blocks : List (List ℕ)) → fates s.ops ≤ length (begun_of s units blocks).fates
has-cells s units blocks = let a : length (begun_of s units blocks).fates ≡ fates s.ops = length-replicate (fates s.ops) None in omega arith

-- a device as a unit, and back
pub own-infos : (devices : List DeviceInfo) → map info_of (map unit_of devices) ≡ devices
own-infos [] = refl
own-infos (d ∷ ds) = ap (λ xs. d ∷ xs) (own-infos ds)
