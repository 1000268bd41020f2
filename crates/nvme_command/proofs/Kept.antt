-- Buffers on the heap that a command was done with.
use Rattle.std.proofs.Common.{◌≡◌, ℕ, eqb, true, false, List, [], ◌∷◌, ◌++◌, length, take, drop, Option, Some, None, refl, sym, ap, subst, ◌∙◌, ⊎_elim}
use Rattle.std.specs.Prelude.{is_some, map}
use Rattle.std.proofs.lemmas.Bool.{cases_Bool, eqb-true}
use Rattle.std.proofs.lemmas.List.{length-replicate, take_at}
use Rattle.rig_api.specs.Target.{Stored}
use Rattle.rig_api.specs.Log.{Room}
use Rattle.rig_api.specs.State.{RigState}
use Rattle.rig_api.specs.Headers.{bytes_of}
use Rattle.rig_api.specs.Image.{unit_from, units_from, units_in}
use Rattle.rig_api.specs.declared.units.UnitSpec.{UnitSpec}
use Rattle.rig_api.specs.Telling.{Standing, specs_of, units_told}
use Rattle.rig_discovery.specs.Discovery.{info_of}
use Rattle.rig_discovery.proofs.Telling.{shape_is}
use Rattle.volume_table.specs.declared.device.DeviceInfo.{DeviceInfo}
use Rattle.nvme_front.specs.Answers.{HasNamespaces, device_of}
use Rattle.nvme_front.specs.Results.{IsAnswered}
use Rattle.nvme_front.specs.declared.command.NvmCommand.{NvmCommand}
use Rattle.nvme_front.specs.declared.completion.Completion.{Completion}
use Rattle.nvme_command.specs.Sessions.{given}

pub kept-front : (n : ℕ) (xs ys : List ℕ) → length xs ≡ n → xs ≡ take n (xs ++ ys)
kept-front n xs ys e = sym (take_at xs ys n e)

-- the answer with the same buffers, over a rig that has got more room
pub answered-as : (ds : List DeviceInfo) (c : NvmCommand) (b b' m m' nb nb' nm nm' : List ℕ) (result : Completion) (old old' new : RigState) (room : Room) → b ≡ b' → m ≡ m' → nb ≡ nb' → nm ≡ nm' → old ≡ record old' { room = room } →
    IsAnswered ds c b m nb nm result old new → IsAnswered ds c b' m' nb' nm' result old' new
answered-as ds c b b' m m' nb nb' nm nm' result old old' new room eb em enb enm eo x =
    let y : IsAnswered ds c b' m' nb' nm' result (record old' { room = room }) new =
    subst (λ (z : RigState). IsAnswered ds c b' m' nb' nm' result z new) eo
    (subst (λ z. IsAnswered ds c b' m' nb' z result old new) enm
    (subst (λ z. IsAnswered ds c b' m' z nm result old new) enb
    (subst (λ z. IsAnswered ds c b' z nb nm result old new) em
    (subst (λ z. IsAnswered ds c z m nb nm result old new) eb x)))) in
    record { submitted = y.submitted; told = y.told; never = y.never; medium = y.medium }

pub given-long : (n : ℕ) (meta : List ℕ) → length (given n meta) ≡ n
given-long n meta =
    ⊎_elim
    (λ (e : eqb (length meta) n ≡ true). rw e (eqb-true (length meta) n e))
    (λ (e : eqb (length meta) n ≡ false). rw e (length-replicate n 0))
    (cases_Bool (eqb (length meta) n))

-- ---- a command leaves the devices what they are

shapes : (us : List UnitSpec) (bytes : List ℕ) → map device_of (units_from us bytes) ≡ map info_of us
shapes [] bytes = refl
shapes (u ∷ us) bytes =
    let same : device_of (unit_from u bytes) ≡ info_of u = ap (λ (v : UnitSpec). info_of v) (shape_is u bytes) in
    ap (λ (d : DeviceInfo). d ∷ map device_of (units_from us (drop (bytes_of u) bytes))) same ∙ ap (λ (v : List DeviceInfo). info_of u ∷ v) (shapes us (drop (bytes_of u) bytes))

-- the devices of a told image are those of its units
pub told-is : (s : Standing) (image : Option (List ℕ)) (us : List Stored) → units_told s image ≡ Some us → (is_some image ≡ true) × (map device_of us ≡ map info_of (specs_of s))
told-is s None us e = absurd (cc)
told-is s (Some bytes) us e = let k : us ≡ units_in (specs_of s) bytes = cc in (refl, ap (λ (v : List Stored). map device_of v) k ∙ shapes (specs_of s) (drop 512 bytes))

told-some : (s : Standing) (image : Option (List ℕ)) → is_some image ≡ true → (us : List Stored) × (units_told s image ≡ Some us)
told-some s None e = absurd (cc)
told-some s (Some bytes) e = (units_in (specs_of s) bytes, refl)

pub devices-kept : (front : List DeviceInfo) (s s' : Standing) (units units' : Option (List Stored)) (image image' : Option (List ℕ)) → HasNamespaces front s units → units ≡ units_told s image → units' ≡ units_told s' image' → s' ≡ s → is_some image' ≡ is_some image → HasNamespaces front s' units'
devices-kept front s s' units units' image image' has laid laid' same tells = record {
  count = has.count ∙ ap (λ (v : Standing). v.devices) (sym same);
  told = λ us e.
      let new = told-is s' image' us (sym laid' ∙ e) in
      let old = told-some s image (sym tells ∙ new.0) in
      let was = told-is s image old.0 old.1 in
      has.told old.0 (laid ∙ old.1) ∙ was.1 ∙ ap (λ (v : Standing). map info_of (specs_of v)) (sym same) ∙ sym new.1;
}
