use Rattle.std.specs.Prelude.{◌≡◌, ◌<◌, ℕ, zero, suc, List, [], length, Option, Some, None, refl}
use Rattle.std.proofs.Common.{ap, inl, inr, arith, ◌∙◌}
use Rattle.rig_api.specs.Target.{Stored}
use Rattle.rig_api.specs.declared.units.UnitSpec.{UnitSpec}
use Rattle.rig_api.specs.Head.{Head, IsHeadOf, head_fault, head_of, units_of}
use Rattle.rig_api.specs.Telling.{IsStanding, Standing, units_told}

-- what stands of a rig with so many devices and this head
abbrev pub standing_of : (devices : ℕ) (h : Head) (name : List ℕ) (openings : ℕ) → Standing
standing_of devices h name openings = record { devices = devices; head = h; name = name; openings = openings }

-- the units that are told of its image
abbrev pub units_of_image : (devices : ℕ) → Head → Option (List ℕ) → Option (List Stored)
units_of_image devices h image = units_told (record { devices = devices; head = h; name = []; openings = 0 }) image

-- which is what the rig says of them
pub laid_of : (devices : ℕ) (h : Head) (name : List ℕ) (openings : ℕ) (image : Option (List ℕ)) → units_of_image devices h image ≡ units_told (standing_of devices h name openings) image
laid_of devices h name openings None = refl
laid_of devices h name openings (Some image) = refl

head_told : (h : Head) (image : Option (List ℕ)) → ((bytes : List ℕ) → image ≡ Some bytes → h ≡ head_of bytes) → IsHeadOf h image
head_told h None t = tt
head_told h (Some bytes) t = t bytes refl

standing_by : (devices : ℕ) (h : Head) (name : List ℕ) (openings : ℕ) (image : Option (List ℕ)) (us : List UnitSpec) → devices ≡ length us →
    (0 < devices → head_fault h ≡ None) → (0 < devices → us ≡ units_of h) → (0 < devices → (bytes : List ℕ) → image ≡ Some bytes → h ≡ head_of bytes) → IsStanding (standing_of devices h name openings) image
standing_by zero h name openings image us n r d t = inl refl
standing_by (suc k) h name openings image us n r d t =
    let some : 0 < suc k = omega arith in
    inr (record { right = r some; devices = n ∙ ap length (d some); told = head_told h image (t some) })

pub ready_of : (devices : ℕ) (h : Head) (name : List ℕ) (openings : ℕ) (image : Option (List ℕ)) (us : List UnitSpec) →
    (0 < length us → head_fault h ≡ None) → (0 < length us → us ≡ units_of h) → (0 < length us → (bytes : List ℕ) → image ≡ Some bytes → h ≡ head_of bytes) → devices ≡ length us → IsStanding (standing_of devices h name openings) image
ready_of devices h name openings image us r d t n = standing_by devices h name openings image us n (subst_size n r) (subst_size n d) (subst_size n t)
  where
    subst_size : {P : Type 0} → devices ≡ length us → (0 < length us → P) → 0 < devices → P
    subst_size n f h = f (omega arith)
