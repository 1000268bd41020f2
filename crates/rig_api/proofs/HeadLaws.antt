-- What a head without a fault says of its image.
use Rattle.rig_api.specs.Head.{Head, IsHeadOf, head_of, units_of, fault_of_header, fault_under, specs_under, head_fault, version_in}
use Rattle.std.proofs.Common.{List, ℕ, Option, ◌≡◌, Some, length, ap, take, ◌∙◌, Bool, None, true, false, ⊎_elim, eqb, sym, ltb, refl}
use Rattle.rig_api.specs.Telling.{Standing, specs_of}
use Rattle.std.proofs.Math.Seq.{take-length}
use Rattle.std.specs.Prelude.{if◌then◌else◌}
use Rattle.rig_api.specs.declared.rig.RigFault.TheVariants.{BadLength}
use Rattle.std.proofs.lemmas.Bool.{eqb-true, cases_Bool}
use Rattle.rig_api.specs.declared.units.Version.{Version}
use Rattle.rig_api.specs.Headers.{image_size, is_header, specs_in, is_layout}
use Rattle.rig_api.proofs.HeaderLaws.{header_layout}

pub headed : (h : Head) (image : List ℕ) (told : Option (List ℕ)) → told ≡ Some image → IsHeadOf h told → h ≡ head_of image
headed h image told e i = rw e at i

pub all_specs : (s : Standing) → s.devices ≡ length (units_of s.head) → specs_of s ≡ units_of s.head
all_specs s e = ap (λ n. take n (units_of s.head)) e ∙ take-length (units_of s.head)

pub by_length : (short good : Bool) (has wants : ℕ) → (if short then Some BadLength else fault_of_header good has wants) ≡ None → has ≡ wants
by_length true good has wants e = absurd (cc)
by_length false false has wants e = absurd (cc)
by_length false true has wants e =
    ⊎_elim
    (λ (t : eqb has wants ≡ true). eqb-true has wants t)
    (λ (t : eqb has wants ≡ false). absurd (let x : Some BadLength ≡ None = sym (ap (λ b. if b then None else Some BadLength) t) ∙ e in cc))
    (cases_Bool (eqb has wants))

pub right_length : (h : Head) (v : Option Version) → fault_under v h ≡ None → h.size ≡ image_size (specs_under v h.first)
right_length h None e = absurd (cc)
right_length h (Some v) e = by_length (ltb (length h.first) 512) (is_header v h.first) h.size (image_size (specs_in v h.first)) e

pub image_long : (h : Head) (image : List ℕ) → head_fault h ≡ None → h ≡ head_of image → length image ≡ image_size (units_of h)
unfolding head_fault
image_long h image e t = sym (ap (λ x. x.size) t) ∙ right_length h (version_in h) e

pub good_header : (short good : Bool) (has wants : ℕ) → (if short then Some BadLength else fault_of_header good has wants) ≡ None → good ≡ true
good_header true good has wants e = absurd (cc)
good_header false true has wants e = refl
good_header false false has wants e = absurd (cc)

pub layout_under : (h : Head) (v : Option Version) → fault_under v h ≡ None → is_layout (specs_under v h.first) ≡ true
layout_under h None e = absurd (cc)
layout_under h (Some v) e = header_layout v h.first (good_header (ltb (length h.first) 512) (is_header v h.first) h.size (image_size (specs_in v h.first)) e)

-- the units of a right head are those of an image
pub right_layout : (h : Head) → head_fault h ≡ None → is_layout (units_of h) ≡ true
unfolding head_fault
right_layout h e = layout_under h (version_in h) e
