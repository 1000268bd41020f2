-- The units behind the devices of an image that is open, and the answers that are theirs.
use Rattle.std.proofs.Common.{◌≡◌, ℕ, zero, suc, ◌+◌, ◌*◌, ◌^◌, ◌<◌, ◌≤◌, true, List, [], ◌∷◌, length, get_or, take, drop, Option, Some, None, refl, sym, ap, subst, ◌∙◌, arith}
use Rattle.std.specs.Prelude.{is_some, max}
use Rattle.std.specs.List.{list_all}
use Rattle.std.proofs.lemmas.List.{take-take, drop-take, drop-drop, take_all}
use Rattle.std.proofs.lemmas.Bool.{and_parts}
use Rattle.std.proofs.lemmas.Option.{same_Some}
use Rattle.dix_base.specs.Told.{Apart, Becomes, Calm}
use Rattle.dix_base.proofs.Counts.{never_rose}
use Rattle.fault_schedule.specs.declared.Label.{Label}
use Rattle.fault_schedule.specs.declared.fault.FaultLine.{FaultLine}
use Rattle.rig_api.specs.Frames.{stored_size}
use Rattle.rig_api.specs.Headers.{all_bytes, bytes_of, image_size, is_layout, is_spec}
use Rattle.rig_api.specs.Image.{unit_from, units_in}
use Rattle.rig_api.specs.Target.{Answer, Stop, Stored, target_answer}
use Rattle.rig_api.specs.declared.units.UnitSpec.{UnitSpec}
use Rattle.target_model.specs.Served.{IsSize, IsUnit, Served, unit_in, with_unit}
use Rattle.rig_api.specs.Head.{Head, head_fault, head_of, units_of}
use Rattle.target_model.specs.declared.unit.LogicalUnit.{LogicalUnit}
use Rattle.target_model.proofs.Bytes.{size_most as size_least}
use Rattle.rig_api.specs.Telling.{HasCause, IsAnswer, answer_of, frame_size, greatest, holding, no_spec, unit_at, with_blocks}
use Rattle.rig_api.specs.declared.rig.Outcome.{Outcome}
use Rattle.rig_api.proofs.HeadLaws.{right_layout}
use Rattle.image_rig.specs.LayoutPlaces.{place_of}
use Rattle.image_rig.specs.Places.{logical_of}
use Rattle.image_rig.specs.Told.{units_of_image}
use Rattle.image_rig.proofs.Heads.{bytes_small, layout_parts, right_head, right_units, same_head, spec_here}
use Rattle.image_rig.proofs.Units.{bytes_within, unit_found, units_change}

-- ---- what is known of an image that is open

pub record Open (us : List UnitSpec) (h : Head) (len : ℕ) : Type 0 where
  pub layout : is_layout us ≡ true
  pub named : take (length us) (units_of h) ≡ us
  pub size : len ≡ image_size us

pub is_open : (us : List UnitSpec) (h : Head) (len dev : ℕ) → dev < length us → (0 < length us → head_fault h ≡ None) → (0 < length us → us ≡ units_of h) → (0 < length us → len ≡ h.size) → Open us h len
is_open us h len dev d right devices held =
    let some : 0 < length us = omega arith in
    let r = right_head h (right some) in
    let e : us ≡ units_of h = devices some in
    record {
      layout = ap is_layout e ∙ right_layout h (right some);
      named = ap (take (length us)) (sym e) ∙ take_all (length us) us (omega arith);
      size = held some ∙ r.size ∙ ap image_size (sym (right_units h r)) ∙ ap image_size (sym e);
    }

-- ---- its units

spec_size : (u : UnitSpec) → is_spec u ≡ true → IsSize u.size
spec_size u h = grind arith

spec_some : (u : UnitSpec) → is_spec u ≡ true → 1 ≤ u.blocks
spec_some u h = grind arith

spec_first : (u : UnitSpec) → is_spec u ≡ true → u.first + u.blocks < 2 ^ 64
spec_first u h = grind arith

all_small : (us : List UnitSpec) → list_all is_spec us ≡ true → all_bytes us ≤ length us * 34078720
all_small [] h = omega arith
all_small (u ∷ us) h =
    let s = and_parts (is_spec u) (list_all is_spec us) h in
    let a = bytes_small u s.0 in
    let b = all_small us s.1 in
    omega arith

pub size_here : (us : List UnitSpec) (dev : ℕ) → is_layout us ≡ true → dev < length us → IsSize (get_or us dev no_spec).size
size_here us dev l d = spec_size (get_or us dev no_spec) (spec_here us dev l d)

pub some_blocks : (us : List UnitSpec) (dev : ℕ) → is_layout us ≡ true → dev < length us → 1 ≤ (get_or us dev no_spec).blocks
some_blocks us dev l d = spec_some (get_or us dev no_spec) (spec_here us dev l d)

pub is_unit : (us : List UnitSpec) (h : Head) (len dev : ℕ) → Open us h len → dev < length us → IsUnit (logical_of us dev) len
is_unit us h len dev o d =
    let u = get_or us dev no_spec in
    let p = layout_parts us o.layout in
    let s = spec_here us dev o.layout d in
    let w = bytes_within us dev d in
    let a = all_small us p.2 in
    let few = p.1 in
    let e = o.size in
    record {
      size = spec_size u s;
      held = omega arith;
      places = omega arith;
      addresses = spec_first u s;
    }

-- ---- the greatest block size

pub greatest_more : (us : List UnitSpec) (i : ℕ) (d : UnitSpec) → i < length us → greatest (take (i + 1) us) ≡ max (get_or us i d).size (greatest (take i us))
greatest_more [] i d h = absurd (omega arith)
greatest_more (u ∷ us) zero d h = refl
greatest_more (u ∷ us) (suc i) d h =
    let k : suc i + 1 ≡ suc (i + 1) = omega arith in
    let e = greatest_more us i d (omega arith) in
    rw k (omega arith)

pub size_most : (us : List UnitSpec) (dev : ℕ) → dev < length us → (get_or us dev no_spec).size ≤ greatest us
size_most [] dev h = absurd (omega arith)
size_most (u ∷ us) zero h = omega arith
size_most (u ∷ us) (suc dev) h = let e = size_most us dev (omega arith) in omega arith

-- ---- what is told of them

none_some : {A : Type 0} {x : A} → None ≡ Some x → ⊥
none_some e = cc

pub units_are : (us : List UnitSpec) (h : Head) (image : Option (List ℕ)) (bytes : List ℕ) → take (length us) (units_of h) ≡ us → image ≡ Some bytes → units_of_image (length us) h image ≡ Some (units_in us bytes)
units_are us h image bytes n e = ap (units_of_image (length us) h) e ∙ ap (λ v. Some (units_in v bytes)) n

pub image_of : (n : ℕ) (h : Head) (image : Option (List ℕ)) (found : List Stored) → units_of_image n h image ≡ Some found → (bytes : List ℕ) × (image ≡ Some bytes) × (found ≡ units_in (take n (units_of h)) bytes)
image_of n h None found e = absurd (none_some e)
image_of n h (Some bytes) found e = (bytes, refl, sym (same_Some (units_in (take n (units_of h)) bytes) found e))

-- the unit behind a device, as the target finds it
pub unit_same : (us : List UnitSpec) (bytes : List ℕ) (dev : ℕ) → dev < length us → unit_in (logical_of us dev) bytes ≡ unit_at (units_in us bytes) dev
unit_same us bytes dev d =
    let p = all_bytes (take dev us) in
    sym (unit_found us (drop 512 bytes) dev d ∙ ap (unit_from (get_or us dev no_spec)) (drop-drop p 512 bytes))

-- the units after an answer of one
pub units_after : (us : List UnitSpec) (was : List ℕ) (dev : ℕ) (blocks : List (List ℕ)) → dev < length us →
    Apart (place_of us dev) (stored_size (get_or us dev no_spec).ty (get_or us dev no_spec).size * (get_or us dev no_spec).blocks) was (with_unit (logical_of us dev) blocks was) →
    unit_in (logical_of us dev) (with_unit (logical_of us dev) blocks was) ≡ holding (unit_in (logical_of us dev) was) blocks →
    units_in us (with_unit (logical_of us dev) blocks was) ≡ with_blocks (units_in us was) dev blocks
units_after us was dev blocks d a e =
    let u = get_or us dev no_spec in
    let p = all_bytes (take dev us) in
    let is : List ℕ = with_unit (logical_of us dev) blocks was in
    let n = stored_size u.ty u.size * u.blocks in
    let k : 512 + (p + bytes_of u) ≡ 512 + p + n = omega arith in
    let front : take p (drop 512 is) ≡ take p (drop 512 was) = sym (drop-take 512 p is) ∙ ap (drop 512) a.1 ∙ drop-take 512 p was in
    let rest : drop (p + bytes_of u) (drop 512 is) ≡ drop (p + bytes_of u) (drop 512 was) =
    drop-drop (p + bytes_of u) 512 is ∙ ap (λ i. drop i is) k ∙ a.2 ∙ ap (λ i. drop i was) (sym k) ∙ sym (drop-drop (p + bytes_of u) 512 was) in
    let f = unit_found us (drop 512 is) dev d in
    let unit : unit_from u (drop p (drop 512 is)) ≡ holding (unit_at (units_in us was) dev) blocks =
    sym f ∙ sym (unit_same us is dev d) ∙ e ∙ ap (λ (v : Stored). holding v blocks) (unit_same us was dev d) in
    units_change us (drop 512 was) (drop 512 is) dev (holding (unit_at (units_in us was) dev) blocks) d front rest unit

-- ---- answers

-- an answer of the unit behind a device is one of the units
abbrev Answers : List Stored → List FaultLine → (dev : ℕ) → List ℕ → List Label → List ℕ → (room o n : ℕ) → Outcome → Option (List Stored) → List ℕ → List ℕ → Type 0
Answers found armed dev cdb labels out room o n result told before after =
    (stop : Option Stop) × HasCause stop (frame_size (unit_at found dev)) o n × IsAnswer (answer_of found armed dev cdb labels out room stop) found dev result told before after

pub answered : (us : List UnitSpec) (h : Head) (was : List ℕ) (image : Option (List ℕ)) (dev room o n : ℕ) (armed : List FaultLine) (cdb : List ℕ) (labels : List Label) (out : List ℕ) (result : Outcome) (before after : List ℕ) →
    dev < length us → take (length us) (units_of h) ≡ us → Served (logical_of us dev) (target_answer (unit_in (logical_of us dev) was) armed cdb labels out room) o n was image result before after →
    Answers (units_in us was) armed dev cdb labels out room o n result (units_of_image (length us) h image) before after
answered us h was image dev room o n armed cdb labels out result before after d named s =
    let u = unit_same us was dev d in
    let blocks = (target_answer (unit_in (logical_of us dev) was) armed cdb labels out room s.stop).blocks in
    let same : target_answer (unit_in (logical_of us dev) was) armed cdb labels out room s.stop ≡ target_answer (unit_at (units_in us was) dev) armed cdb labels out room s.stop = ap (λ (v : Stored). target_answer v armed cdb labels out room s.stop) u in
    let told : units_of_image (length us) h image ≡ Some (with_blocks (units_in us was) dev blocks) =
    units_are us h image (with_unit (logical_of us dev) blocks was) named s.bytes ∙ ap Some (units_after us was dev blocks d s.back.apart s.back.unit) in
    let first : IsAnswer (target_answer (unit_in (logical_of us dev) was) armed cdb labels out room s.stop) (units_in us was) dev result (units_of_image (length us) h image) before after =
    record { outcome = s.outcome; units = told; into = s.into } in
    (s.stop, subst (λ (v : Stored). HasCause s.stop (frame_size v) o n) u s.cause, subst (λ a. IsAnswer a (units_in us was) dev result (units_of_image (length us) h image) before after) same first)

pub told : (us : List UnitSpec) (h : Head) (image image' : Option (List ℕ)) (dev room o n : ℕ) (armed : List FaultLine) (cdb : List ℕ) (labels : List Label) (out : List ℕ) (result : Outcome) (before after : List ℕ) (found : List Stored) →
    dev < length us → take (length us) (units_of h) ≡ us → units_of_image (length us) h image ≡ Some found →
    ((bytes : List ℕ) → image ≡ Some bytes → Served (logical_of us dev) (target_answer (unit_in (logical_of us dev) bytes) armed cdb labels out room) o n bytes image' result before after) →
    Answers found armed dev cdb labels out room o n result (units_of_image (length us) h image') before after
told us h image image' dev room o n armed cdb labels out result before after found d named e s =
    let i = image_of (length us) h image found e in
    let f : units_in us i.0 ≡ found = sym (i.2 ∙ ap (λ v. units_in v i.0) named) in
    subst (λ v. Answers v armed dev cdb labels out room o n result (units_of_image (length us) h image') before after) f
    (answered us h i.0 image' dev room o n armed cdb labels out result before after d named (s i.0 i.1))

never_stopped : (o n frame : ℕ) (stop : Option Stop) → Calm o n → HasCause stop frame o n → stop ≡ None
never_stopped o n frame None c h = refl
never_stopped o n frame (Some s) c h = absurd (never_rose o n c h.0)

pub calm : (found : List Stored) (dev room o n : ℕ) (armed : List FaultLine) (cdb : List ℕ) (labels : List Label) (out : List ℕ) (result : Outcome) (told : Option (List Stored)) (before after : List ℕ) → Calm o n →
    Answers found armed dev cdb labels out room o n result told before after → IsAnswer (answer_of found armed dev cdb labels out room None) found dev result told before after
calm found dev room o n armed cdb labels out result told before after c a =
    subst (λ stop. IsAnswer (answer_of found armed dev cdb labels out room stop) found dev result told before after) (never_stopped o n (frame_size (unit_at found dev)) a.0 c a.1) a.2

-- ---- the head stays

pub becomes_apart : (at n : ℕ) (old new : Option (List ℕ)) → is_some new ≡ is_some old → ((x : List ℕ) → old ≡ Some x → (y : List ℕ) × (new ≡ Some y) × Apart at n x y) → Becomes (Apart at n) old new
becomes_apart at n None None e f = tt
becomes_apart at n None (Some y) e f = absurd (cc)
becomes_apart at n (Some x) None e f = absurd (cc)
becomes_apart at n (Some x) (Some y) e f = let r = f x refl in subst (Apart at n x) (sym (same_Some y r.0 r.1)) r.2

same_front : (at : ℕ) (x y : List ℕ) → 512 ≤ at → take at y ≡ take at x → take 512 x ≡ take 512 y
same_front at x y l e = sym (take-take 512 at x l) ∙ ap (take 512) (sym e) ∙ take-take 512 at y l

pub head_kept : (h : Head) (at n : ℕ) (old new : Option (List ℕ)) → 512 ≤ at → Becomes (Apart at n) old new → ((bytes : List ℕ) → old ≡ Some bytes → h ≡ head_of bytes) → (bytes : List ℕ) → new ≡ Some bytes → h ≡ head_of bytes
head_kept h at n None None l b t bytes e = absurd (none_some e)
head_kept h at n None (Some y) l b t bytes e = absurd b
head_kept h at n (Some x) None l b t bytes e = absurd b
head_kept h at n (Some x) (Some y) l b t bytes e = t x refl ∙ same_head (head_of x) (head_of y) (sym b.0) (same_front at x y l b.1) ∙ ap head_of (same_Some y bytes e)

-- ---- an exchange with the unit behind a device

pub told_by : (us : List UnitSpec) (h : Head) (u : LogicalUnit) (image image' : Option (List ℕ)) (dev room o n : ℕ) (armed : List FaultLine) (cdb : List ℕ) (labels : List Label) (out : List ℕ) (result : Outcome) (before after : List ℕ) (found : List Stored) →
    dev < length us → take (length us) (units_of h) ≡ us → u ≡ logical_of us dev → units_of_image (length us) h image ≡ Some found →
    ((bytes : List ℕ) → image ≡ Some bytes → Served u (target_answer (unit_in u bytes) armed cdb labels out room) o n bytes image' result before after) →
    Answers found armed dev cdb labels out room o n result (units_of_image (length us) h image') before after
told_by us h u image image' dev room o n armed cdb labels out result before after found d named l e s =
    told us h image image' dev room o n armed cdb labels out result before after found d named e
    (λ bytes i. subst (λ v. Served v (target_answer (unit_in v bytes) armed cdb labels out room) o n bytes image' result before after) l (s bytes i))

pub head_after : (us : List UnitSpec) (h : Head) (u : LogicalUnit) (answer : List ℕ → Option Stop → Answer) (image image' : Option (List ℕ)) (dev o n : ℕ) (result : Outcome) (before after : List ℕ) →
    u ≡ logical_of us dev → is_some image' ≡ is_some image → ((bytes : List ℕ) → image ≡ Some bytes → Served u (answer bytes) o n bytes image' result before after) →
    ((bytes : List ℕ) → image ≡ Some bytes → h ≡ head_of bytes) → (bytes : List ℕ) → image' ≡ Some bytes → h ≡ head_of bytes
head_after us h u answer image image' dev o n result before after l t s k =
    head_kept h u.at (stored_size u.ty u.size * u.blocks) image image' behind
    (becomes_apart u.at (stored_size u.ty u.size * u.blocks) image image' t (λ bytes i. let r = s bytes i in (with_unit u (answer bytes r.stop).blocks bytes, r.bytes, r.back.apart))) k
  where
    behind : 512 ≤ u.at
    behind = rw l (omega arith)

-- what a record of an exchange with this device asks
pub record Sized (us : List UnitSpec) (h : Head) (u : LogicalUnit) (dev : ℕ) : Type 0 where
  pub small : u.size ≤ 4096
  pub least : u.size ≤ greatest (take (length us) (units_of h))
  pub own : (get_or (take (length us) (units_of h)) dev no_spec).size ≡ u.size

pub is_sized : (us : List UnitSpec) (h : Head) (u : LogicalUnit) (len dev : ℕ) → Open us h len → dev < length us → u ≡ logical_of us dev → Sized us h u dev
is_sized us h u len dev o d l =
    let e : u.size ≡ (get_or us dev no_spec).size = ap (λ (v : LogicalUnit). v.size) l in
    let a = size_least (get_or us dev no_spec).size (size_here us dev o.layout d) in
    let b = size_most us dev d in
    let g : greatest (take (length us) (units_of h)) ≡ greatest us = ap greatest o.named in
    record {
      small = omega arith;
      least = omega arith;
      own = ap (λ v. (get_or v dev no_spec).size) o.named ∙ sym e;
    }

-- ---- room for records

greatest_spec : (us : List UnitSpec) → list_all is_spec us ≡ true → greatest us ≤ 4096
greatest_spec [] h = omega arith
greatest_spec (u ∷ us) h =
    let s = and_parts (is_spec u) (list_all is_spec us) h in
    let a = size_least u.size (spec_size u s.0) in
    let b = greatest_spec us s.1 in
    omega arith

-- Without devices it is 0.
pub greatest_small : (us : List UnitSpec) (h : Head) → (0 < length us → head_fault h ≡ None) → (0 < length us → us ≡ units_of h) → greatest us ≤ 4096
greatest_small [] h r d = omega arith
greatest_small (u ∷ us) h r d =
    let some : 0 < suc (length us) = omega arith in
    let l : is_layout (u ∷ us) ≡ true = ap is_layout (d some) ∙ right_layout h (r some) in
    let p = layout_parts (u ∷ us) l in
    greatest_spec (u ∷ us) p.2
