-- What a head without a fault tells.
use Rattle.std.proofs.Common.{◌≡◌, ℕ, zero, suc, ◌+◌, ◌*◌, ◌<◌, ◌≤◌, Bool, true, false, ltb, eqb, List, [], ◌∷◌, length, take, get_or, Option, Some, None, refl, sym, ap, ◌∙◌, arith, ⊎_elim, rules, subst}
use Rattle.std.specs.Prelude.{if◌then◌else◌}
use Rattle.std.specs.List.{list_all}
use Rattle.std.proofs.Common.{◌⊎◌, inl, inr}
use Rattle.pi_tuple.specs.declared.checks.PiType.{PiType}
use Rattle.pi_tuple.specs.declared.checks.PiType.TheVariants.{Zero, One, Two, Three}
use Rattle.rig_api.specs.Frames.{stored_size}
use Rattle.std.specs.Prelude.{Result, Ok, Err, IsErrOf, min}
use Rattle.dix_base.specs.Stores.{StoreState, WasOpened, WasRead}
use Rattle.dix_base.specs.Told.{HasLength, IsRead}
use Rattle.std.proofs.lemmas.Bool.{cases_lt, eqb-true, ltb-false, lt-ltb, le-ltb}
use Rattle.std.proofs.lemmas.List.{take_all}
use Rattle.std.proofs.lemmas.Option.{same_Some}
use Rattle.image_rig.specs.Heads.{HasLooked, IsHeadFault, JudgesHead, called}
use Rattle.rig_api.specs.Telling.{Opened, OpenedBy, Standing, no_spec}
use Rattle.rig_api.specs.Head.{HasJudged, IsHeadOf, Head, head_fault, fault_of_header, fault_under, units_of, specs_under, version_in}
use Rattle.rig_api.specs.declared.rig.RigFault.{RigFault}
use Rattle.rig_api.specs.declared.rig.RigFault.TheVariants.{BadMagic, BadHeader, BadLength, Failed, Memory}
use Rattle.rig_api.specs.Headers.{all_bytes, bytes_of, image_size, is_header, is_layout, is_spec, specs_in}
use Rattle.rig_api.specs.declared.units.UnitSpec.{UnitSpec}
use Rattle.rig_api.specs.declared.units.Version.{Version}
use Rattle.small_laws.proofs.Tests.{and_first, and_second}

-- a head without a fault is of a version, has a header of it, and the length of that header's image
pub record RightHead (h : Head) : Type 0 where
  pub version : Version
  pub names : version_in h ≡ Some version
  pub whole : 512 ≤ length h.first
  pub header : is_header version h.first ≡ true
  pub size : h.size ≡ image_size (specs_in version h.first)

right_length : (d : Bool) → (if d then None else Some BadLength) ≡ None → d ≡ true
right_length true e = refl
right_length false e = absurd (cc)

right_table : (good : Bool) (has wants : ℕ) → fault_of_header good has wants ≡ None → (good ≡ true) × (has ≡ wants)
right_table true has wants e = (refl, eqb-true has wants (right_length (eqb has wants) e))
right_table false has wants e = absurd (cc)

right_bytes : (short good : Bool) (has wants : ℕ) → (if short then Some BadLength else fault_of_header good has wants) ≡ None → (short ≡ false) × (good ≡ true) × (has ≡ wants)
right_bytes true good has wants e = absurd (cc)
right_bytes false good has wants e = let r = right_table good has wants e in (refl, r.0, r.1)

right_under : (h : Head) (v : Option Version) → version_in h ≡ v → fault_under v h ≡ None → RightHead h
right_under h None n e = absurd (cc)
right_under h (Some v) n e =
    let r = right_bytes (ltb (length h.first) 512) (is_header v h.first) h.size (image_size (specs_in v h.first)) e in
    record { version = v; names = n; whole = ltb-false (length h.first) 512 r.0; header = r.1; size = r.2 }

pub right_head : (h : Head) → head_fault h ≡ None → RightHead h
unfolding head_fault
right_head h e = right_under h (version_in h) refl e

pub fault_none : (h : Head) → version_in h ≡ None → Some BadMagic ≡ head_fault h
unfolding head_fault
fault_none h n = ap (λ v. fault_under v h) (sym n)

pub fault_short : (h : Head) (v : Version) → version_in h ≡ Some v → length h.first < 512 → Some BadLength ≡ head_fault h
unfolding head_fault
fault_short h v n l =
    let e = lt-ltb (length h.first) 512 l in
    ap (λ b. if b then Some BadLength else fault_of_header (is_header v h.first) h.size (image_size (specs_in v h.first))) (sym e) ∙ ap (λ w. fault_under w h) (sym n)

pub fault_table : (h : Head) (v : Version) → version_in h ≡ Some v → 512 ≤ length h.first → fault_of_header (is_header v h.first) h.size (image_size (specs_in v h.first)) ≡ head_fault h
unfolding head_fault
fault_table h v n l =
    let e = le-ltb (length h.first) 512 l in
    ap (λ b. if b then Some BadLength else fault_of_header (is_header v h.first) h.size (image_size (specs_in v h.first))) (sym e) ∙ ap (λ w. fault_under w h) (sym n)

-- the units of such a head
pub right_units : (h : Head) (r : RightHead h) → units_of h ≡ specs_in r.version h.first
right_units h r = ap (λ v. specs_under v h.first) r.names

-- ---- their layout

pub right_size : (h : Head) → head_fault h ≡ None → h.size ≡ image_size (units_of h)
right_size h e = let r = right_head h e in r.size ∙ ap image_size (sym (right_units h r))

pub layout_parts : (us : List UnitSpec) → is_layout us ≡ true → (1 ≤ length us) × (length us ≤ 8) × (list_all is_spec us ≡ true)
layout_parts us h = grind arith

pub spec_at : (us : List UnitSpec) (i : ℕ) (d : UnitSpec) → list_all is_spec us ≡ true → i < length us → is_spec (get_or us i d) ≡ true
spec_at [] i d h l = absurd (omega arith)
spec_at (u ∷ us) zero d h l = and_first (is_spec u) (list_all is_spec us) h
spec_at (u ∷ us) (suc i) d h l = spec_at us i d (and_second (is_spec u) (list_all is_spec us) h) (omega arith)

pub spec_here : (us : List UnitSpec) (dev : ℕ) → is_layout us ≡ true → dev < length us → is_spec (get_or us dev no_spec) ≡ true
spec_here us dev l d = let p = layout_parts us l in spec_at us dev no_spec p.2 d

stored_most : (ty : PiType) (size : ℕ) → stored_size ty size ≤ size + 8
stored_most Zero size = omega arith
stored_most One size = omega arith
stored_most Two size = omega arith
stored_most Three size = omega arith

mul-le-mul : (a b c d : ℕ) → a ≤ b → c ≤ d → a * c ≤ b * d
mul-le-mul a b c d h k = grind arith

-- a unit has at most so many bytes
pub bytes_small : (u : UnitSpec) → is_spec u ≡ true → bytes_of u ≤ 34078720
bytes_small u h = on u.ty u.size u.blocks (grind arith)
  where
    on : (ty : PiType) (size blocks : ℕ) → ((size ≡ 512) × (blocks ≤ 65536)) ⊎ ((size ≡ 4096) × (blocks ≤ 8192)) → blocks * stored_size ty size ≤ 34078720
    on ty size blocks (inl h) = let s = stored_most ty size in let m = mul-le-mul blocks 65536 (stored_size ty size) 520 h.1 (let e = h.0 in omega arith) in m
    on ty size blocks (inr h) = let s = stored_most ty size in let m = mul-le-mul blocks 8192 (stored_size ty size) 4104 h.1 (let e = h.0 in omega arith) in omega arith

-- one unit's bytes more
pub bytes_more : (us : List UnitSpec) (i : ℕ) (d : UnitSpec) → i < length us → all_bytes (take (i + 1) us) ≡ all_bytes (take i us) + bytes_of (get_or us i d)
bytes_more [] i d h = absurd (omega arith)
bytes_more (u ∷ us) zero d h = omega arith
bytes_more (u ∷ us) (suc i) d h =
    let k : suc i + 1 ≡ suc (i + 1) = omega arith in
    let e = bytes_more us i d (omega arith) in
    rw k (omega arith)

pub same_version : (h : Head) (r : RightHead h) (v : Version) → version_in h ≡ Some v → r.version ≡ v
same_version h r v e = same_Some r.version v (sym r.names ∙ e)

pub has_version : (h : Head) → head_fault h ≡ None → version_in h ≡ None → ⊥
has_version h e n = let r = right_head h e in none_some (sym n ∙ r.names)
  where
    none_some : {v : Version} → None ≡ Some v → ⊥
    none_some e = cc

-- ---- a head that was read

head_bytes : (have : ℕ) (xs : List ℕ) → have ≡ min (length xs) 512 → take have xs ≡ take 512 xs
head_bytes have xs e =
    ⊎_elim
    (λ (h : length xs < 512). let m : have ≡ length xs = omega arith in take_all have xs (omega arith) ∙ sym (take_all 512 xs (omega arith)))
    (λ (h : 512 ≤ length xs). let m : have ≡ 512 = omega arith in ap (λ n. take n xs) m)
    (cases_lt (length xs) 512)

pub same_head : (h k : Head) → h.size ≡ k.size → h.first ≡ k.first → h ≡ k
same_head h k a b = ap (λ n. record { size = n; first = h.first }) a ∙ ap (λ f. record { size = k.size; first = f }) b

pub head_told : (size have : ℕ) (first : List ℕ) (bytes : Option (List ℕ)) → have ≡ min size 512 → HasLength size bytes → IsRead 0 have (take have first) bytes →
    IsHeadOf (record { size = size; first = take have first }) bytes
head_told size have first None m l r = tt
head_told size have first (Some ys) m l r = same_head (record { size = size; first = take have first }) (record { size = length ys; first = take 512 ys }) l (r ∙ head_bytes have ys (omega arith))

-- ---- its judgement

length_only : (same : Bool) (f : RigFault) → (if same then None else Some BadLength) ≡ Some f → IsHeadFault f
length_only true f e = absurd (cc)
length_only false f e = subst IsHeadFault (same_Some BadLength f e) tt

table_only : (short good : Bool) (has wants : ℕ) (f : RigFault) → (if short then Some BadLength else fault_of_header good has wants) ≡ Some f → IsHeadFault f
table_only true good has wants f e = subst IsHeadFault (same_Some BadLength f e) tt
table_only false true has wants f e = length_only (eqb has wants) f e
table_only false false has wants f e = subst IsHeadFault (same_Some BadHeader f e) tt

a_head_fault : (h : Head) (v : Option Version) (f : RigFault) → fault_under v h ≡ Some f → IsHeadFault f
a_head_fault h None f e = subst IsHeadFault (same_Some BadMagic f e) tt
a_head_fault h (Some v) f e = table_only (ltb (length h.first) 512) (is_header v h.first) h.size (image_size (specs_in v h.first)) f e

pub is_head_fault : (h : Head) (f : RigFault) → head_fault h ≡ Some f → IsHeadFault f
unfolding head_fault
is_head_fault h f e = a_head_fault h (version_in h) f e

pub never_failed : {X : Type 0} (r : Result X RigFault) → JudgesHead r → IsErrOf r Failed → ⊥
never_failed (Ok x) j e = search rules
never_failed (Err BadMagic) j e = search rules
never_failed (Err BadHeader) j e = search rules
never_failed (Err BadLength) j e = search rules
never_failed (Err Failed) j e = j
never_failed (Err Memory) j e = j

pub has_judged : {X : Type 0} (r : Result X RigFault) (old new : Head) (image : Option (List ℕ)) → JudgesHead r → IsHeadOf new image → HasJudged r old new image
has_judged (Ok x) old new image j h = h
has_judged (Err BadMagic) old new image j h = h
has_judged (Err BadHeader) old new image j h = h
has_judged (Err BadLength) old new image j h = h
has_judged (Err Failed) old new image j h = absurd j
has_judged (Err Memory) old new image j h = absurd j

-- ---- an image that was looked at

pub opened_by : {X : Type 0} (r : Result X RigFault) (name : List ℕ) (old new : Standing) → Opened name old new → OpenedBy r name old new
opened_by (Ok x) name old new o = o
opened_by (Err BadMagic) name old new o = o
opened_by (Err BadHeader) name old new o = o
opened_by (Err BadLength) name old new o = o
opened_by (Err Failed) name old new o = o
opened_by (Err Memory) name old new o = tt

-- the content was opened, and its first bytes were read
pub has_looked : {X : Type 0} (r : Result X RigFault) (name : List ℕ) (old mid new : StoreState) → JudgesHead r → mid.bytes ≡ old.bytes → WasOpened name old mid → WasRead mid new → HasLooked r name old new
has_looked r name old mid new j s o w =
    let once : Opened name (called old) (called new) = (w.opened ∙ o.opened, w.named ∙ o.named) in
    let a = o.count in
    let b = w.count in
    record {
      same = w.same ∙ s;
      opening = inr once;
      opened = opened_by r name (called old) (called new) once;
      failed = λ e. absurd (never_failed r j e);
      count = omega arith;
    }
