-- The header of version 2 tells the units that it was written from.
use Rattle.std.proofs.Common.{◌≡◌, ℕ, ◌+◌, ◌-◌, ◌*◌, ◌^◌, ◌<◌, ◌≤◌, true, List, [], ◌∷◌, ◌++◌, length, take, drop, replicate, map, Option, Some, None, refl, sym, ap, ◌∙◌, arith, append_assoc, length-append}
use Rattle.std.specs.Prelude.{min}
use Rattle.std.specs.Int.{w16, to_be_bytes, from_be_bytes}
use Rattle.std.specs.List.{list_all}
use Rattle.std.proofs.lemmas.Nat.{from_be_bytes-to_be_bytes_2, from_be_bytes-to_be_bytes_8}
use Rattle.std.proofs.lemmas.List.{drop_at, take_at, length-replicate}
use Rattle.std.proofs.lemmas.Bool.{and_parts}
use Rattle.dix_base.specs.Told.{Apart, Becomes, over}
use Rattle.pi_tuple.specs.declared.checks.PiType.{PiType}
use Rattle.pi_tuple.specs.declared.checks.PiType.TheVariants.{Zero, One, Two, Three}
use Rattle.rig_api.specs.Frames.{joined}
use Rattle.rig_api.specs.Headers.{entry_of, exponent_of, header, is_layout, is_spec, magic_of, number_of, size_of, spec_of, specs_from, specs_in, type_of, version_of}
use Rattle.rig_api.specs.Image.{migrated, units_from, units_in}
use Rattle.rig_api.specs.declared.units.UnitSpec.{UnitSpec}
use Rattle.rig_api.specs.declared.units.Version.TheVariants.{Second}
use Rattle.rig_api.specs.Head.{Head, IsHeadOf, head_of, specs_under, units_of, version_in}
use Rattle.rig_api.specs.Telling.{KeepsBlocks, KeepsUnits, own_units}
use Rattle.image_rig.proofs.Heads.{layout_parts}

pub type_back : (ty : PiType) → type_of (number_of ty) ≡ ty
type_back Zero = refl
type_back One = refl
type_back Two = refl
type_back Three = refl

-- a unit of an image has one of two block sizes, and numbers that eight bytes tell
pub record Told (u : UnitSpec) : Type 0 where
  pub size : size_of (exponent_of u.size) ≡ u.size
  pub blocks : u.blocks < 2 ^ 64
  pub first : u.first < 2 ^ 64

pub spec_told : (u : UnitSpec) → is_spec u ≡ true → Told u
spec_told u h = record { size = grind arith; blocks = grind arith; first = grind arith }

pub same_spec : (u : UnitSpec) (t : PiType) (b s f : ℕ) → t ≡ u.ty → b ≡ u.blocks → s ≡ u.size → f ≡ u.first → record { ty = t; blocks = b; size = s; first = f } ≡ u
same_spec u t b s f et eb es ef = rw (et, eb, es, ef) refl

entry_back : (u : UnitSpec) (rest : List ℕ) → is_spec u ≡ true → spec_of Second (entry_of Second u ++ rest) ≡ u
entry_back u rest h =
    let t = spec_told u h in
    same_spec u _ _ _ _ (type_back u.ty) (from_be_bytes-to_be_bytes_8 u.blocks t.blocks) t.size (from_be_bytes-to_be_bytes_8 u.first t.first)

entry_long : (u : UnitSpec) → length (entry_of Second u) ≡ 32
entry_long u = refl

entries_back : (us : List UnitSpec) (rest : List ℕ) → list_all is_spec us ≡ true → specs_from Second (length us) (joined (map (entry_of Second) us) ++ rest) ≡ us
entries_back [] rest h = refl
entries_back (u ∷ us) rest h =
    let s = and_parts (is_spec u) (list_all is_spec us) h in
    let a = append_assoc (entry_of Second u) (joined (map (entry_of Second) us)) rest in
    let d : drop 32 ((entry_of Second u ++ joined (map (entry_of Second) us)) ++ rest) ≡ joined (map (entry_of Second) us) ++ rest =
    ap (drop 32) a ∙ drop_at (entry_of Second u) (joined (map (entry_of Second) us) ++ rest) 32 (entry_long u) in
    ap (λ b. spec_of Second b ∷ specs_from Second (length us) (drop 32 ((entry_of Second u ++ joined (map (entry_of Second) us)) ++ rest))) a
    ∙ ap (λ v. v ∷ specs_from Second (length us) (drop 32 ((entry_of Second u ++ joined (map (entry_of Second) us)) ++ rest))) (entry_back u (joined (map (entry_of Second) us) ++ rest) s.0)
    ∙ ap (λ b. u ∷ specs_from Second (length us) b) d
    ∙ ap (λ vs. u ∷ vs) (entries_back us rest s.1)

entries_long : (us : List UnitSpec) → length (joined (map (entry_of Second) us)) ≡ 32 * length us
entries_long [] = refl
entries_long (u ∷ us) = let e = entries_long us in let a = length-append (entry_of Second u) (joined (map (entry_of Second) us)) in let b = entry_long u in omega arith

pub header_long : (us : List UnitSpec) → length us ≤ 8 → length (header Second us) ≡ 512
unfolding header
header_long us h =
    let j = joined (map (entry_of Second) us) in
    let body = magic_of Second ++ (to_be_bytes w16 (length us) ++ (0 ∷ 0 ∷ 0 ∷ 0 ∷ 0 ∷ 0 ∷ j)) in
    let e = entries_long us in
    let l : length body ≡ 16 + length j = omega arith in
    let r = length-replicate {A = ℕ} (512 - length body) 0 in
    let a = length-append body (replicate (512 - length body) 0) in
    omega arith

pub header_back : (us : List UnitSpec) → is_layout us ≡ true → specs_in Second (header Second us) ≡ us
unfolding header specs_in
header_back us h =
    let p = layout_parts us h in
    let n : min (from_be_bytes w16 (to_be_bytes w16 (length us))) 8 ≡ length us = (let e = from_be_bytes-to_be_bytes_2 (length us) (let q = p.1 in omega arith) in let q = p.1 in omega arith) in
    let j = joined (map (entry_of Second) us) in
    let body = magic_of Second ++ (to_be_bytes w16 (length us) ++ (0 ∷ 0 ∷ 0 ∷ 0 ∷ 0 ∷ 0 ∷ j)) in
    let zeros = replicate {A = ℕ} (512 - length body) 0 in
    ap (λ k. specs_from Second k (j ++ zeros)) n ∙ entries_back us zeros p.2

-- ---- an image with that header

pub over_header : (us : List UnitSpec) (hdr was is : List ℕ) → length us ≤ 8 → hdr ≡ header Second us → is ≡ over 0 hdr was → is ≡ migrated us was
over_header us hdr was is h e o =
    let k : length hdr ≡ 512 = ap length e ∙ header_long us h in
    let l : 0 + length hdr ≡ 512 = omega arith in
    o ∙ ap (λ n. hdr ++ drop n was) l ∙ ap (λ b. b ++ drop 512 was) e

pub kept_behind : (n : ℕ) (was is : List ℕ) → n ≡ 512 → Apart 0 n was is → (length is ≡ length was) × (drop 512 is ≡ drop 512 was)
kept_behind n was is e a = let f : 0 + n ≡ 512 = omega arith in (a.0, ap (λ k. drop k is) (sym f) ∙ (a.2 ∙ ap (λ k. drop k was) f))

head_front : (us : List UnitSpec) (was : List ℕ) → length us ≤ 8 → take 512 (migrated us was) ≡ header Second us
head_front us was h = take_at (header Second us) (drop 512 was) 512 (header_long us h)

second_text : (us : List UnitSpec) → take 8 (header Second us) ≡ magic_of Second
unfolding header
second_text us = refl

pub own_kept : (us : List UnitSpec) (was : List ℕ) → is_layout us ≡ true → us ≡ units_of (head_of was) → own_units (migrated us was) ≡ own_units was
own_kept us was h e =
    let p = layout_parts us h in
    let f = head_front us was p.1 in
    let v : version_in (head_of (migrated us was)) ≡ Some Second = ap (λ b. version_of (take 8 b)) f ∙ ap version_of (second_text us) in
    let u : units_of (head_of (migrated us was)) ≡ us = units_second (head_of (migrated us was)) v ∙ ap (specs_in Second) f ∙ header_back us h in
    let d : drop 512 (migrated us was) ≡ drop 512 was = drop_at (header Second us) (drop 512 was) 512 (header_long us p.1) in
    ap (λ w. units_in w (migrated us was)) u ∙ same_units us (migrated us was) was d ∙ ap (λ w. units_in w was) e
  where
    units_second : (h : Head) → version_in h ≡ Some Second → units_of h ≡ specs_in Second h.first
    units_second h v = ap (λ w. specs_under w h.first) v

    same_units : (us : List UnitSpec) (a b : List ℕ) → drop 512 a ≡ drop 512 b → units_in us a ≡ units_in us b
    same_units us a b e = ap (units_from us) e

pub kept_units : (us : List UnitSpec) (was is : List ℕ) → is_layout us ≡ true → us ≡ units_of (head_of was) → is ≡ migrated us was → own_units is ≡ own_units was
kept_units us was is h e m = ap own_units m ∙ own_kept us was h e

-- where the image is told
pub keeps_units : (us : List UnitSpec) (h : Head) (a b : Option (List ℕ)) → is_layout us ≡ true → us ≡ units_of h → IsHeadOf h a → Becomes (λ was is. is ≡ migrated us was) a b → KeepsUnits a b
keeps_units us h None None l e t m = tt
keeps_units us h None (Some b) l e t m = absurd m
keeps_units us h (Some a) None l e t m = absurd m
keeps_units us h (Some a) (Some b) l e t m = kept_units us a b l (e ∙ ap units_of t) m

pub keeps_same : (b : Option (List ℕ)) → KeepsBlocks b b
keeps_same None = tt
keeps_same (Some x) = (refl, refl)
