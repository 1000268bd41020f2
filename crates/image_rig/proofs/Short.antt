-- An image that was formatted in part is short of the whole, and isn't opened.
use Rattle.std.proofs.Common.{◌≡◌, ℕ, zero, suc, ◌+◌, ◌<◌, ◌≤◌, inl, inr, true, List, [], ◌∷◌, ◌++◌, length, take, drop, get_or, Option, Some, None, refl, sym, ap, subst, ◌∙◌, arith, append_assoc, length-append}
use Rattle.std.proofs.lemmas.List.{length-take, take-append-le}
use Rattle.dix_base.specs.Told.{Appended, Becomes}
use Rattle.pi_tuple.specs.declared.checks.PiType.{PiType}
use Rattle.rig_api.specs.Frames.{joined}
use Rattle.rig_api.specs.Headers.{header, image_size, is_layout, is_spec, version_for, version_of}
use Rattle.rig_api.specs.Image.{all_fresh, formatted, fresh, fresh_bytes, fresh_from}
use Rattle.rig_api.specs.declared.units.UnitSpec.{UnitSpec}
use Rattle.rig_api.proofs.FrameLaws.{stored_least}
use Rattle.rig_api.proofs.FreshBlocks.{fresh_long}
use Rattle.rig_api.specs.Head.{head_fault, head_of, specs_under, units_of}
use Rattle.rig_api.specs.Telling.{IsShortOf, LeavesShort}
use Rattle.rig_api.proofs.HeadLaws.{image_long}
use Rattle.image_rig.specs.Short.{AppendedShort}
use Rattle.image_rig.proofs.FreshHead.{header_long, right_head, units_back}
use Rattle.image_rig.proofs.Heads.{right_head as right_parts}

-- ---- fronts

-- behind the same bytes
pub behind : (xs whole part : List ℕ) → IsShortOf whole part → IsShortOf (xs ++ whole) (xs ++ part)
behind xs whole part s = record { byte = s.byte; rest = s.rest; whole_is = ap (λ v. xs ++ v) s.whole_is ∙ sym (append_assoc xs part (s.byte ∷ s.rest)) }

-- of more bytes
pub of_more : (whole more part : List ℕ) → IsShortOf whole part → IsShortOf (whole ++ more) part
of_more whole more part s = record { byte = s.byte; rest = s.rest ++ more; whole_is = ap (λ v. v ++ more) s.whole_is ∙ append_assoc part (s.byte ∷ s.rest) more }

-- none of them
pub none_came : (whole : List ℕ) → 1 ≤ length whole → IsShortOf whole []
none_came [] l = absurd (omega (arith, l))
none_came (b ∷ bs) l = record { byte = b; rest = bs; whole_is = refl }

-- ---- blocks and units

fresh_some : (ty : PiType) (size lba : ℕ) → 1 ≤ size → 1 ≤ length (fresh ty size lba)
fresh_some ty size lba s = let l = fresh_long ty size lba in let m = stored_least ty size in omega (arith, l, m, s)

pub size_some : (u : UnitSpec) → is_spec u ≡ true → 1 ≤ u.size
size_some u h = grind arith

-- fewer blocks of a unit
pub blocks_short : (ty : PiType) (size lba k n : ℕ) → 1 ≤ size → k < n → IsShortOf (joined (fresh_from ty size lba n)) (joined (fresh_from ty size lba k))
blocks_short ty size lba k zero s l = absurd (omega (arith, l))
blocks_short ty size lba zero (suc n) s l = of_more (fresh ty size lba) (joined (fresh_from ty size (lba + 1) n)) [] (none_came (fresh ty size lba) (fresh_some ty size lba s))
blocks_short ty size lba (suc k) (suc n) s l = behind (fresh ty size lba) (joined (fresh_from ty size (lba + 1) n)) (joined (fresh_from ty size (lba + 1) k)) (blocks_short ty size (lba + 1) k n s (omega (arith, l)))

units_cut : (us : List UnitSpec) (i : ℕ) (d : UnitSpec) → i < length us → fresh_bytes us ≡ fresh_bytes (take i us) ++ (joined (all_fresh (get_or us i d)) ++ fresh_bytes (drop (i + 1) us))
units_cut [] i d h = absurd (omega (arith, h))
units_cut (u ∷ us) zero d h = refl
units_cut (u ∷ us) (suc i) d h =
    let n : suc i + 1 ≡ suc (i + 1) = omega arith in
    rw n (ap (λ v. joined (all_fresh u) ++ v) (units_cut us i d (omega (arith, h))) ∙ sym (append_assoc (joined (all_fresh u)) (fresh_bytes (take i us)) (joined (all_fresh (get_or us i d)) ++ fresh_bytes (drop (i + 1) us))))

-- the first units, and a front of the next one
pub units_short : (us : List UnitSpec) (i : ℕ) (d : UnitSpec) (part : List ℕ) → i < length us → IsShortOf (joined (all_fresh (get_or us i d))) part → IsShortOf (formatted us) ((header (version_for us) us ++ fresh_bytes (take i us)) ++ part)
unfolding formatted
units_short us i d part l s =
    let h = header (version_for us) us in
    let before = fresh_bytes (take i us) in
    let unit = joined (all_fresh (get_or us i d)) in
    let rest = fresh_bytes (drop (i + 1) us) in
    let short : IsShortOf (h ++ (before ++ (unit ++ rest))) (h ++ (before ++ part)) = behind h (before ++ (unit ++ rest)) (before ++ part) (behind before (unit ++ rest) part (of_more unit rest part s)) in
    subst (λ v. IsShortOf (h ++ v) ((h ++ before) ++ part)) (sym (units_cut us i d l)) (subst (IsShortOf (h ++ (before ++ (unit ++ rest)))) (sym (append_assoc h before part)) short)

-- nothing yet
pub nothing_yet : (us : List UnitSpec) → is_layout us ≡ true → IsShortOf (formatted us) []
unfolding formatted
nothing_yet us h =
    let l = header_long us h in
    let a = length-append (header (version_for us) us) (fresh_bytes us) in
    none_came (header (version_for us) us ++ fresh_bytes us) (omega (arith, l, a))

-- ---- the image

-- one that is short has no right head
pub short_closed : (us : List UnitSpec) (image : List ℕ) → is_layout us ≡ true → IsShortOf (formatted us) image → head_fault (head_of image) ≡ None → ⊥
short_closed us image h s right =
    let whole = formatted us in
    let more = s.byte ∷ s.rest in
    let held : 512 ≤ length (take 512 image) = (right_parts (head_of image) right).whole in
    let long : 512 ≤ length image = omega (arith, held, length-take 512 image) in
    let first : take 512 image ≡ take 512 whole = sym (take-append-le 512 image more long) ∙ ap (take 512) (sym s.whole_is) in
    let units : units_of (head_of image) ≡ us = ap (λ f. specs_under (version_of (take 8 f)) f) first ∙ units_back us h in
    let here : length image ≡ image_size us = image_long (head_of image) image right refl ∙ ap image_size units in
    let there : length whole ≡ image_size us = image_long (head_of whole) whole (right_head us h) refl ∙ ap image_size (units_back us h) in
    let both : length whole ≡ length image + length more = ap length s.whole_is ∙ length-append image more in
    omega (arith, here, there, both)

-- what is left where the formatting ended for want of memory
pub left_short : (us : List UnitSpec) (old mid new : Option (List ℕ)) → is_layout us ≡ true → Becomes (λ was is. is ≡ []) old mid → AppendedShort (formatted us) mid new → LeavesShort (formatted us) old new
left_short us None None None h e s = tt
left_short us (Some was) (Some is) (Some new) h e s =
    let same : new ≡ s.0 = s.2 ∙ ap (λ v. v ++ s.0) e in
    let short : IsShortOf (formatted us) new = subst (IsShortOf (formatted us)) (sym same) s.1 in
    inr (short, λ right. short_closed us new h short right)
left_short us None (Some is) new h e s = absurd e
left_short us (Some was) None new h e s = absurd e
left_short us None None (Some new) h e s = absurd s.2
left_short us (Some was) (Some is) None h e s = absurd s.2

-- where all was written
pub left_whole : (whole : List ℕ) (old mid new : Option (List ℕ)) → Becomes (λ was is. is ≡ []) old mid → Appended whole mid new → Becomes (λ was is. is ≡ whole) old new
left_whole whole None None None e s = tt
left_whole whole (Some was) (Some is) (Some new) e s = s ∙ ap (λ v. v ++ whole) e
left_whole whole None (Some is) new e s = absurd e
left_whole whole (Some was) None new e s = absurd e
left_whole whole None None (Some new) e s = absurd s
left_whole whole (Some was) (Some is) None e s = absurd s

pub left_same : (whole : List ℕ) (old new : Option (List ℕ)) → new ≡ old → LeavesShort whole old new
left_same whole None None e = tt
left_same whole (Some a) (Some b) e = inl (let both : ◌≡◌ {A = Option (List ℕ)} (Some b) (Some a) = e in cc)
left_same whole None (Some b) e = absurd (cc)
left_same whole (Some a) None e = absurd (cc)
