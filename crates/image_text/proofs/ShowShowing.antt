-- How the text of a stretch's blocks grows, piece by piece.
use Rattle.std.proofs.Common.{◌≡◌, ℕ, suc, ◌+◌, ◌≤◌, Bool, List, [], ◌∷◌, ◌++◌, length, Option, Some, None, refl, sym, ap, subst, ◌∙◌, arith, append_assoc, append-nil, length-append}
use Rattle.std.specs.Prelude.{min, Result, Ok, Err}
use Rattle.dix_base.specs.Told.{Appended, AppendedSome, HasLength}
use Rattle.dix_base.proofs.Appending.{appended_none, appended_both}
use Rattle.pi_tuple.specs.declared.checks.Check.{Check}
use Rattle.pi_tuple.specs.declared.checks.PiType.{PiType}
use Rattle.pi_scrub.specs.Faults.{faults_from, listed, stored_finding}
use Rattle.report_text.proofs.Flow.{part_first, part_second, whole_is_part}
use Rattle.rig_api.specs.Headers.{image_size}
use Rattle.rig_api.specs.declared.units.UnitSpec.{UnitSpec}
use Rattle.image_text.specs.ShowText.{count_bad, count_unchecked, first_line, image_text, last_line}
use Rattle.image_text.specs.Sights.{block_text, is_unchecked, verdict_of}
use Rattle.image_text.specs.declared.show.Tally.{Tally}
use Rattle.image_blocks.specs.declared.stretch.Stretch.{Stretch}
use Rattle.image_blocks.specs.Blocks.{HasStretch}
use Rattle.image_blocks.specs.Places.{IsStretch, behind_in, front_in, spec_of}
use Rattle.image_blocks.proofs.Stretches.{has_both, has_none, has_some}
use Rattle.image_blocks.proofs.Walks.{behind_is}
use Rattle.dix_base.proofs.Counts.{rose_later}
use Rattle.image_blocks.specs.declared.fault.WalkFault.{WalkFault}
use Rattle.image_blocks.specs.declared.fault.WalkFault.TheVariants.{Store, Sink}
use Rattle.image_text.specs.Shown.{HasShown, HasShownSome, ShowEnds, bad_of, both, lines_of, text_of, unchecked_of}
use Rattle.image_text.proofs.Comparing.{one_if_few}

-- ---- lines and counts of blocks behind others

lines_more : (only_bad : Bool) (dev : ℕ) (ty : PiType) (size lba : ℕ) (xs ys : List (List ℕ)) → image_text only_bad dev ty size lba (xs ++ ys) ≡ image_text only_bad dev ty size lba xs ++ image_text only_bad dev ty size (lba + length xs) ys
lines_more only_bad dev ty size lba [] ys = ap (λ n. image_text only_bad dev ty size n ys) (let e : lba ≡ lba + 0 = omega arith in e)
lines_more only_bad dev ty size lba (x ∷ xs) ys =
    let e : lba + 1 + length xs ≡ lba + suc (length xs) = omega arith in
    ap (λ v. block_text only_bad dev ty size lba x ++ v) (lines_more only_bad dev ty size (lba + 1) xs ys ∙ ap (λ n. image_text only_bad dev ty size (lba + 1) xs ++ image_text only_bad dev ty size n ys) e)
    ∙ sym (append_assoc (block_text only_bad dev ty size lba x) (image_text only_bad dev ty size (lba + 1) xs) (image_text only_bad dev ty size (lba + suc (length xs)) ys))

bad_more : (ty : PiType) (size dev lba : ℕ) (xs ys : List (List ℕ)) → count_bad ty size dev lba (xs ++ ys) ≡ count_bad ty size dev lba xs + count_bad ty size dev (lba + length xs) ys
bad_more ty size dev lba [] ys = ap (λ n. count_bad ty size dev n ys) (let e : lba ≡ lba + 0 = omega arith in e) ∙ (omega arith)
bad_more ty size dev lba (x ∷ xs) ys =
    let e : lba + 1 + length xs ≡ lba + suc (length xs) = omega arith in
    let one = listed dev lba (stored_finding ty size lba x) in
    let a = length-append one (faults_from ty size dev (lba + 1) (xs ++ ys)) in
    let b = length-append one (faults_from ty size dev (lba + 1) xs) in
    let c : count_bad ty size dev (lba + 1) (xs ++ ys) ≡ count_bad ty size dev (lba + 1) xs + count_bad ty size dev (lba + suc (length xs)) ys =
    bad_more ty size dev (lba + 1) xs ys ∙ ap (λ n. count_bad ty size dev (lba + 1) xs + count_bad ty size dev n ys) e in
    omega arith

one_at_most : (dev lba : ℕ) (found : Option Check) → length (listed dev lba found) ≤ 1
one_at_most dev lba None = omega arith
one_at_most dev lba (Some check) = omega arith

pub few_bad : (ty : PiType) (size dev lba : ℕ) (xs : List (List ℕ)) → count_bad ty size dev lba xs ≤ length xs
few_bad ty size dev lba [] = omega arith
few_bad ty size dev lba (x ∷ xs) =
    let one = listed dev lba (stored_finding ty size lba x) in
    let a = length-append one (faults_from ty size dev (lba + 1) xs) in
    let b = one_at_most dev lba (stored_finding ty size lba x) in
    let c = few_bad ty size dev (lba + 1) xs in
    omega arith

unchecked_more : (ty : PiType) (size lba : ℕ) (xs ys : List (List ℕ)) → count_unchecked ty size lba (xs ++ ys) ≡ count_unchecked ty size lba xs + count_unchecked ty size (lba + length xs) ys
unchecked_more ty size lba [] ys = ap (λ n. count_unchecked ty size n ys) (let e : lba ≡ lba + 0 = omega arith in e) ∙ (omega arith)
unchecked_more ty size lba (x ∷ xs) ys =
    let e : lba + 1 + length xs ≡ lba + suc (length xs) = omega arith in
    let c : count_unchecked ty size (lba + 1) (xs ++ ys) ≡ count_unchecked ty size (lba + 1) xs + count_unchecked ty size (lba + suc (length xs)) ys =
    unchecked_more ty size (lba + 1) xs ys ∙ ap (λ n. count_unchecked ty size (lba + 1) xs + count_unchecked ty size n ys) e in
    omega arith

few_unchecked : (ty : PiType) (size lba : ℕ) (xs : List (List ℕ)) → count_unchecked ty size lba xs ≤ length xs
few_unchecked ty size lba [] = omega arith
few_unchecked ty size lba (x ∷ xs) =
    let b = one_if_few (is_unchecked (verdict_of ty size lba x)) in
    let c = few_unchecked ty size (lba + 1) xs in
    omega arith

-- ---- a walk along a stretch

-- The lines of the first blocks were written, and these are left.
pub record SoFar (only_bad : Bool) (us : List UnitSpec) (s left : Stretch) (image : Option (List ℕ)) (tally : Tally) (old now : Option (List ℕ)) : Type 0 where
  pub blocks : List (List ℕ)
  pub whole : (rest : List (List ℕ)) → HasStretch us left rest image → HasStretch us s (blocks ++ rest) image
  pub dev : left.dev ≡ s.dev
  pub first : left.first ≡ s.first + length blocks
  pub few : length blocks + left.count ≡ s.count
  pub bad : tally.bad ≡ bad_of us s blocks
  pub unchecked : tally.unchecked ≡ unchecked_of us s blocks
  pub written : Appended (lines_of only_bad us s blocks) old now

pub at_first : (only_bad : Bool) (us : List UnitSpec) (s : Stretch) (image x : Option (List ℕ)) → SoFar only_bad us s s image (record { bad = 0; unchecked = 0 }) x x
at_first only_bad us s image x = record { blocks = []; whole = λ rest h. h; dev = refl; first = omega arith; few = omega arith; bad = refl; unchecked = refl; written = appended_none x }

-- the lines of what is left stand behind those of the first blocks
lines_behind : (only_bad : Bool) (us : List UnitSpec) (s left : Stretch) (xs ys : List (List ℕ)) → left.dev ≡ s.dev → left.first ≡ s.first + length xs → lines_of only_bad us s (xs ++ ys) ≡ lines_of only_bad us s xs ++ lines_of only_bad us left ys
lines_behind only_bad us s left xs ys d f =
    lines_more only_bad s.dev (spec_of us s.dev).ty (spec_of us s.dev).size s.first xs ys
    ∙ ap (λ n. lines_of only_bad us s xs ++ image_text only_bad s.dev (spec_of us s.dev).ty (spec_of us s.dev).size n ys) (sym f)
    ∙ ap (λ n. lines_of only_bad us s xs ++ image_text only_bad n (spec_of us n).ty (spec_of us n).size left.first ys) (sym d)

bad_behind : (us : List UnitSpec) (s left : Stretch) (xs ys : List (List ℕ)) → left.dev ≡ s.dev → left.first ≡ s.first + length xs → bad_of us s (xs ++ ys) ≡ bad_of us s xs + bad_of us left ys
bad_behind us s left xs ys d f =
    bad_more (spec_of us s.dev).ty (spec_of us s.dev).size s.dev s.first xs ys
    ∙ ap (λ n. bad_of us s xs + count_bad (spec_of us s.dev).ty (spec_of us s.dev).size s.dev n ys) (sym f)
    ∙ ap (λ n. bad_of us s xs + count_bad (spec_of us n).ty (spec_of us n).size n left.first ys) (sym d)

unchecked_behind : (us : List UnitSpec) (s left : Stretch) (xs ys : List (List ℕ)) → left.dev ≡ s.dev → left.first ≡ s.first + length xs → unchecked_of us s (xs ++ ys) ≡ unchecked_of us s xs + unchecked_of us left ys
unchecked_behind us s left xs ys d f =
    unchecked_more (spec_of us s.dev).ty (spec_of us s.dev).size s.first xs ys
    ∙ ap (λ n. unchecked_of us s xs + count_unchecked (spec_of us s.dev).ty (spec_of us s.dev).size n ys) (sym f)
    ∙ ap (λ n. unchecked_of us s xs + count_unchecked (spec_of us n).ty (spec_of us n).size left.first ys) (sym d)

-- the lines of a piece were written
further : (only_bad : Bool) (us : List UnitSpec) (s left : Stretch) (most : ℕ) (tally more : Tally) (image old mid new : Option (List ℕ)) → IsStretch us left → SoFar only_bad us s left image tally old mid →
    HasShown (lines_of only_bad us (front_in left most)) us (front_in left most) image more mid new → SoFar only_bad us s (behind_in left (min left.count most)) image (both tally more) old new
further only_bad us s left most tally more image old mid new h l p =
    let n = p.has.many in
    let a = length-append l.blocks p.blocks in
    let f = l.first in
    let k = l.few in
    let b = bad_behind us s left l.blocks p.blocks l.dev l.first in
    let u = unchecked_behind us s left l.blocks p.blocks l.dev l.first in
    let c = l.bad in
    let d = p.bad in
    let v = l.unchecked in
    let w = p.unchecked in
    record {
      blocks = l.blocks ++ p.blocks;
      whole = λ rest r. subst (λ v. HasStretch us s v image) (sym (append_assoc l.blocks p.blocks rest)) (l.whole (p.blocks ++ rest) (has_both us left (min left.count most) p.blocks rest image h (omega arith) p.has r));
      dev = l.dev;
      first = omega arith;
      few = omega arith;
      bad = omega arith;
      unchecked = omega arith;
      written = subst (λ t. Appended t old new) (sym (lines_behind only_bad us s left l.blocks p.blocks l.dev l.first)) (appended_both (lines_of only_bad us s l.blocks) (lines_of only_bad us left p.blocks) old mid new l.written p.written);
    }

pub goes_on : (only_bad : Bool) (us : List UnitSpec) (s left piece next : Stretch) (most : ℕ) (tally more : Tally) (image old mid new : Option (List ℕ)) → IsStretch us left → SoFar only_bad us s left image tally old mid →
    piece ≡ front_in left most → next ≡ behind_in left piece.count → HasShown (lines_of only_bad us piece) us piece image more mid new → SoFar only_bad us s next image (both tally more) old new
goes_on only_bad us s left piece next most tally more image old mid new h l e f p =
    subst (λ v. SoFar only_bad us s v image (both tally more) old new) (sym (f ∙ ap (λ (v : Stretch). behind_in left v.count) e))
    (further only_bad us s left most tally more image old mid new h l (subst (λ (v : Stretch). HasShown (lines_of only_bad us v) us v image more mid new) e p))

-- No more are at fault than there are.
pub few_counted : (only_bad : Bool) (us : List UnitSpec) (s left piece : Stretch) (most : ℕ) (tally more : Tally) (image was old mid new : Option (List ℕ)) → SoFar only_bad us s left image tally old mid → piece ≡ front_in left most → HasShown (lines_of only_bad us piece) us piece was more mid new → tally.bad + more.bad ≤ s.count
few_counted only_bad us s left piece most tally more image was old mid new l e p =
    let a = few_bad (spec_of us s.dev).ty (spec_of us s.dev).size s.dev s.first l.blocks in
    let b = few_bad (spec_of us piece.dev).ty (spec_of us piece.dev).size piece.dev piece.first p.blocks in
    let c : piece.count ≡ min left.count most = ap (λ (v : Stretch). v.count) e in
    let d = l.few in
    let f = l.bad in
    let i = p.bad in
    let n = p.has.many in
    omega arith

-- No more are unchecked than there are.
pub few_left_out : (only_bad : Bool) (us : List UnitSpec) (s left piece : Stretch) (most : ℕ) (tally more : Tally) (image was old mid new : Option (List ℕ)) → SoFar only_bad us s left image tally old mid → piece ≡ front_in left most → HasShown (lines_of only_bad us piece) us piece was more mid new → tally.unchecked + more.unchecked ≤ s.count
few_left_out only_bad us s left piece most tally more image was old mid new l e p =
    let a = few_unchecked (spec_of us s.dev).ty (spec_of us s.dev).size s.first l.blocks in
    let b = few_unchecked (spec_of us piece.dev).ty (spec_of us piece.dev).size piece.first p.blocks in
    let c : piece.count ≡ min left.count most = ap (λ (v : Stretch). v.count) e in
    let d = l.few in
    let f = l.unchecked in
    let i = p.unchecked in
    let n = p.has.many in
    omega arith

-- of a piece only the beginning was
broken : (only_bad : Bool) (us : List UnitSpec) (s left : Stretch) (most : ℕ) (tally : Tally) (len : ℕ) (image old mid new : Option (List ℕ)) → IsStretch us left → IsStretch us (behind_in left (min left.count most)) → len ≡ image_size us → HasLength len image → SoFar only_bad us s left image tally old mid →
    HasShownSome (lines_of only_bad us (front_in left most)) us (front_in left most) image mid new → HasShownSome (lines_of only_bad us s) us s image old new
broken only_bad us s left most tally len image old mid new h g z t l p =
    let r = has_some us (behind_in left (min left.count most)) len image g z t in
    let n = p.has.many in
    record {
      blocks = l.blocks ++ (p.blocks ++ r.0);
      has = l.whole (p.blocks ++ r.0) (has_both us left (min left.count most) p.blocks r.0 image h (omega arith) p.has r.1);
      written = subst (λ v. AppendedSome v old new) (sym (lines_behind only_bad us s left l.blocks (p.blocks ++ r.0) l.dev l.first
          ∙ ap (λ v. lines_of only_bad us s l.blocks ++ v) (lines_behind only_bad us left (behind_in left (min left.count most)) p.blocks r.0 refl (omega arith))))
          (part_second (lines_of only_bad us s l.blocks) _ old mid new l.written (part_first (lines_of only_bad us left p.blocks) _ mid new p.written));
    }

pub breaks_off : (only_bad : Bool) (us : List UnitSpec) (s left piece : Stretch) (most : ℕ) (tally : Tally) (len : ℕ) (image old mid new : Option (List ℕ)) → IsStretch us left → len ≡ image_size us → HasLength len image → SoFar only_bad us s left image tally old mid →
    piece ≡ front_in left most → HasShownSome (lines_of only_bad us piece) us piece image mid new → HasShownSome (lines_of only_bad us s) us s image old new
breaks_off only_bad us s left piece most tally len image old mid new h z t l e p =
    broken only_bad us s left most tally len image old mid new h (behind_is us left (min left.count most) h (omega arith)) z t l (subst (λ (v : Stretch). HasShownSome (lines_of only_bad us v) us v image mid new) e p)

pub at_last : (only_bad : Bool) (us : List UnitSpec) (s left : Stretch) (image : Option (List ℕ)) (tally : Tally) (old now : Option (List ℕ)) → SoFar only_bad us s left image tally old now → left.count ≡ 0 → HasShown (lines_of only_bad us s) us s image tally old now
at_last only_bad us s left image tally old now l e = record {
  blocks = l.blocks;
  has = subst (λ v. HasStretch us s v image) (append-nil l.blocks) (l.whole [] (has_none us left image e));
  bad = l.bad;
  unchecked = l.unchecked;
  written = l.written;
}

-- nothing of a stretch
pub none_shown : (text : List (List ℕ) → List ℕ) (us : List UnitSpec) (s : Stretch) (len : ℕ) (image x y : Option (List ℕ)) → IsStretch us s → len ≡ image_size us → HasLength len image → y ≡ x → HasShownSome text us s image x y
none_shown text us s len image x y h z t e =
    let r = has_some us s len image h z t in
    record { blocks = r.0; has = r.1; written = (0, subst (λ v. Appended [] x v) (sym e) (appended_none x)) }

-- What ended the showing of a part ends that of the whole.
pub passed_on : (e : WalkFault) (t u : List (List ℕ) → List ℕ) (us : List UnitSpec) (a b : Stretch) (image was : Option (List ℕ)) (o o' n p p' q : ℕ) (mid old new : Option (List ℕ)) → image ≡ was → o ≤ o' → p ≤ p' →
    (HasShownSome t us a was mid new → HasShownSome u us b was old new) → ShowEnds (Err e) t us a image o' n p' q mid new → ShowEnds (Err e) u us b was o n p q old new
passed_on Store t u us a b image was o o' n p p' q mid old new i h k f r = (rose_later o o' n h r.0, f (subst (λ v. HasShownSome t us a v mid new) i r.1))
passed_on Sink t u us a b image was o o' n p p' q mid old new i h k f r = (rose_later p p' q k r.0, f (subst (λ v. HasShownSome t us a v mid new) i r.1))

-- ---- the whole text

same_tally : (a b : Tally) → a.bad ≡ b.bad → a.unchecked ≡ b.unchecked → a ≡ b
same_tally a b e f = ap (λ (n : ℕ). record { bad = n; unchecked = a.unchecked }) e ∙ ap (λ (n : ℕ). record { bad = b.bad; unchecked = n }) f

pub first_some : (only_bad : Bool) (us : List UnitSpec) (s : Stretch) (len : ℕ) (image x y : Option (List ℕ)) → IsStretch us s → len ≡ image_size us → HasLength len image → AppendedSome first_line x y → HasShownSome (text_of only_bad us s) us s image x y
first_some only_bad us s len image x y h z t p =
    let r = has_some us s len image h z t in
    record { blocks = r.0; has = r.1; written = part_first first_line _ x y p }

pub lines_some : (only_bad : Bool) (us : List UnitSpec) (s : Stretch) (image x y w : Option (List ℕ)) → Appended first_line x y → HasShownSome (lines_of only_bad us s) us s image y w → HasShownSome (text_of only_bad us s) us s image x w
lines_some only_bad us s image x y w a p = record { blocks = p.blocks; has = p.has; written = part_second first_line _ x y w a (part_first (lines_of only_bad us s p.blocks) _ y w p.written) }

pub last_some : (only_bad : Bool) (us : List UnitSpec) (s : Stretch) (tally : Tally) (image x y w v : Option (List ℕ)) → Appended first_line x y → HasShown (lines_of only_bad us s) us s image tally y w → AppendedSome (last_line s.count tally) w v → HasShownSome (text_of only_bad us s) us s image x v
last_some only_bad us s tally image x y w v a p l = record {
  blocks = p.blocks;
  has = p.has;
  written = part_second first_line _ x y v a (part_second (lines_of only_bad us s p.blocks) _ y w v p.written (subst (λ t. AppendedSome t w v) (ap (λ n. last_line n tally) (sym p.has.many) ∙ ap (last_line (length p.blocks)) (same_tally tally _ p.bad p.unchecked)) l));
}

pub last_whole : (only_bad : Bool) (us : List UnitSpec) (s : Stretch) (tally : Tally) (image x y w v : Option (List ℕ)) → Appended first_line x y → HasShown (lines_of only_bad us s) us s image tally y w → Appended (last_line s.count tally) w v → HasShown (text_of only_bad us s) us s image tally x v
last_whole only_bad us s tally image x y w v a p l = record {
  blocks = p.blocks;
  has = p.has;
  bad = p.bad;
  unchecked = p.unchecked;
  written = appended_both first_line _ x y v a
      (appended_both (lines_of only_bad us s p.blocks) _ y w v p.written (subst (λ t. Appended t w v) (ap (λ n. last_line n tally) (sym p.has.many) ∙ ap (last_line (length p.blocks)) (same_tally tally _ p.bad p.unchecked)) l));
}

-- a text that was written whole is its beginning too
pub whole_some : (text : List (List ℕ) → List ℕ) (us : List UnitSpec) (s : Stretch) (tally : Tally) (image x y z : Option (List ℕ)) → z ≡ y → HasShown text us s image tally x y → HasShownSome text us s image x z
whole_some text us s tally image x y z e p = record { blocks = p.blocks; has = p.has; written = whole_is_part (text p.blocks) x y z p.written e }

-- however it ended, the beginning was written
pub some_ended : (r : Result Tally WalkFault) (text : List (List ℕ) → List ℕ) (us : List UnitSpec) (s : Stretch) (image : Option (List ℕ)) (o n p q : ℕ) (x y z : Option (List ℕ)) → z ≡ y → ShowEnds r text us s image o n p q x y → HasShownSome text us s image x z
some_ended (Ok tally) text us s image o n p q x y z e h = whole_some text us s tally image x y z e h
some_ended (Err Store) text us s image o n p q x y z e h = subst (λ v. HasShownSome text us s image x v) (sym e) h.1
some_ended (Err Sink) text us s image o n p q x y z e h = subst (λ v. HasShownSome text us s image x v) (sym e) h.1
