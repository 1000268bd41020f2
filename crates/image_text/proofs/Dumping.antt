-- How the dump of a stretch's blocks grows, piece by piece.
use Rattle.std.proofs.Common.{◌≡◌, ℕ, zero, suc, ◌+◌, ◌-◌, ◌*◌, ◌<◌, ◌≤◌, List, [], ◌∷◌, ◌++◌, length, take, drop, Option, refl, sym, ap, subst, ◌∙◌, arith, append_assoc, append-nil}
use Rattle.std.proofs.lemmas.List.{take-append-drop}
use Rattle.std.specs.Prelude.{min, Result, Ok, Err}
use Rattle.dix_base.specs.Told.{Appended, AppendedSome, HasLength}
use Rattle.dix_base.proofs.Appending.{appended_none, appended_both}
use Rattle.report_text.proofs.Flow.{part_first, part_second, whole_is_part}
use Rattle.rig_api.specs.Frames.{frames_of}
use Rattle.rig_api.specs.Headers.{image_size}
use Rattle.rig_api.specs.declared.units.UnitSpec.{UnitSpec}
use Rattle.dix_base.proofs.Counts.{rose_later}
use Rattle.image_text.proofs.Frames.{next_frame, shorter}
use Rattle.image_blocks.specs.declared.stretch.Stretch.{Stretch}
use Rattle.image_blocks.specs.Blocks.{HasStretch, blocks_of}
use Rattle.image_blocks.specs.Places.{IsStretch, behind_in, front_in, spec_of}
use Rattle.image_blocks.proofs.Walks.{behind_is}
use Rattle.image_blocks.proofs.Stretches.{has_both, has_none, has_some}
use Rattle.image_blocks.specs.declared.fault.WalkFault.{WalkFault}
use Rattle.image_blocks.specs.declared.fault.WalkFault.TheVariants.{Store, Sink}
use Rattle.image_text.specs.declared.layout.Layout.{Layout}
use Rattle.image_text.specs.declared.layout.Layout.TheVariants.{Interleaved}
use Rattle.image_text.specs.Dumps.{dump_of, piece_of}
use Rattle.image_text.specs.Ends.{DumpEnds, HasDumped, HasDumpedSome, dump_in}

-- ---- the pieces of so many blocks

-- the piece of the next block, and the dump of those behind it
pub dump_at : (layout : Layout) (size len m n : ℕ) (rest block more piece : List ℕ) → m ≡ len → block ≡ take m rest → more ≡ drop m rest → piece ≡ piece_of layout size block → 0 < n →
    dump_of layout size (frames_of len n rest) ≡ piece ++ dump_of layout size (frames_of len (n - 1) more)
dump_at layout size len m n rest block more piece e b r p h = rw (p, b, r, e) (ap (dump_of layout size) (next_frame len n rest h))

pieces_whole : (size len n : ℕ) (bytes : List ℕ) → length bytes ≡ n * len → dump_of Interleaved size (frames_of len n bytes) ≡ bytes
pieces_whole size len zero [] l = refl
pieces_whole size len zero (b ∷ bytes) l = absurd (omega (arith, l))
pieces_whole size len (suc n) bytes l =
    let e : suc n - 1 ≡ n = omega arith in
    let k : length (drop len bytes) ≡ n * len = shorter (suc n) len len bytes (drop len bytes) (omega arith) l refl refl ∙ ap (λ m. m * len) e in
    ap (λ v. take len bytes ++ v) (pieces_whole size len n (drop len bytes) k) ∙ take-append-drop len bytes

-- where each piece is all of its block, the dump is the blocks as they lie
pub as_they_lie : (layout : Layout) (size len n : ℕ) (bytes : List ℕ) → layout ≡ Interleaved → length bytes ≡ n * len → dump_of layout size (frames_of len n bytes) ≡ bytes
as_they_lie layout size len n bytes e l = ap (λ v. dump_of v size (frames_of len n bytes)) e ∙ pieces_whole size len n bytes l

-- ---- a walk along a stretch

dump_more : (layout : Layout) (size : ℕ) (xs ys : List (List ℕ)) → dump_of layout size (xs ++ ys) ≡ dump_of layout size xs ++ dump_of layout size ys
dump_more layout size [] ys = refl
dump_more layout size (x ∷ xs) ys = ap (λ v. piece_of layout size x ++ v) (dump_more layout size xs ys) ∙ sym (append_assoc (piece_of layout size x) (dump_of layout size xs) (dump_of layout size ys))

-- The pieces of the first blocks were written, and these are left.
pub record SoFar (layout : Layout) (us : List UnitSpec) (s left : Stretch) (image : Option (List ℕ)) (old now : Option (List ℕ)) : Type 0 where
  pub blocks : List (List ℕ)
  pub whole : (rest : List (List ℕ)) → HasStretch us left rest image → HasStretch us s (blocks ++ rest) image
  pub dev : left.dev ≡ s.dev
  pub written : Appended (dump_in layout us s blocks) old now

pub at_first : (layout : Layout) (us : List UnitSpec) (s : Stretch) (image x : Option (List ℕ)) → SoFar layout us s s image x x
at_first layout us s image x = record { blocks = []; whole = λ rest h. h; dev = refl; written = appended_none x }

-- the dump of what is left stands behind that of the first blocks
dump_behind : (layout : Layout) (us : List UnitSpec) (s left : Stretch) (xs ys : List (List ℕ)) → left.dev ≡ s.dev → dump_in layout us s (xs ++ ys) ≡ dump_in layout us s xs ++ dump_in layout us left ys
dump_behind layout us s left xs ys d =
    dump_more layout (spec_of us s.dev).size xs ys ∙ ap (λ n. dump_in layout us s xs ++ dump_of layout (spec_of us n).size ys) (sym d)

-- the dump of a piece was written
further : (layout : Layout) (us : List UnitSpec) (s left : Stretch) (most : ℕ) (image old mid new : Option (List ℕ)) → IsStretch us left → SoFar layout us s left image old mid →
    HasDumped layout us (front_in left most) image mid new → SoFar layout us s (behind_in left (min left.count most)) image old new
further layout us s left most image old mid new h l p = record {
  blocks = l.blocks ++ p.blocks;
  whole = λ rest r. subst (λ v. HasStretch us s v image) (sym (append_assoc l.blocks p.blocks rest)) (l.whole (p.blocks ++ rest) (has_both us left (min left.count most) p.blocks rest image h (omega arith) p.has r));
  dev = l.dev;
  written = subst (λ t. Appended t old new) (sym (dump_behind layout us s left l.blocks p.blocks l.dev)) (appended_both (dump_in layout us s l.blocks) (dump_in layout us left p.blocks) old mid new l.written p.written);
}

pub goes_on : (layout : Layout) (us : List UnitSpec) (s left piece next : Stretch) (most : ℕ) (image old mid new : Option (List ℕ)) → IsStretch us left → SoFar layout us s left image old mid →
    piece ≡ front_in left most → next ≡ behind_in left piece.count → HasDumped layout us piece image mid new → SoFar layout us s next image old new
goes_on layout us s left piece next most image old mid new h l e f p =
    subst (λ v. SoFar layout us s v image old new) (sym (f ∙ ap (λ (v : Stretch). behind_in left v.count) e))
    (further layout us s left most image old mid new h l (subst (λ (v : Stretch). HasDumped layout us v image mid new) e p))

-- of a piece only the beginning was
broken : (layout : Layout) (us : List UnitSpec) (s left : Stretch) (most len : ℕ) (image old mid new : Option (List ℕ)) → IsStretch us left → IsStretch us (behind_in left (min left.count most)) → len ≡ image_size us → HasLength len image →
    SoFar layout us s left image old mid → HasDumpedSome layout us (front_in left most) image mid new → HasDumpedSome layout us s image old new
broken layout us s left most len image old mid new h g z t l p =
    let r = has_some us (behind_in left (min left.count most)) len image g z t in
    record {
      blocks = l.blocks ++ (p.blocks ++ r.0);
      has = l.whole (p.blocks ++ r.0) (has_both us left (min left.count most) p.blocks r.0 image h (omega arith) p.has r.1);
      written = subst (λ v. AppendedSome v old new) (sym (dump_behind layout us s left l.blocks (p.blocks ++ r.0) l.dev
          ∙ ap (λ v. dump_in layout us s l.blocks ++ v) (dump_behind layout us left (behind_in left (min left.count most)) p.blocks r.0 refl)))
          (part_second (dump_in layout us s l.blocks) _ old mid new l.written (part_first (dump_in layout us left p.blocks) _ mid new p.written));
    }

pub breaks_off : (layout : Layout) (us : List UnitSpec) (s left piece : Stretch) (most len : ℕ) (image old mid new : Option (List ℕ)) → IsStretch us left → len ≡ image_size us → HasLength len image → SoFar layout us s left image old mid →
    piece ≡ front_in left most → HasDumpedSome layout us piece image mid new → HasDumpedSome layout us s image old new
breaks_off layout us s left piece most len image old mid new h z t l e p =
    broken layout us s left most len image old mid new h (behind_is us left (min left.count most) h (omega arith)) z t l (subst (λ (v : Stretch). HasDumpedSome layout us v image mid new) e p)

pub at_last : (layout : Layout) (us : List UnitSpec) (s left : Stretch) (image old now : Option (List ℕ)) → SoFar layout us s left image old now → left.count ≡ 0 → HasDumped layout us s image old now
at_last layout us s left image old now l e = record {
  blocks = l.blocks;
  has = subst (λ v. HasStretch us s v image) (append-nil l.blocks) (l.whole [] (has_none us left image e));
  written = l.written;
}

-- what was read of a stretch was written
pub piece_dumped : (layout : Layout) (us vs : List UnitSpec) (s : Stretch) (into : List ℕ) (image old new : Option (List ℕ)) → vs ≡ us → HasStretch us s (blocks_of us s into) image → Appended (dump_in layout vs s (blocks_of vs s into)) old new → HasDumped layout us s image old new
piece_dumped layout us vs s into image old new e h a = record { blocks = blocks_of us s into; has = h; written = subst (λ (v : List UnitSpec). Appended (dump_in layout v s (blocks_of v s into)) old new) e a }

pub piece_some : (layout : Layout) (us vs : List UnitSpec) (s : Stretch) (into : List ℕ) (image old new : Option (List ℕ)) → vs ≡ us → HasStretch us s (blocks_of us s into) image → AppendedSome (dump_in layout vs s (blocks_of vs s into)) old new → HasDumpedSome layout us s image old new
piece_some layout us vs s into image old new e h a = record { blocks = blocks_of us s into; has = h; written = subst (λ (v : List UnitSpec). AppendedSome (dump_in layout v s (blocks_of v s into)) old new) e a }

-- nothing of a stretch
pub none_dumped : (layout : Layout) (us : List UnitSpec) (s : Stretch) (len : ℕ) (image x y : Option (List ℕ)) → IsStretch us s → len ≡ image_size us → HasLength len image → y ≡ x → HasDumpedSome layout us s image x y
none_dumped layout us s len image x y h z t e =
    let r = has_some us s len image h z t in
    record { blocks = r.0; has = r.1; written = (0, subst (λ v. Appended [] x v) (sym e) (appended_none x)) }

-- What ended the dump of a part ends that of the whole.
pub passed_on : (X Y : Type 0) (e : WalkFault) (layout : Layout) (us : List UnitSpec) (a b : Stretch) (image was : Option (List ℕ)) (o o' n p p' q : ℕ) (mid old new : Option (List ℕ)) → image ≡ was → o ≤ o' → p ≤ p' →
    (HasDumpedSome layout us a was mid new → HasDumpedSome layout us b was old new) → DumpEnds {X = X} (Err e) layout us a image o' n p' q mid new → DumpEnds {X = Y} (Err e) layout us b was o n p q old new
passed_on X Y Store layout us a b image was o o' n p p' q mid old new i h k f r = (rose_later o o' n h r.0, f (subst (λ v. HasDumpedSome layout us a v mid new) i r.1))
passed_on X Y Sink layout us a b image was o o' n p p' q mid old new i h k f r = (rose_later p p' q k r.0, f (subst (λ v. HasDumpedSome layout us a v mid new) i r.1))

-- however it ended, the beginning was written
pub some_ended : {X : Type 0} (r : Result X WalkFault) (layout : Layout) (us : List UnitSpec) (s : Stretch) (image : Option (List ℕ)) (o n p q : ℕ) (x y z : Option (List ℕ)) → z ≡ y → DumpEnds r layout us s image o n p q x y → HasDumpedSome layout us s image x z
some_ended (Ok v) layout us s image o n p q x y z e h = record { blocks = h.blocks; has = h.has; written = whole_is_part (dump_in layout us s h.blocks) x y z h.written e }
some_ended (Err Store) layout us s image o n p q x y z e h = subst (λ v. HasDumpedSome layout us s image x v) (sym e) h.1
some_ended (Err Sink) layout us s image o n p q x y z e h = subst (λ v. HasDumpedSome layout us s image x v) (sym e) h.1
