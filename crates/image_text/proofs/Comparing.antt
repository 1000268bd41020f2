-- How the text of two stretches' blocks grows, piece by piece.
use Rattle.std.proofs.Common.{◌≡◌, ℕ, Bool, true, false, suc, ◌+◌, ◌*◌, ◌/◌, ◌≤◌, List, [], ◌∷◌, ◌++◌, length, take, Option, refl, sym, ap, subst, ◌∙◌, arith, append_assoc, append-nil, length-append}
use Rattle.std.proofs.lemmas.List.{length-take}
use Rattle.std.proofs.Math.Nat.{mul-div-le, mul-le-mul_left, mul_comm}
use Rattle.std.specs.Prelude.{min, Result, Ok, Err}
use Rattle.dix_base.specs.Told.{Appended, AppendedSome, HasLength, Rose}
use Rattle.dix_base.proofs.Appending.{appended_none, appended_both}
use Rattle.report_text.proofs.Flow.{part_first, part_second, whole_is_part}
use Rattle.rig_api.specs.Headers.{image_size}
use Rattle.rig_api.specs.declared.units.UnitSpec.{UnitSpec}
use Rattle.image_text.specs.DiffText.{compared_line, count_differ, diff_first, diff_line, diff_lines, differences, differs}
use Rattle.image_text.specs.ShowText.{one_if}
use Rattle.image_text.specs.declared.diff.Pair.{Pair}
use Rattle.image_rig.specs.LayoutPlaces.{block_len}
use Rattle.image_blocks.specs.declared.stretch.Stretch.{Stretch}
use Rattle.image_blocks.specs.Blocks.{HasStretch}
use Rattle.image_blocks.specs.Places.{IsStretch, behind_in, front_in}
use Rattle.image_blocks.proofs.Stretches.{has_both, has_none, has_some}
use Rattle.image_blocks.proofs.Walks.{behind_is, front_is}
use Rattle.dix_base.proofs.Counts.{rose_later}
use Rattle.image_text.specs.declared.fault.DiffFault.{DiffFault}
use Rattle.image_text.specs.declared.fault.DiffFault.TheVariants.{First, Second, Sink}
use Rattle.image_text.specs.Compared.{CanCompare, Counts, DiffEnds, HasCompared, HasComparedSome, HaveBlocks, Places, counts, differ_of, lines_of, pair_of, places, diff_of}

-- ---- lines and counts of blocks behind others

lines_more : (p : Pair) (lba other : ℕ) (xs ys us vs : List (List ℕ)) → length xs ≡ length us → diff_lines p lba other (xs ++ ys) (us ++ vs) ≡ diff_lines p lba other xs us ++ diff_lines p (lba + length xs) (other + length us) ys vs
lines_more p lba other [] ys [] vs e = let a : lba ≡ lba + 0 = omega arith in let b : other ≡ other + 0 = omega arith in ap (λ n. diff_lines p n other ys vs) a ∙ ap (λ n. diff_lines p (lba + 0) n ys vs) b
lines_more p lba other [] ys (u ∷ us) vs e = absurd (omega (arith, e))
lines_more p lba other (x ∷ xs) ys [] vs e = absurd (omega (arith, e))
lines_more p lba other (x ∷ xs) ys (u ∷ us) vs e =
    let a : lba + 1 + length xs ≡ lba + suc (length xs) = omega arith in
    let b : other + 1 + length us ≡ other + suc (length us) = omega arith in
    ap (λ v. diff_line p lba other x u ++ v) (lines_more p (lba + 1) (other + 1) xs ys us vs (omega (arith, e))
    ∙ ap (λ n. diff_lines p (lba + 1) (other + 1) xs us ++ diff_lines p n (other + 1 + length us) ys vs) a
    ∙ ap (λ n. diff_lines p (lba + 1) (other + 1) xs us ++ diff_lines p (lba + suc (length xs)) n ys vs) b)
    ∙ sym (append_assoc (diff_line p lba other x u) (diff_lines p (lba + 1) (other + 1) xs us) (diff_lines p (lba + suc (length xs)) (other + suc (length us)) ys vs))

differ_more : (p : Pair) (lba other : ℕ) (xs ys us vs : List (List ℕ)) → length xs ≡ length us → count_differ p lba other (xs ++ ys) (us ++ vs) ≡ count_differ p lba other xs us + count_differ p (lba + length xs) (other + length us) ys vs
differ_more p lba other [] ys [] vs e = let a : lba ≡ lba + 0 = omega arith in let b : other ≡ other + 0 = omega arith in ap (λ n. count_differ p n other ys vs) a ∙ ap (λ n. count_differ p (lba + 0) n ys vs) b ∙ (omega arith)
differ_more p lba other [] ys (u ∷ us) vs e = absurd (omega (arith, e))
differ_more p lba other (x ∷ xs) ys [] vs e = absurd (omega (arith, e))
differ_more p lba other (x ∷ xs) ys (u ∷ us) vs e =
    let a : lba + 1 + length xs ≡ lba + suc (length xs) = omega arith in
    let b : other + 1 + length us ≡ other + suc (length us) = omega arith in
    let rest : count_differ p (lba + 1) (other + 1) (xs ++ ys) (us ++ vs) ≡ count_differ p (lba + 1) (other + 1) xs us + count_differ p (lba + suc (length xs)) (other + suc (length us)) ys vs =
    differ_more p (lba + 1) (other + 1) xs ys us vs (omega (arith, e))
    ∙ ap (λ n. count_differ p (lba + 1) (other + 1) xs us + count_differ p n (other + 1 + length us) ys vs) a
    ∙ ap (λ n. count_differ p (lba + 1) (other + 1) xs us + count_differ p (lba + suc (length xs)) n ys vs) b in
    omega (arith, rest)

pub one_if_few : (b : Bool) → one_if b ≤ 1
one_if_few true = omega arith
one_if_few false = omega arith

pub few_differ : (p : Pair) (lba other : ℕ) (xs us : List (List ℕ)) → count_differ p lba other xs us ≤ length xs
few_differ p lba other [] us = omega arith
few_differ p lba other (x ∷ xs) [] = omega arith
few_differ p lba other (x ∷ xs) (u ∷ us) = let a = one_if_few (differs (differences p lba other x u)) in let c = few_differ p (lba + 1) (other + 1) xs us in omega (arith, a, c)

-- ---- a walk along one stretch

-- These are the first blocks of the stretch, and these are left.
pub record Front (us : List UnitSpec) (s left : Stretch) (image : Option (List ℕ)) (blocks : List (List ℕ)) : Type 0 where
  pub whole : (rest : List (List ℕ)) → HasStretch us left rest image → HasStretch us s (blocks ++ rest) image
  pub dev : left.dev ≡ s.dev
  pub first : left.first ≡ s.first + length blocks
  pub few : length blocks + left.count ≡ s.count

front_none : (us : List UnitSpec) (s : Stretch) (image : Option (List ℕ)) → Front us s s image []
front_none us s image = record { whole = λ rest h. h; dev = refl; first = omega arith; few = omega arith }

front_more : (us : List UnitSpec) (s left : Stretch) (most : ℕ) (image : Option (List ℕ)) (blocks more : List (List ℕ)) → IsStretch us left → Front us s left image blocks → HasStretch us (front_in left most) more image →
    Front us s (behind_in left (min left.count most)) image (blocks ++ more)
front_more us s left most image blocks more h l p =
    let n = p.many in
    let a = length-append blocks more in
    let f = l.first in
    let k = l.few in
    record {
      whole = λ rest r. subst (λ v. HasStretch us s v image) (sym (append_assoc blocks more rest)) (l.whole (more ++ rest) (has_both us left (min left.count most) more rest image h (omega arith) p r));
      dev = l.dev;
      first = omega (arith, n, a, f);
      few = omega (arith, n, a, k);
    }

-- the first blocks and a piece, with whatever is behind them
pub record Ahead (us : List UnitSpec) (s : Stretch) (image : Option (List ℕ)) (blocks more : List (List ℕ)) : Type 0 where
  pub rest : List (List ℕ)
  pub has : HasStretch us s (blocks ++ (more ++ rest)) image

ahead : (us : List UnitSpec) (s left : Stretch) (most len : ℕ) (image : Option (List ℕ)) (blocks more : List (List ℕ)) → IsStretch us left → len ≡ image_size us → HasLength len image → Front us s left image blocks → HasStretch us (front_in left most) more image → Ahead us s image blocks more
ahead us s left most len image blocks more h z t l p =
    let n = p.many in
    let r = has_some us (behind_in left (min left.count most)) len image (behind_is us left (min left.count most) h (omega arith)) z t in
    record { rest = r.0; has = l.whole (more ++ r.0) (has_both us left (min left.count most) more r.0 image h (omega arith) p r.1) }

all_of : (us : List UnitSpec) (s left : Stretch) (image : Option (List ℕ)) (blocks : List (List ℕ)) → Front us s left image blocks → left.count ≡ 0 → HasStretch us s blocks image
all_of us s left image blocks l e = subst (λ v. HasStretch us s v image) (append-nil blocks) (l.whole [] (has_none us left image e))

-- as many blocks as a room holds lie in it
pub room_for : (us : List UnitSpec) (s left piece : Stretch) (most len whole : ℕ) (room : List ℕ) (image : Option (List ℕ)) (blocks : List (List ℕ)) → piece ≡ front_in left most → most ≤ whole / len → length room ≡ whole → len ≡ block_len us s.dev → Front us s left image blocks →
    length (take (piece.count * len) room) ≡ piece.count * block_len us piece.dev
room_for us s left piece most len whole room image blocks e m w b l =
    let c : piece.count ≡ min left.count most = ap (λ (v : Stretch). v.count) e in
    let a : len * piece.count ≤ len * (whole / len) = mul-le-mul_left len (omega (arith, c, m)) in
    let d = mul-div-le whole len in
    let k = mul_comm len piece.count in
    let t = length-take (piece.count * len) room in
    let n : length (take (piece.count * len) room) ≡ piece.count * len = omega (arith, a, d, k, t, w) in
    let same : len ≡ block_len us piece.dev = b ∙ sym (ap (λ (v : Stretch). block_len us v.dev) e ∙ ap (block_len us) l.dev) in
    n ∙ ap (λ v. piece.count * v) same

-- ---- a walk along two stretches

-- The lines of the first blocks of both were written, and these are left.
pub record SoFar (p : Places) (left other : Stretch) (first second : Option (List ℕ)) (differ : ℕ) (old now : Option (List ℕ)) : Type 0 where
  pub ones : List (List ℕ)
  pub twos : List (List ℕ)
  pub front : Front p.units p.at left first ones
  pub other_front : Front p.others p.to other second twos
  pub same : length ones ≡ length twos
  pub counted : differ ≡ differ_of p ones twos
  pub written : Appended (lines_of p ones twos) old now

pub at_first : (p : Places) (first second x : Option (List ℕ)) → SoFar p p.at p.to first second 0 x x
at_first p first second x = record {
  ones = [];
  twos = [];
  front = front_none p.units p.at first;
  other_front = front_none p.others p.to second;
  same = refl;
  counted = refl;
  written = appended_none x;
}

-- as many blocks are left of both
pub many_left : (p : Places) (left other : Stretch) (first second : Option (List ℕ)) (differ : ℕ) (old now : Option (List ℕ)) → p.at.count ≡ p.to.count → SoFar p left other first second differ old now → left.count ≡ other.count
many_left p left other first second differ old now e l = let a = l.front.few in let b = l.other_front.few in let c = l.same in omega (arith, a, b, c, e)

-- the first blocks of both that are left can be compared
pub pieces_compare : (p : Places) (left other piece other_piece : Stretch) (most differ len other_len now other_now : ℕ) (first second old mid : Option (List ℕ)) → CanCompare p len other_len → now ≡ len → other_now ≡ other_len →
    IsStretch p.units left → IsStretch p.others other → SoFar p left other first second differ old mid → piece ≡ front_in left most → other_piece ≡ front_in other most → CanCompare (places p.units piece p.others other_piece) now other_now
pieces_compare p left other piece other_piece most differ len other_len now other_now first second old mid r m n h k l e f =
    let c = many_left p left other first second differ old mid r.many l in
    record {
      place = subst (λ (v : Stretch). IsStretch p.units v) (sym e) (front_is p.units left most h);
      other_place = subst (λ (v : Stretch). IsStretch p.others v) (sym f) (front_is p.others other most k);
      many = ap (λ (v : Stretch). v.count) e ∙ ap (λ k. min k most) c ∙ sym (ap (λ (v : Stretch). v.count) f);
      held = m ∙ r.held;
      other_held = n ∙ r.other_held;
    }

-- the lines of what is left stand behind those of the first blocks
lines_behind : (p : Places) (left other : Stretch) (first second : Option (List ℕ)) (xs ys us vs : List (List ℕ)) → Front p.units p.at left first xs → Front p.others p.to other second us → length xs ≡ length us →
    lines_of p (xs ++ ys) (us ++ vs) ≡ lines_of p xs us ++ lines_of (places p.units left p.others other) ys vs
lines_behind p left other first second xs ys us vs l m e =
    lines_more (pair_of p) p.at.first p.to.first xs ys us vs e ∙ rw (l.dev, m.dev, l.first, m.first) refl

differ_behind : (p : Places) (left other : Stretch) (first second : Option (List ℕ)) (xs ys us vs : List (List ℕ)) → Front p.units p.at left first xs → Front p.others p.to other second us → length xs ≡ length us →
    differ_of p (xs ++ ys) (us ++ vs) ≡ differ_of p xs us + differ_of (places p.units left p.others other) ys vs
differ_behind p left other first second xs ys us vs l m e =
    differ_more (pair_of p) p.at.first p.to.first xs ys us vs e ∙ rw (l.dev, m.dev, l.first, m.first) refl

-- the lines of a piece were written
further : (p : Places) (left other : Stretch) (most differ more : ℕ) (first second old mid new : Option (List ℕ)) → p.at.count ≡ p.to.count → IsStretch p.units left → IsStretch p.others other → SoFar p left other first second differ old mid →
    HasCompared (lines_of (places p.units (front_in left most) p.others (front_in other most))) (places p.units (front_in left most) p.others (front_in other most)) first second more mid new →
    SoFar p (behind_in left (min left.count most)) (behind_in other (min other.count most)) first second (differ + more) old new
further p left other most differ more first second old mid new same h k l q =
    let b = differ_behind p left other first second l.ones q.ones l.twos q.twos l.front l.other_front l.same in
    let c = l.counted in
    let d = q.counted in
    let m = many_left p left other first second differ old mid same l in
    let n = q.has.one.many in
    let o = q.has.other.many in
    let s = l.same in
    let x = length-append l.ones q.ones in
    let y = length-append l.twos q.twos in
    record {
      ones = l.ones ++ q.ones;
      twos = l.twos ++ q.twos;
      front = front_more p.units p.at left most first l.ones q.ones h l.front q.has.one;
      other_front = front_more p.others p.to other most second l.twos q.twos k l.other_front q.has.other;
      same = omega (arith, m, n, o, s, x, y);
      counted = omega (arith, b, c, d);
      written = subst (λ t. Appended t old new) (sym (lines_behind p left other first second l.ones q.ones l.twos q.twos l.front l.other_front l.same)) (appended_both (lines_of p l.ones l.twos) _ old mid new l.written q.written);
    }

-- the pieces that were compared, and what is left behind them
pub record Step (left other piece other_piece next other_next : Stretch) (most : ℕ) : Type 0 where
  pub cut : piece ≡ front_in left most
  pub other_cut : other_piece ≡ front_in other most
  pub rest : next ≡ behind_in left piece.count
  pub other_rest : other_next ≡ behind_in other other_piece.count

pub goes_on : (p : Places) (left other piece other_piece next other_next : Stretch) (most differ more : ℕ) (first second old mid new : Option (List ℕ)) → p.at.count ≡ p.to.count → IsStretch p.units left → IsStretch p.others other → SoFar p left other first second differ old mid →
    Step left other piece other_piece next other_next most → HasCompared (lines_of (places p.units piece p.others other_piece)) (places p.units piece p.others other_piece) first second more mid new → SoFar p next other_next first second (differ + more) old new
goes_on p left other piece other_piece next other_next most differ more first second old mid new same h k l s q =
    let a : next ≡ behind_in left (min left.count most) = s.rest ∙ ap (λ (v : Stretch). behind_in left v.count) s.cut in
    let b : other_next ≡ behind_in other (min other.count most) = s.other_rest ∙ ap (λ (v : Stretch). behind_in other v.count) s.other_cut in
    let r : HasCompared (lines_of (places p.units (front_in left most) p.others (front_in other most))) (places p.units (front_in left most) p.others (front_in other most)) first second more mid new =
    subst (λ (v : Stretch). HasCompared (lines_of (places p.units (front_in left most) p.others v)) (places p.units (front_in left most) p.others v) first second more mid new) s.other_cut
    (subst (λ (v : Stretch). HasCompared (lines_of (places p.units v p.others other_piece)) (places p.units v p.others other_piece) first second more mid new) s.cut q) in
    subst (λ (v : Stretch). SoFar p v other_next first second (differ + more) old new) (sym a)
    (subst (λ (v : Stretch). SoFar p (behind_in left (min left.count most)) v first second (differ + more) old new) (sym b) (further p left other most differ more first second old mid new same h k l r))

-- No more differ than there are.
pub few_counted : (p : Places) (left other piece other_piece : Stretch) (most differ more : ℕ) (first second was were old mid new : Option (List ℕ)) → SoFar p left other first second differ old mid → piece ≡ front_in left most →
    HasCompared (lines_of (places p.units piece p.others other_piece)) (places p.units piece p.others other_piece) was were more mid new → differ + more ≤ p.at.count
few_counted p left other piece other_piece most differ more first second was were old mid new l e q =
    let a = few_differ (pair_of p) p.at.first p.to.first l.ones l.twos in
    let b = few_differ (pair_of (places p.units piece p.others other_piece)) piece.first other_piece.first q.ones q.twos in
    let c : piece.count ≡ min left.count most = ap (λ (v : Stretch). v.count) e in
    let d = l.front.few in
    let f = l.counted in
    let i = q.counted in
    let n = q.has.one.many in
    omega (arith, a, b, c, d, f, i, n)

-- two images as told, with their lengths
pub record Lengths (p : Places) (len other_len : ℕ) (first second : Option (List ℕ)) : Type 0 where
  pub held : len ≡ image_size p.units
  pub told : HasLength len first
  pub other_held : other_len ≡ image_size p.others
  pub other_told : HasLength other_len second

-- of a piece only the beginning was
broken : (p : Places) (left other : Stretch) (most differ len other_len : ℕ) (first second old mid new : Option (List ℕ)) → p.at.count ≡ p.to.count → IsStretch p.units left → IsStretch p.others other → Lengths p len other_len first second → SoFar p left other first second differ old mid →
    HasComparedSome (lines_of (places p.units (front_in left most) p.others (front_in other most))) (places p.units (front_in left most) p.others (front_in other most)) first second mid new → HasComparedSome (lines_of p) p first second old new
broken p left other most differ len other_len first second old mid new same h k z l q =
    let a = ahead p.units p.at left most len first l.ones q.ones h z.held z.told l.front q.has.one in
    let b = ahead p.others p.to other most other_len second l.twos q.twos k z.other_held z.other_told l.other_front q.has.other in
    let m = many_left p left other first second differ old mid same l in
    let n = q.has.one.many in
    let o = q.has.other.many in
    let even : length q.ones ≡ length q.twos = omega (arith, m, n, o) in
    let more : lines_of (places p.units left p.others other) (q.ones ++ a.rest) (q.twos ++ b.rest) ≡ lines_of (places p.units left p.others other) q.ones q.twos ++ diff_lines (pair_of (places p.units left p.others other)) (left.first + length q.ones) (other.first + length q.twos) a.rest b.rest =
    lines_more (pair_of (places p.units left p.others other)) left.first other.first q.ones a.rest q.twos b.rest even in
    record {
      ones = l.ones ++ (q.ones ++ a.rest);
      twos = l.twos ++ (q.twos ++ b.rest);
      has = record { one = a.has; other = b.has };
      written = subst (λ v. AppendedSome v old new) (sym (lines_behind p left other first second l.ones (q.ones ++ a.rest) l.twos (q.twos ++ b.rest) l.front l.other_front l.same ∙ ap (λ v. lines_of p l.ones l.twos ++ v) more))
          (part_second (lines_of p l.ones l.twos) _ old mid new l.written (part_first (lines_of (places p.units left p.others other) q.ones q.twos) _ mid new q.written));
    }

pub breaks_off : (p : Places) (left other piece other_piece : Stretch) (most differ len other_len : ℕ) (first second old mid new : Option (List ℕ)) → p.at.count ≡ p.to.count → IsStretch p.units left → IsStretch p.others other → Lengths p len other_len first second → SoFar p left other first second differ old mid →
    piece ≡ front_in left most → other_piece ≡ front_in other most → HasComparedSome (lines_of (places p.units piece p.others other_piece)) (places p.units piece p.others other_piece) first second mid new → HasComparedSome (lines_of p) p first second old new
breaks_off p left other piece other_piece most differ len other_len first second old mid new same h k z l e f q =
    broken p left other most differ len other_len first second old mid new same h k z l
    (subst (λ (v : Stretch). HasComparedSome (lines_of (places p.units (front_in left most) p.others v)) (places p.units (front_in left most) p.others v) first second mid new) f
    (subst (λ (v : Stretch). HasComparedSome (lines_of (places p.units v p.others other_piece)) (places p.units v p.others other_piece) first second mid new) e q))

pub at_last : (p : Places) (left other : Stretch) (first second : Option (List ℕ)) (differ : ℕ) (old now : Option (List ℕ)) → p.at.count ≡ p.to.count → SoFar p left other first second differ old now → left.count ≡ 0 → HasCompared (lines_of p) p first second differ old now
at_last p left other first second differ old now same l e =
    let m = many_left p left other first second differ old now same l in
    record {
      ones = l.ones;
      twos = l.twos;
      has = record { one = all_of p.units p.at left first l.ones l.front e; other = all_of p.others p.to other second l.twos l.other_front (sym m ∙ e) };
      counted = l.counted;
      written = l.written;
    }

-- blocks of both stretches
some_blocks : (p : Places) (len other_len : ℕ) (first second : Option (List ℕ)) → IsStretch p.units p.at → IsStretch p.others p.to → Lengths p len other_len first second → (ones : List (List ℕ)) × (twos : List (List ℕ)) × HaveBlocks p ones twos first second
some_blocks p len other_len first second h k z =
    let a = has_some p.units p.at len first h z.held z.told in
    let b = has_some p.others p.to other_len second k z.other_held z.other_told in
    (a.0, b.0, record { one = a.1; other = b.1 })

-- nothing of two stretches
pub none_compared : (text : (ones twos : List (List ℕ)) → List ℕ) (p : Places) (len other_len : ℕ) (first second x y : Option (List ℕ)) → IsStretch p.units p.at → IsStretch p.others p.to → Lengths p len other_len first second → y ≡ x → HasComparedSome text p first second x y
none_compared text p len other_len first second x y h k z e =
    let r = some_blocks p len other_len first second h k z in
    record { ones = r.0; twos = r.1; has = r.2; written = (0, subst (λ v. Appended [] x v) (sym e) (appended_none x)) }

-- What ended the comparing of a part ends that of the whole.
pub passed_on : (e : DiffFault) (t u : (ones twos : List (List ℕ)) → List ℕ) (p q : Places) (first second was were : Option (List ℕ)) (n o : Counts) (mid old new : Option (List ℕ)) → first ≡ was → second ≡ were →
    o.first ≤ n.first → o.second ≤ n.second → o.sink ≤ n.sink → n.first_after ≡ o.first_after → n.second_after ≡ o.second_after → n.sink_after ≡ o.sink_after →
    (HasComparedSome t p was were mid new → HasComparedSome u q was were old new) → DiffEnds (Err e) t p first second n mid new → DiffEnds (Err e) u q was were o old new
passed_on First t u p q first second was were n o mid old new i j a b c d e f g r = (rose_later o.first n.first o.first_after a (subst (λ v. Rose n.first v) d r.0), g (subst (λ v. HasComparedSome t p was v mid new) j (subst (λ v. HasComparedSome t p v second mid new) i r.1)))
passed_on Second t u p q first second was were n o mid old new i j a b c d e f g r = (rose_later o.second n.second o.second_after b (subst (λ v. Rose n.second v) e r.0), g (subst (λ v. HasComparedSome t p was v mid new) j (subst (λ v. HasComparedSome t p v second mid new) i r.1)))
passed_on Sink t u p q first second was were n o mid old new i j a b c d e f g r = (rose_later o.sink n.sink o.sink_after c (subst (λ v. Rose n.sink v) f r.0), g (subst (λ v. HasComparedSome t p was v mid new) j (subst (λ v. HasComparedSome t p v second mid new) i r.1)))

-- ---- the whole text

pub first_some : (p : Places) (len other_len : ℕ) (first second x y : Option (List ℕ)) → IsStretch p.units p.at → IsStretch p.others p.to → Lengths p len other_len first second → AppendedSome diff_first x y → HasComparedSome (diff_of p) p first second x y
first_some p len other_len first second x y h k z a =
    let r = some_blocks p len other_len first second h k z in
    record { ones = r.0; twos = r.1; has = r.2; written = part_first diff_first _ x y a }

pub lines_some : (p : Places) (first second x y w : Option (List ℕ)) → Appended diff_first x y → HasComparedSome (lines_of p) p first second y w → HasComparedSome (diff_of p) p first second x w
lines_some p first second x y w a q = record { ones = q.ones; twos = q.twos; has = q.has; written = part_second diff_first _ x y w a (part_first (lines_of p q.ones q.twos) _ y w q.written) }

-- the last line is of the blocks that were compared
last_of : (p : Places) (differ : ℕ) (first second y w : Option (List ℕ)) → (q : HasCompared (lines_of p) p first second differ y w) → compared_line p.at.count differ ≡ compared_line (length q.ones) (differ_of p q.ones q.twos)
last_of p differ first second y w q = ap (λ n. compared_line n differ) (sym q.has.one.many) ∙ ap (compared_line (length q.ones)) q.counted

pub last_some : (p : Places) (differ : ℕ) (first second x y w v : Option (List ℕ)) → Appended diff_first x y → HasCompared (lines_of p) p first second differ y w → AppendedSome (compared_line p.at.count differ) w v → HasComparedSome (diff_of p) p first second x v
last_some p differ first second x y w v a q l = record {
  ones = q.ones;
  twos = q.twos;
  has = q.has;
  written = part_second diff_first _ x y v a (part_second (lines_of p q.ones q.twos) _ y w v q.written (subst (λ t. AppendedSome t w v) (last_of p differ first second y w q) l));
}

pub last_whole : (p : Places) (differ : ℕ) (first second x y w v : Option (List ℕ)) → Appended diff_first x y → HasCompared (lines_of p) p first second differ y w → Appended (compared_line p.at.count differ) w v → HasCompared (diff_of p) p first second differ x v
last_whole p differ first second x y w v a q l = record {
  ones = q.ones;
  twos = q.twos;
  has = q.has;
  counted = q.counted;
  written = appended_both diff_first _ x y v a (appended_both (lines_of p q.ones q.twos) _ y w v q.written (subst (λ t. Appended t w v) (last_of p differ first second y w q) l));
}

-- a text that was written whole is its beginning too
whole_some : (text : (ones twos : List (List ℕ)) → List ℕ) (p : Places) (differ : ℕ) (first second x y z : Option (List ℕ)) → z ≡ y → HasCompared text p first second differ x y → HasComparedSome text p first second x z
whole_some text p differ first second x y z e q = record { ones = q.ones; twos = q.twos; has = q.has; written = whole_is_part (text q.ones q.twos) x y z q.written e }

-- however it ended, the beginning was written
pub some_ended : (r : Result ℕ DiffFault) (text : (ones twos : List (List ℕ)) → List ℕ) (p : Places) (first second : Option (List ℕ)) (n : Counts) (x y z : Option (List ℕ)) → z ≡ y → DiffEnds r text p first second n x y → HasComparedSome text p first second x z
some_ended (Ok differ) text p first second n x y z e h = whole_some text p differ first second x y z e h
some_ended (Err First) text p first second n x y z e h = subst (λ v. HasComparedSome text p first second x v) (sym e) h.1
some_ended (Err Second) text p first second n x y z e h = subst (λ v. HasComparedSome text p first second x v) (sym e) h.1
some_ended (Err Sink) text p first second n x y z e h = subst (λ v. HasComparedSome text p first second x v) (sym e) h.1
