-- The bytes of a dump, piece by piece.
use Rattle.std.proofs.Common.{ℕ, suc, zero, ◌≡◌, ◌+◌, ◌-◌, ◌*◌, ◌/◌, ◌%◌, ◌<◌, ◌≤◌, List, [], ◌∷◌, ◌++◌, length, take, drop, Option, Some, None, refl, sym, subst, ap, ◌∙◌, arith, append_assoc, append-nil}
use Rattle.std.proofs.lemmas.List.{length-append, length-drop, length-take-le, take-append-drop, take-append-le, take-take, drop-append-le}
use Rattle.std.proofs.lemmas.Nat.{div-add-mod', div-mul-add, le-div, mod-mul-add, mod_below}
use Rattle.std.proofs.Math.Nat.{div-le_self, div-mul-le_self, mul-le-mul_right}
use Rattle.dix_base.proofs.Appending.{appended_both}
use Rattle.dix_base.specs.Told.{Appended, AppendedSome, IsAtEnd, Took}
use Rattle.dix_base.proofs.Taking.{took_more}
use Rattle.report_text.proofs.Flow.{part_second}
use Rattle.rig_api.proofs.FrameLaws.{frames_length}
use Rattle.rig_api.specs.Frames.{frames_of}
use Rattle.image_text.proofs.Frames.{less_one, next_frame}
use Rattle.dump_check.specs.declared.finding.Judgement.{Judgement}
use Rattle.dump_check.specs.declared.finding.Judgement.TheVariants.{Nothing, Escape, Guard, AppTag, RefTag}
use Rattle.dump_check.specs.declared.form.Dump.{Dump}
use Rattle.dump_check.specs.declared.form.Form.{Form}
use Rattle.dump_check.specs.declared.tally.DumpTally.{DumpTally}
use Rattle.dump_check.specs.declared.walking.Checked.{Checked}
use Rattle.dump_check.specs.declared.walking.TheConstants.{MOST_BLOCKS}
use Rattle.dump_check.specs.Finding.{found_of}
use Rattle.dump_check.specs.Forms.{stride_of}
use Rattle.dump_check.specs.Lines.{bad_text, block_text, blocks_of, blocks_text, rest_of, tally_of}
use Rattle.dump_check.specs.Tallies.{counted, counted_all, none_counted}
use Rattle.dump_check.specs.Walks.{HasChecked}

-- the blocks of two pieces, the first of which is whole blocks
pub frames_both : (len k n : ℕ) (a b : List ℕ) → length a ≡ k * len → frames_of len (k + n) (a ++ b) ≡ frames_of len k a ++ frames_of len n b
frames_both len zero n [] b h = let e : 0 + n ≡ n = omega arith in ap (λ x. frames_of len x b) e
frames_both len zero n (x ∷ a) b h = absurd (omega (arith, h))
frames_both len (suc k) n a b h =
    let some : 0 < suc k = omega arith in
    let m : suc k * len ≡ len + (suc k - 1) * len = less_one (suc k) len some in
    let s : suc k - 1 ≡ k = omega arith in
    let m2 : length a ≡ len + k * len = h ∙ m ∙ ap (λ x. len + x * len) s in
    let l : len ≤ length a = omega (arith, m2) in
    let d : length (drop len a) ≡ k * len = length-drop len a ∙ omega (arith, m2) in
    let r = frames_both len k n (drop len a) b d in
    next_frame len (suc k + n) (a ++ b) (omega arith) ∙ ap (λ x. take len (a ++ b) ∷ frames_of len x (drop len (a ++ b))) (omega arith) ∙
    ap (λ x. x ∷ frames_of len (k + n) (drop len (a ++ b))) (take-append-le len a b l) ∙ ap (λ x. take len a ∷ frames_of len (k + n) x) (drop-append-le len a b l) ∙ ap (λ x. take len a ∷ x) r

text_both : (d : Dump) (i : ℕ) (xs ys : List (List ℕ)) → blocks_text d i (xs ++ ys) ≡ blocks_text d i xs ++ blocks_text d (i + length xs) ys
text_both d i [] ys = ap (λ n. blocks_text d n ys) (omega arith)
text_both d i (x ∷ xs) ys =
    let r = text_both d (i + 1) xs ys in
    let e : i + 1 + length xs ≡ i + suc (length xs) = omega arith in
    ap (λ t. block_text d i x ++ t) (r ∙ ap (λ n. blocks_text d (i + 1) xs ++ blocks_text d n ys) e) ∙ sym (append_assoc (block_text d i x) (blocks_text d (i + 1) xs) (blocks_text d (i + suc (length xs)) ys))

tally_both : (f : Form) (t : DumpTally) (xs ys : List (List ℕ)) → counted_all f t (xs ++ ys) ≡ counted_all f (counted_all f t xs) ys
tally_both f t [] ys = refl
tally_both f t (x ∷ xs) ys = tally_both f (counted t (found_of f t.blocks x)) xs ys

-- The blocks of these bytes, and no others, were counted, and their lines written.
pub record IsWalked (d : Dump) (t : DumpTally) (bytes : List ℕ) (old new : Option (List ℕ)) : Type 0 where
  pub long : length bytes ≡ t.blocks * stride_of d.form
  pub tally : t ≡ counted_all d.form none_counted (frames_of (stride_of d.form) t.blocks bytes)
  pub written : Appended (blocks_text d 0 (frames_of (stride_of d.form) t.blocks bytes)) old new

-- the lines of these bytes and of a piece
pub lines_both : (d : Dump) (k n : ℕ) (a b : List ℕ) → length a ≡ k * stride_of d.form →
    blocks_text d 0 (frames_of (stride_of d.form) (k + n) (a ++ b)) ≡ blocks_text d 0 (frames_of (stride_of d.form) k a) ++ blocks_text d k (frames_of (stride_of d.form) n b)
lines_both d k n a b h =
    let s = stride_of d.form in
    let q = frames_length s k a in
    let e : 0 + length (frames_of s k a) ≡ k = omega (arith, q) in
    ap (blocks_text d 0) (frames_both s k n a b h) ∙ text_both d 0 (frames_of s k a) (frames_of s n b) ∙ ap (λ x. blocks_text d 0 (frames_of s k a) ++ blocks_text d x (frames_of s n b)) e

-- a piece more
pub walked_on : (d : Dump) (t next : DumpTally) (n : ℕ) (bytes piece : List ℕ) (old mid new : Option (List ℕ)) → IsWalked d t bytes old mid → length piece ≡ n * stride_of d.form → next.blocks ≡ t.blocks + n →
    next ≡ counted_all d.form t (frames_of (stride_of d.form) n piece) → Appended (blocks_text d t.blocks (frames_of (stride_of d.form) n piece)) mid new → IsWalked d next (bytes ++ piece) old new
walked_on d t next n bytes piece old mid new w l m c a =
    let f = d.form in
    let s = stride_of f in
    let front = frames_of s t.blocks bytes in
    let back = frames_of s n piece in
    let both : frames_of s next.blocks (bytes ++ piece) ≡ front ++ back = ap (λ k. frames_of s k (bytes ++ piece)) m ∙ frames_both s t.blocks n bytes piece w.long in
    let lines : blocks_text d 0 (frames_of s next.blocks (bytes ++ piece)) ≡ blocks_text d 0 front ++ blocks_text d t.blocks back =
    ap (λ k. blocks_text d 0 (frames_of s k (bytes ++ piece))) m ∙ lines_both d t.blocks n bytes piece w.long in
    let sum : (t.blocks + n) * s ≡ t.blocks * s + n * s = grind arith in
    record {
      long = length-append bytes piece ∙ omega (arith, l, w.long, sum) ∙ ap (λ k. k * s) (sym m);
      tally = c ∙ ap (λ (u : DumpTally). counted_all f u back) w.tally ∙ sym (tally_both f none_counted front back) ∙ ap (counted_all f none_counted) (sym both);
      written = subst (λ x. Appended x old new) (sym lines) (appended_both (blocks_text d 0 front) (blocks_text d t.blocks back) old mid new w.written a);
    }

-- the blocks of whole blocks and of bytes of one more
blocks_are : (f : Form) (k : ℕ) (bytes more : List ℕ) → length bytes ≡ k * stride_of f → length more < stride_of f → blocks_of f (bytes ++ more) ≡ frames_of (stride_of f) k bytes
blocks_are f k bytes more l h =
    let s = stride_of f in
    let n : length (bytes ++ more) / s ≡ k = ap (λ x. x / s) (length-append bytes more ∙ ap (λ x. x + length more) l) ∙ div-mul-add k s (length more) h in
    let z : k ≡ k + 0 = omega arith in
    ap (λ x. frames_of s x (bytes ++ more)) (n ∙ z) ∙ frames_both s k 0 bytes more l ∙ append-nil (frames_of s k bytes)

pub rest_is : (f : Form) (k : ℕ) (bytes more : List ℕ) → length bytes ≡ k * stride_of f → length more < stride_of f → rest_of f (bytes ++ more) ≡ length more
rest_is f k bytes more l h = ap (λ x. x % stride_of f) (length-append bytes more ∙ ap (λ x. x + length more) l) ∙ mod-mul-add k (stride_of f) (length more) h

pub bad_is : (d : Dump) (t : DumpTally) (bytes more : List ℕ) (old new : Option (List ℕ)) → IsWalked d t bytes old new → length more < stride_of d.form → Appended (bad_text d (bytes ++ more)) old new
bad_is d t bytes more old new w h = subst (λ x. Appended (blocks_text d 0 x) old new) (sym (blocks_are d.form t.blocks bytes more w.long h)) w.written

pub tally_is : (d : Dump) (t : DumpTally) (bytes more : List ℕ) (old new : Option (List ℕ)) → IsWalked d t bytes old new → length more < stride_of d.form → t ≡ tally_of d.form (bytes ++ more)
tally_is d t bytes more old new w h = w.tally ∙ ap (counted_all d.form none_counted) (sym (blocks_are d.form t.blocks bytes more w.long h))

-- the source was at its end
pub walked_out : (d : Dump) (c : Checked) (bytes more : List ℕ) (left left_after old new : Option (List ℕ)) → IsWalked d c.tally bytes old new → length more < stride_of d.form → c.rest ≡ length more →
    Took (bytes ++ more) left left_after → IsAtEnd left_after → HasChecked bad_text d c left left_after old new
walked_out d c bytes more left left_after old new w h r t e = record {
  bytes = bytes ++ more;
  took = t;
  end = e;
  tally = tally_is d c.tally bytes more old new w h;
  rest = r ∙ sym (rest_is d.form c.tally.blocks bytes more w.long h);
  written = bad_is d c.tally bytes more old new w h;
}

-- before the first piece
pub at_first : (d : Dump) (x : Option (List ℕ)) → Appended [] x x → IsWalked d none_counted [] x x
at_first d x a = record { long = omega arith; tally = refl; written = a }

-- a piece whose lines weren't all written
pub broken_off : (d : Dump) (t : DumpTally) (n : ℕ) (bytes piece more : List ℕ) (old mid new : Option (List ℕ)) → IsWalked d t bytes old mid → length piece ≡ n * stride_of d.form → length more < stride_of d.form →
    AppendedSome (blocks_text d t.blocks (frames_of (stride_of d.form) n piece)) mid new → AppendedSome (bad_text d ((bytes ++ piece) ++ more)) old new
broken_off d t n bytes piece more old mid new w l h a =
    let s = stride_of d.form in
    let sum : (t.blocks + n) * s ≡ t.blocks * s + n * s = grind arith in
    let long : length (bytes ++ piece) ≡ (t.blocks + n) * s = length-append bytes piece ∙ omega (arith, l, w.long, sum) in
    let same : bad_text d ((bytes ++ piece) ++ more) ≡ blocks_text d 0 (frames_of s t.blocks bytes) ++ blocks_text d t.blocks (frames_of s n piece) =
    ap (blocks_text d 0) (blocks_are d.form (t.blocks + n) (bytes ++ piece) more long h) ∙ lines_both d t.blocks n bytes piece w.long in
    subst (λ x. AppendedSome x old new) (sym same) (part_second (blocks_text d 0 (frames_of s t.blocks bytes)) (blocks_text d t.blocks (frames_of s n piece)) old mid new w.written a)

-- whole blocks alone
pub bad_whole : (d : Dump) (t : DumpTally) (bytes : List ℕ) (old new : Option (List ℕ)) → 0 < stride_of d.form → IsWalked d t bytes old new → Appended (bad_text d bytes) old new
bad_whole d t bytes old new some w = subst (λ x. Appended (bad_text d x) old new) (append-nil bytes) (bad_is d t bytes [] old new w some)

pub tally_whole : (d : Dump) (t : DumpTally) (bytes : List ℕ) (old new : Option (List ℕ)) → 0 < stride_of d.form → IsWalked d t bytes old new → t ≡ tally_of d.form bytes
tally_whole d t bytes old new some w = subst (λ x. t ≡ tally_of d.form x) (append-nil bytes) (tally_is d t bytes [] old new w some)

-- so many bytes that came are whole blocks and less than one
pub record Parts (s got n each : ℕ) (into : List ℕ) : Type 0 where
  pub same : take got into ≡ take (n * each) into ++ drop (n * each) (take got into)
  pub long : length (take (n * each) into) ≡ n * s
  pub less : length (drop (n * each) (take got into)) < s
  pub rest : got % each ≡ length (drop (n * each) (take got into))

pub parts_of : (s got n each : ℕ) (into : List ℕ) → 0 < s → each ≡ s → n ≡ got / each → got ≤ length into → Parts s got n each into
parts_of s got n each into some e q l =
    let p : got / each * each ≤ got = div-mul-le_self got each in
    let below : n * each ≤ got = rw q p in
    let all : length (take got into) ≡ got = length-take-le got into l in
    let front : length (take (n * each) into) ≡ n * each = length-take-le (n * each) into (omega (arith, below, l)) in
    let back : length (drop (n * each) (take got into)) ≡ got - n * each = length-drop (n * each) (take got into) ∙ ap (λ x. x - n * each) all in
    let sum : n * each + got % each ≡ got = ap (λ x. x * each + got % each) q ∙ div-add-mod' got each in
    let small : got % each < each = mod_below got each (omega (arith, e, some)) in
    record {
      same = sym (take-append-drop (n * each) (take got into)) ∙ ap (λ x. x ++ drop (n * each) (take got into)) (take-take (n * each) got into below);
      long = front ∙ ap (λ x. n * x) e;
      less = omega (arith, back, sum, small, e);
      rest = omega (arith, back, sum);
    }

-- fewer whole blocks than the room has: it isn't full
pub not_full : (s got n each most room : ℕ) → 0 < s → each ≡ s → n ≡ got / each → n < most → room ≡ most * s → got < room
not_full s got n each most room some e q h r =
    let sum : n * each + got % each ≡ got = ap (λ x. x * each + got % each) q ∙ div-add-mod' got each in
    let small : got % each < each = mod_below got each (omega (arith, e, some)) in
    let up : (n + 1) * each ≤ most * each = mul-le-mul_right each (omega (arith, h)) in
    let one : (n + 1) * each ≡ n * each + each = grind arith in
    let m : room ≡ most * each = r ∙ ap (λ x. most * x) (sym e) in
    omega (arith, sum, small, up, one, m)

-- as many: it is full
pub is_full : (s got n each most room : ℕ) → each ≡ s → n ≡ got / each → most ≤ n → room ≡ most * s → got ≤ room → n * each ≡ got
is_full s got n each most room e q h r b =
    let p : got / each * each ≤ got = div-mul-le_self got each in
    let below : n * each ≤ got = rw q p in
    let up : most * each ≤ n * each = mul-le-mul_right each h in
    let m : room ≡ most * each = r ∙ ap (λ x. most * x) (sym e) in
    omega (arith, below, up, m, b)

-- the bytes that came, and those before
pub took_parts : (s got n each : ℕ) (bytes into : List ℕ) (a b c : Option (List ℕ)) → Parts s got n each into → Took bytes a b → Took (take got into) b c → Took ((bytes ++ take (n * each) into) ++ drop (n * each) (take got into)) a c
took_parts s got n each bytes into a b c parts p q =
    let piece = take (n * each) into in
    let more = drop (n * each) (take got into) in
    subst (λ x. Took x a c) (ap (λ x. bytes ++ x) parts.same ∙ sym (append_assoc bytes piece more)) (took_more bytes (take got into) a b c p q)

one_more : (t : DumpTally) (found : Judgement) → (counted t found).blocks ≡ t.blocks + 1
one_more t Nothing = refl
one_more t Escape = refl
one_more t Guard = refl
one_more t AppTag = refl
one_more t (RefTag shift) = refl

counts : (f : Form) (t : DumpTally) (xs : List (List ℕ)) → (counted_all f t xs).blocks ≡ t.blocks + length xs
counts f t [] = omega arith
counts f t (x ∷ xs) =
    let one = one_more t (found_of f t.blocks x) in
    let r = counts f (counted t (found_of f t.blocks x)) xs in
    omega (arith, one, r)

blocks_below : (f : Form) (bytes : List ℕ) → (tally_of f bytes).blocks ≤ length bytes
blocks_below f bytes =
    let c = counts f none_counted (blocks_of f bytes) in
    let n = frames_length (stride_of f) (length bytes / stride_of f) bytes in
    let q = div-le_self (length bytes) (stride_of f) in
    omega (arith, c, n, q)

-- a source that tells few bytes has few blocks
pub few_blocks : (f : Form) (bytes all : List ℕ) (left left_after : Option (List ℕ)) → left ≡ Some all → Took bytes left left_after → length all < MOST_BLOCKS → MOST_BLOCKS ≤ (tally_of f bytes).blocks → ⊥
few_blocks f bytes all None after e t few many = absurd (cc)
few_blocks f bytes all (Some held) None e t few many = absurd t
few_blocks f bytes all (Some held) (Some left) e t few many =
    let same : held ≡ all = cc in
    let n : length all ≡ length bytes + length left = ap length (sym same ∙ t) ∙ length-append bytes left in
    let b = blocks_below f bytes in
    omega (arith, n, b, few, many)
