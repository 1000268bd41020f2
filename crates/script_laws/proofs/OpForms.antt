-- each op's words are read as its line
use Rattle.std.proofs.Common.{ℕ, zero, suc, ◌≡◌, ◌*◌, ◌^◌, ◌<◌, ◌≤◌, ◌&&◌, ◌||◌, Bool, true, false, not, eqb, ltb, leb, List, [], ◌∷◌, ◌++◌, length, Option, Some, None, Ok, refl, ap, arith}
use Rattle.std.specs.Prelude.{codes, decimal}
use Rattle.std.specs.Int.{to_be_bytes, w16, w32}
use Rattle.std.proofs.lemmas.Bool.Decides.{nat_tests}
use Rattle.std.proofs.lemmas.Bool.{eqb-true, not-false}
use Rattle.hex.specs.Hex.{IsBytes, encode_lower}
use Rattle.page_pool.specs.declared.segs.Seg.{Seg}
use Rattle.page_pool.specs.Places.{total}
use Rattle.script_text.specs.Passed.{Op}
use Rattle.script_words.specs.Hexes.{byte_in, hex_in, long_tag_in, tag_in}
use Rattle.script_words.specs.Places.{seg_in, segs_in, spot_in, word32, word64}
use Rattle.script_lines.specs.declared.kind.ScriptKind.{ScriptKind}
use Rattle.script_lines.specs.declared.line.ScriptLine.TheVariants.{Op as AnOp}
use Rattle.script_lines.specs.declared.line.OpLine.{OpLine}
use Rattle.script_lines.specs.declared.line.OpLine.TheVariants.{Fill, Put, Show, Seal, Write, Read, WritePi, ReadPi, Flip, Copy, Wait}
use Rattle.script_lines.specs.declared.verb.Verb.{Verb}
use Rattle.script_lines.specs.declared.verb.Verb.TheVariants.{Fill as FillVerb, Put as PutVerb, Show as ShowVerb, Seal as SealVerb, Write as WriteVerb, Read as ReadVerb, WritePi as WritePiVerb, ReadPi as ReadPiVerb, Overwrite as OverwriteVerb, Wait as WaitVerb}
use Rattle.script_lines.specs.Forms.{app_form, as_line, change_form, fill_form, line_form, overwrite_form, put_form, read_form, readpi_form, seal_form, show_form, write_form, writepi_form}
use Rattle.script_lines.specs.Reading.{◌>>=◌}
use Rattle.script_lines.specs.Verbs.{verb_of}
use Rattle.script_text.specs.Ops.{are_tuples, both_fault, data_fault, is_body, op_in, unless, where_inside}
use Rattle.script_text.specs.Printed.{seg_text, segs_text}
use Rattle.script_text.specs.Rules.{is_count}
use Rattle.script_text.specs.Segments.{are_few_each, are_inside, are_whole_tuples, is_inside}
use Rattle.script_laws.specs.Clean.{AreWords, IsWord}
use Rattle.script_laws.specs.Keeping.{InRange, IsFlip, IsTag}
use Rattle.script_laws.specs.Lines.{app_words, flip_words, op_word, op_words_behind}
use Rattle.script_laws.proofs.Clean.{decimal_word}
use Rattle.script_laws.proofs.Forms.{flip_back, some_byte, value_is}
use Rattle.script_laws.proofs.Places.{AreSegs, IsSeg, pair_word, seg_back, seg_word, segs_back, segs_word, spot_back, word32_back, word64_back}
use Rattle.script_laws.proofs.Words.{byte_back, byte_word, hex_back, hex_word, long_tag_back, long_tag_word, tag_back, tag_word}
use Rattle.script_laws.proofs.Over.{unbroken}
use Rattle.small_laws.proofs.Tests.{and_first, and_second}

abbrev pub AreListed : List Seg → Type 0
AreListed segs = AreSegs segs × (1 ≤ length segs)

abbrev pub Readable : (size : ℕ) → OpLine → Type 0
Readable size (Fill seg byte) = IsSeg seg × (byte < 256)
Readable size (Put page off bytes) = (page < 2 ^ 32) × (off < 2 ^ 32) × IsBytes bytes × (1 ≤ length bytes) × (length bytes ≤ 512)
Readable size (Show seg) = IsSeg seg
Readable size (Seal n body tuples app rtag) = (n < 2 ^ 32) × AreListed body × AreListed tuples × (app < 2 ^ 16) × (rtag < 2 ^ 32)
Readable size (Write v n body app) = (v < 2 ^ 64) × (n < 2 ^ 32) × AreListed body × IsTag app
Readable size (Read v n body) = (v < 2 ^ 64) × (n < 2 ^ 32) × AreListed body
Readable size (WritePi v n body tuples) = (v < 2 ^ 64) × (n < 2 ^ 32) × AreListed body × AreListed tuples
Readable size (ReadPi v n body tuples) = (v < 2 ^ 64) × (n < 2 ^ 32) × AreListed body × AreListed tuples
Readable size (Flip dev lba off bytes) = (dev < 2 ^ 32) × (lba < 2 ^ 64) × IsFlip size off bytes
Readable size (Copy dev lba from_dev from_lba) = (dev < 2 ^ 32) × (lba < 2 ^ 64) × (from_dev < 2 ^ 32) × (from_lba < 2 ^ 64)
Readable size Wait = Unit {0}

-- an op that keeps the rules is readable

inside_seg : (pages : ℕ) (s : Seg) → pages ≤ 256 → is_inside pages s ≡ true → IsSeg s
inside_seg pages s p h = record {
  page_fits = grind (arith, nat_tests);
  off_fits = grind (arith, nat_tests);
  len_fits = grind (arith, nat_tests);
}

inside_segs : (pages : ℕ) (segs : List Seg) → pages ≤ 256 → are_inside pages segs ≡ true → AreSegs segs
inside_segs pages [] p h = tt
inside_segs pages (s ∷ segs) p h = (inside_seg pages s p (and_first (is_inside pages s) (are_inside pages segs) h), inside_segs pages segs p (and_second (is_inside pages s) (are_inside pages segs) h))

some_total : (segs : List Seg) (size n : ℕ) → 1 ≤ size → 1 ≤ n → eqb (total segs) (size * n) ≡ true → 1 ≤ length segs
some_total [] zero n a b h = absurd (omega arith)
some_total [] (suc size) zero a b h = absurd (omega arith)
some_total [] (suc size) (suc n) a b h = let e = eqb-true 0 (suc size * suc n) h in absurd (omega (arith, e))
some_total (s ∷ segs) size n a b h = omega arith

body_listed : (pages size n : ℕ) (body : List Seg) → pages ≤ 256 → 1 ≤ size → 1 ≤ n → is_body pages size n body ≡ true → AreListed body
body_listed pages size n body p s c h =
    let rest = and_second (are_inside pages body) (eqb (total body) (size * n) && are_few_each size n body) h in
    (inside_segs pages body p (and_first (are_inside pages body) (eqb (total body) (size * n) && are_few_each size n body) h), some_total body size n s c (and_first (eqb (total body) (size * n)) (are_few_each size n body) rest))

tuples_listed : (pages n : ℕ) (tuples : List Seg) → pages ≤ 256 → 1 ≤ n → are_tuples pages n tuples ≡ true → AreListed tuples
tuples_listed pages n tuples p c h =
    let rest = and_second (are_inside pages tuples) (eqb (total tuples) (8 * n) && are_whole_tuples tuples) h in
    (inside_segs pages tuples p (and_first (are_inside pages tuples) (eqb (total tuples) (8 * n) && are_whole_tuples tuples) h), some_total tuples 8 n (omega arith) c (and_first (eqb (total tuples) (8 * n)) (are_whole_tuples tuples) rest))

count_low : (n : ℕ) → is_count n ≡ true → 1 ≤ n
count_low n h = grind (arith, nat_tests)

count_high : (n : ℕ) → is_count n ≡ true → n < 2 ^ 32
count_high n h = grind (arith, nat_tests)

pub no_fault : (f : Option ScriptKind) (op found : Op) → unless f op ≡ Ok found → f ≡ None
no_fault None op found h = refl
no_fault (Some k) op found h = absurd (cc)

data_rules : (pages size n : ℕ) (body : List Seg) → data_fault pages size n body ≡ None → (is_count n ≡ true) × (is_body pages size n body ≡ true)
data_rules pages size n body h =
    let a = unbroken (ltb 512 (length body)) _ _ h in
    let b = unbroken (not (is_count n)) _ _ a.1 in
    let c = unbroken (not (is_body pages size n body)) _ _ b.1 in
    (not-false (is_count n) b.0, not-false (is_body pages size n body) c.0)

both_rules : (pages size n : ℕ) (body tuples : List Seg) → both_fault pages size n body tuples ≡ None → (is_count n ≡ true) × (is_body pages size n body ≡ true) × (are_tuples pages n tuples ≡ true)
both_rules pages size n body tuples h =
    let a = unbroken (ltb 512 (length body) || ltb 512 (length tuples)) _ _ h in
    let b = unbroken (not (is_count n)) _ _ a.1 in
    let c = unbroken (not (is_body pages size n body && are_tuples pages n tuples)) _ _ b.1 in
    let d = not-false (is_body pages size n body && are_tuples pages n tuples) c.0 in
    (not-false (is_count n) b.0, and_first (is_body pages size n body) (are_tuples pages n tuples) d, and_second (is_body pages size n body) (are_tuples pages n tuples) d)

pub found_inside : (b : Bool) (op found : Op) → where_inside b op ≡ Ok found → b ≡ true
found_inside true op found h = refl
found_inside false op found h = absurd (cc)

readable_data : (pages size n : ℕ) (body : List Seg) → pages ≤ 256 → 1 ≤ size → data_fault pages size n body ≡ None → (n < 2 ^ 32) × AreListed body
readable_data pages size n body p s h = let r = data_rules pages size n body h in (count_high n r.0, body_listed pages size n body p s (count_low n r.0) r.1)

readable_both : (pages size n : ℕ) (body tuples : List Seg) → pages ≤ 256 → 1 ≤ size → both_fault pages size n body tuples ≡ None → (n < 2 ^ 32) × AreListed body × AreListed tuples
readable_both pages size n body tuples p s h =
    let r = both_rules pages size n body tuples h in (count_high n r.0, body_listed pages size n body p s (count_low n r.0) r.1, tuples_listed pages n tuples p (count_low n r.0) r.2)

put_fits : (pages page off len : ℕ) → pages ≤ 256 → is_inside pages (record { page = page; off = off; len = len }) ≡ true → (page < 2 ^ 32) × (off < 2 ^ 32) × (1 ≤ len)
put_fits pages page off len p h = (grind (arith, nat_tests), grind (arith, nat_tests), grind (arith, nat_tests))

pub readable : (pages size : ℕ) (line : OpLine) (op : Op) → pages ≤ 256 → 1 ≤ size → op_in pages size line ≡ Ok op → InRange size line → Readable size line
readable pages size (Fill seg byte) op p s h r = (inside_seg pages seg p (found_inside _ _ op h), r)
readable pages size (Put page off bytes) op p s h r = let f = put_fits pages page off (length bytes) p (found_inside _ _ op h) in (f.0, f.1, r.0, f.2, r.1)
readable pages size (Show seg) op p s h r = inside_seg pages seg p (and_first (is_inside pages seg) (leb seg.len 64) (found_inside _ _ op h))
readable pages size (Seal n body tuples app rtag) op p s h r = let f = readable_both pages size n body tuples p s (no_fault _ _ op h) in (f.0, f.1, f.2, r.0, r.1)
readable pages size (Write v n body app) op p s h r = let f = readable_data pages size n body p s (no_fault _ _ op h) in (r.0, f.0, f.1, r.1)
readable pages size (Read v n body) op p s h r = let f = readable_data pages size n body p s (no_fault _ _ op h) in (r, f.0, f.1)
readable pages size (WritePi v n body tuples) op p s h r = let f = readable_both pages size n body tuples p s (no_fault _ _ op h) in (r, f.0, f.1, f.2)
readable pages size (ReadPi v n body tuples) op p s h r = let f = readable_both pages size n body tuples p s (no_fault _ _ op h) in (r, f.0, f.1, f.2)
readable pages size (Flip dev lba off bytes) op p s h r = r
readable pages size (Copy dev lba from_dev from_lba) op p s h r = r
readable pages size Wait op p s h r = tt

-- and its words are read as it is

abbrev pub verb_for : OpLine → Verb
verb_for (Fill seg byte) = FillVerb
verb_for (Put page off bytes) = PutVerb
verb_for (Show seg) = ShowVerb
verb_for (Seal n body tuples app rtag) = SealVerb
verb_for (Write v n body app) = WriteVerb
verb_for (Read v n body) = ReadVerb
verb_for (WritePi v n body tuples) = WritePiVerb
verb_for (ReadPi v n body tuples) = ReadPiVerb
verb_for (Flip dev lba off bytes) = OverwriteVerb
verb_for (Copy dev lba from_dev from_lba) = OverwriteVerb
verb_for Wait = WaitVerb

pub verb_is : (line : OpLine) → verb_of (op_word line) ≡ Some (verb_for line)
verb_is (Fill seg byte) = refl
verb_is (Put page off bytes) = refl
verb_is (Show seg) = refl
verb_is (Seal n body tuples app rtag) = refl
verb_is (Write v n body app) = refl
verb_is (Read v n body) = refl
verb_is (WritePi v n body tuples) = refl
verb_is (ReadPi v n body tuples) = refl
verb_is (Flip dev lba off bytes) = refl
verb_is (Copy dev lba from_dev from_lba) = refl
verb_is Wait = refl

segs_is : (segs : List Seg) → AreListed segs → segs_in (segs_text segs) ≡ Some segs
segs_is segs h = segs_back segs h.0 h.1

fill_back : (seg : Seg) (byte : ℕ) → IsSeg seg → byte < 256 → fill_form (seg_text seg ∷ encode_lower (byte ∷ []) ∷ []) ≡ Ok (Fill seg byte)
unfolding fill_form
fill_back seg byte s b = value_is seg_in (seg_text seg) _ seg _ _ (seg_back seg s) (value_is byte_in (encode_lower (byte ∷ [])) _ byte _ _ (byte_back byte b) refl)

put_back : (page off : ℕ) (bytes : List ℕ) → page < 2 ^ 32 → off < 2 ^ 32 → IsBytes bytes → 1 ≤ length bytes → length bytes ≤ 512 → put_form ((decimal page ++ (58 ∷ decimal off)) ∷ encode_lower bytes ∷ []) ≡ Ok (Put page off bytes)
unfolding put_form
put_back page off bytes p o b l m =
    value_is spot_in (decimal page ++ (58 ∷ decimal off)) _ (page, off) _ _ (spot_back page off p o) (value_is (hex_in 512) (encode_lower bytes) _ bytes _ _ (hex_back 512 bytes b l m) refl)

show_back : (seg : Seg) → IsSeg seg → show_form (seg_text seg ∷ []) ≡ Ok (Show seg)
unfolding show_form
show_back seg s = value_is seg_in (seg_text seg) _ seg _ _ (seg_back seg s) refl

seal_back : (n : ℕ) (body tuples : List Seg) (app rtag : ℕ) → n < 2 ^ 32 → AreListed body → AreListed tuples → app < 2 ^ 16 → rtag < 2 ^ 32
    → seal_form (decimal n ∷ segs_text body ∷ segs_text tuples ∷ encode_lower (to_be_bytes w16 app) ∷ encode_lower (to_be_bytes w32 rtag) ∷ []) ≡ Ok (Seal n body tuples app rtag)
unfolding seal_form
seal_back n body tuples app rtag h b t a r =
    value_is word32 (decimal n) _ n _ _ (word32_back n h)
    (value_is segs_in (segs_text body) _ body _ _ (segs_is body b)
    (value_is segs_in (segs_text tuples) _ tuples _ _ (segs_is tuples t)
    (value_is tag_in (encode_lower (to_be_bytes w16 app)) _ app _ _ (tag_back app a)
    (value_is long_tag_in (encode_lower (to_be_bytes w32 rtag)) _ rtag _ _ (long_tag_back rtag r) refl))))

app_back : (app : Option ℕ) → IsTag app → app_form (app_words app) ≡ Ok app
unfolding app_form
app_back None h = refl
app_back (Some app) h = value_is tag_in (encode_lower (to_be_bytes w16 app)) [] app _ _ (tag_back app h) refl

write_back : (v n : ℕ) (body : List Seg) (app : Option ℕ) → v < 2 ^ 64 → n < 2 ^ 32 → AreListed body → IsTag app → write_form (decimal v ∷ decimal n ∷ segs_text body ∷ app_words app) ≡ Ok (Write v n body app)
unfolding write_form
write_back v n body app a b c d =
    value_is word64 (decimal v) _ v _ _ (word64_back v a)
    (value_is word32 (decimal n) _ n _ _ (word32_back n b)
    (value_is segs_in (segs_text body) _ body _ _ (segs_is body c) (ap (λ r. r >>= (λ app. Ok (Write v n body app))) (app_back app d))))

read_back : (v n : ℕ) (body : List Seg) → v < 2 ^ 64 → n < 2 ^ 32 → AreListed body → read_form (decimal v ∷ decimal n ∷ segs_text body ∷ []) ≡ Ok (Read v n body)
unfolding read_form
read_back v n body a b c =
    value_is word64 (decimal v) _ v _ _ (word64_back v a) (value_is word32 (decimal n) _ n _ _ (word32_back n b) (value_is segs_in (segs_text body) _ body _ _ (segs_is body c) refl))

writepi_back : (v n : ℕ) (body tuples : List Seg) → v < 2 ^ 64 → n < 2 ^ 32 → AreListed body → AreListed tuples → writepi_form (decimal v ∷ decimal n ∷ segs_text body ∷ segs_text tuples ∷ []) ≡ Ok (WritePi v n body tuples)
unfolding writepi_form
writepi_back v n body tuples a b c d =
    value_is word64 (decimal v) _ v _ _ (word64_back v a)
    (value_is word32 (decimal n) _ n _ _ (word32_back n b)
    (value_is segs_in (segs_text body) _ body _ _ (segs_is body c) (value_is segs_in (segs_text tuples) _ tuples _ _ (segs_is tuples d) refl)))

readpi_back : (v n : ℕ) (body tuples : List Seg) → v < 2 ^ 64 → n < 2 ^ 32 → AreListed body → AreListed tuples → readpi_form (decimal v ∷ decimal n ∷ segs_text body ∷ segs_text tuples ∷ []) ≡ Ok (ReadPi v n body tuples)
unfolding readpi_form
readpi_back v n body tuples a b c d =
    value_is word64 (decimal v) _ v _ _ (word64_back v a)
    (value_is word32 (decimal n) _ n _ _ (word32_back n b)
    (value_is segs_in (segs_text body) _ body _ _ (segs_is body c) (value_is segs_in (segs_text tuples) _ tuples _ _ (segs_is tuples d) refl)))

change_flip : (size dev lba off : ℕ) (bytes : List ℕ) → size ≤ 4096 → IsFlip size off bytes → change_form size dev lba true (flip_words off bytes) ≡ Ok (Flip dev lba off bytes)
unfolding change_form
change_flip size dev lba off bytes s h = ap (λ r. r >>= (λ flip. Ok (Flip dev lba flip.0 flip.1))) (flip_back size off bytes s h)

change_copy : (size dev lba from_dev from_lba : ℕ) → from_dev < 2 ^ 32 → from_lba < 2 ^ 64 → change_form size dev lba false (decimal from_dev ∷ decimal from_lba ∷ []) ≡ Ok (Copy dev lba from_dev from_lba)
unfolding change_form
change_copy size dev lba from_dev from_lba d l = value_is word32 (decimal from_dev) _ from_dev _ _ (word32_back from_dev d) (value_is word64 (decimal from_lba) _ from_lba _ _ (word64_back from_lba l) refl)

overwrite_flip : (size dev lba off : ℕ) (bytes : List ℕ) → size ≤ 4096 → dev < 2 ^ 32 → lba < 2 ^ 64 → IsFlip size off bytes → overwrite_form size (decimal dev ∷ decimal lba ∷ codes "flip" ∷ flip_words off bytes) ≡ Ok (Flip dev lba off bytes)
unfolding overwrite_form
overwrite_flip size dev lba off bytes s d l h = value_is word32 (decimal dev) _ dev _ _ (word32_back dev d) (value_is word64 (decimal lba) _ lba _ _ (word64_back lba l) (change_flip size dev lba off bytes s h))

overwrite_copy : (size dev lba from_dev from_lba : ℕ) → dev < 2 ^ 32 → lba < 2 ^ 64 → from_dev < 2 ^ 32 → from_lba < 2 ^ 64
    → overwrite_form size (decimal dev ∷ decimal lba ∷ codes "from" ∷ decimal from_dev ∷ decimal from_lba ∷ []) ≡ Ok (Copy dev lba from_dev from_lba)
unfolding overwrite_form
overwrite_copy size dev lba from_dev from_lba d l e m = value_is word32 (decimal dev) _ dev _ _ (word32_back dev d) (value_is word64 (decimal lba) _ lba _ _ (word64_back lba l) (change_copy size dev lba from_dev from_lba e m))

pub op_back : (size : ℕ) (line : OpLine) → size ≤ 4096 → Readable size line → line_form (verb_for line) size (op_words_behind line) ≡ Ok (AnOp line)
op_back size (Fill seg byte) s h = ap as_line (fill_back seg byte h.0 h.1)
op_back size (Put page off bytes) s h = ap as_line (put_back page off bytes h.0 h.1 h.2 h.3 h.4)
op_back size (Show seg) s h = ap as_line (show_back seg h)
op_back size (Seal n body tuples app rtag) s h = ap as_line (seal_back n body tuples app rtag h.0 h.1 h.2 h.3 h.4)
op_back size (Write v n body app) s h = ap as_line (write_back v n body app h.0 h.1 h.2 h.3)
op_back size (Read v n body) s h = ap as_line (read_back v n body h.0 h.1 h.2)
op_back size (WritePi v n body tuples) s h = ap as_line (writepi_back v n body tuples h.0 h.1 h.2 h.3)
op_back size (ReadPi v n body tuples) s h = ap as_line (readpi_back v n body tuples h.0 h.1 h.2 h.3)
op_back size (Flip dev lba off bytes) s h = ap as_line (overwrite_flip size dev lba off bytes s h.0 h.1 h.2)
op_back size (Copy dev lba from_dev from_lba) s h = ap as_line (overwrite_copy size dev lba from_dev from_lba h.0 h.1 h.2 h.3)
op_back size Wait s h = refl

pub number32 : (n : ℕ) → n < 2 ^ 32 → IsWord (decimal n)
number32 n h = decimal_word n (omega (arith, h))

list_word : (segs : List Seg) → AreListed segs → IsWord (segs_text segs)
list_word segs h = segs_word segs h.0 h.1

app_are_words : (app : Option ℕ) → AreWords (app_words app)
app_are_words None = tt
app_are_words (Some app) = (record { clean_is = refl; filled_is = refl }, (tag_word app, tt))

flip_are_words : (size off : ℕ) (bytes : List ℕ) → size ≤ 4096 → IsFlip size off bytes → AreWords (flip_words off bytes)
flip_are_words size off bytes s h = let o = h.off_fits in (decimal_word off (omega (arith, o, s)), (hex_word bytes h.are_bytes (some_byte size off bytes h), tt))

behind_are_words : (size : ℕ) (line : OpLine) → size ≤ 4096 → Readable size line → AreWords (op_words_behind line)
behind_are_words size (Fill seg byte) s h = (seg_word seg h.0, (byte_word byte h.1, tt))
behind_are_words size (Put page off bytes) s h = let p = h.0 in let o = h.1 in (pair_word page off 58 (omega (arith, p)) (omega (arith, o)) refl, (hex_word bytes h.2 h.3, tt))
behind_are_words size (Show seg) s h = (seg_word seg h, tt)
behind_are_words size (Seal n body tuples app rtag) s h = (number32 n h.0, (list_word body h.1, (list_word tuples h.2, (tag_word app, (long_tag_word rtag, tt)))))
behind_are_words size (Write v n body app) s h = (decimal_word v h.0, (number32 n h.1, (list_word body h.2, app_are_words app)))
behind_are_words size (Read v n body) s h = (decimal_word v h.0, (number32 n h.1, (list_word body h.2, tt)))
behind_are_words size (WritePi v n body tuples) s h = (decimal_word v h.0, (number32 n h.1, (list_word body h.2, (list_word tuples h.3, tt))))
behind_are_words size (ReadPi v n body tuples) s h = (decimal_word v h.0, (number32 n h.1, (list_word body h.2, (list_word tuples h.3, tt))))
behind_are_words size (Flip dev lba off bytes) s h = (number32 dev h.0, (decimal_word lba h.1, (record { clean_is = refl; filled_is = refl }, flip_are_words size off bytes s h.2)))
behind_are_words size (Copy dev lba from_dev from_lba) s h = (number32 dev h.0, (decimal_word lba h.1, (record { clean_is = refl; filled_is = refl }, (number32 from_dev h.2, (decimal_word from_lba h.3, tt)))))
behind_are_words size Wait s h = tt

verb_word : (line : OpLine) → IsWord (op_word line)
verb_word (Fill seg byte) = record { clean_is = refl; filled_is = refl }
verb_word (Put page off bytes) = record { clean_is = refl; filled_is = refl }
verb_word (Show seg) = record { clean_is = refl; filled_is = refl }
verb_word (Seal n body tuples app rtag) = record { clean_is = refl; filled_is = refl }
verb_word (Write v n body app) = record { clean_is = refl; filled_is = refl }
verb_word (Read v n body) = record { clean_is = refl; filled_is = refl }
verb_word (WritePi v n body tuples) = record { clean_is = refl; filled_is = refl }
verb_word (ReadPi v n body tuples) = record { clean_is = refl; filled_is = refl }
verb_word (Flip dev lba off bytes) = record { clean_is = refl; filled_is = refl }
verb_word (Copy dev lba from_dev from_lba) = record { clean_is = refl; filled_is = refl }
verb_word Wait = record { clean_is = refl; filled_is = refl }

pub op_are_words : (size : ℕ) (line : OpLine) → size ≤ 4096 → Readable size line → AreWords (op_word line ∷ op_words_behind line)
op_are_words size line s h = (verb_word line, behind_are_words size line s h)
