-- A text cut at a mark, and its parts.
use Rattle.std.proofs.Common.{ℕ, suc, ◌≡◌, ◌+◌, Bool, true, false, eqb, ltb, not, cond, List, [], ◌∷◌, ◌++◌, length, take, drop, Option, Some, None, refl, sym, ap, ◌∙◌, arith, append_assoc}
use Rattle.std.specs.List.{position_or_len}
use Rattle.std.proofs.lemmas.Bool.Decides.{nat_tests}
use Rattle.page_pool.specs.declared.segs.Seg.{Seg}
use Rattle.script_words.specs.Cuts.{Cut, cut, cut_by, ended, filled, in_front, is_byte, lines_of, parts, words_of}
use Rattle.script_words.specs.Places.{seg_in, segs_of, with_seg}
use Rattle.fault_schedule.proofs.Passed.{ltb_suc, one_more}

-- how a cut looks with a byte in front
abbrev later : ℕ → Option Cut → Option Cut
later b None = None
later b (Some c) = Some (record { before = b ∷ c.before; after = c.after })

pub ltb_zero : (a : ℕ) → ltb 0 (suc a) ≡ true
ltb_zero a = grind (arith, nat_tests)

pub next_of : (n : ℕ) → suc n + 1 ≡ suc (n + 1)
next_of n = omega arith

later_by : (t : Bool) (b n : ℕ) (bs : List ℕ) → cut_by (b ∷ bs) (cond t (Some (suc n)) None) ≡ later b (cut_by bs (cond t (Some n) None))
later_by true b n bs = ap (λ k. Some (record { before = b ∷ take n bs; after = drop k (b ∷ bs) })) (next_of n)
later_by false b n bs = refl

-- a text is cut at its first byte, or behind it
pub cut_first : (mark b : ℕ) (bs : List ℕ) → eqb b mark ≡ true → cut mark (b ∷ bs) ≡ Some (record { before = []; after = bs })
cut_first mark b bs h =
    let p : position_or_len (is_byte mark) (b ∷ bs) ≡ 0 = ap (λ t. cond (not t) (1 + position_or_len (is_byte mark) bs) 0) h in
    ap (λ n. cut_by (b ∷ bs) (cond (ltb n (suc (length bs))) (Some n) None)) p ∙ ap (λ t. cut_by (b ∷ bs) (cond t (Some 0) None)) (ltb_zero (length bs))

cut_later : (mark b : ℕ) (bs : List ℕ) → eqb b mark ≡ false → cut mark (b ∷ bs) ≡ later b (cut mark bs)
cut_later mark b bs h =
    let q = position_or_len (is_byte mark) bs in
    let p : position_or_len (is_byte mark) (b ∷ bs) ≡ suc (position_or_len (is_byte mark) bs) = ap (λ t. cond (not t) (1 + position_or_len (is_byte mark) bs) 0) h ∙ one_more (position_or_len (is_byte mark) bs) in
    ap (λ n. cut_by (b ∷ bs) (cond (ltb n (suc (length bs))) (Some n) None)) p
    ∙ ap (λ t. cut_by (b ∷ bs) (cond t (Some (suc (position_or_len (is_byte mark) bs))) None)) (ltb_suc (position_or_len (is_byte mark) bs) (length bs))
    ∙ later_by (ltb (position_or_len (is_byte mark) bs) (length bs)) b (position_or_len (is_byte mark) bs) bs

-- the parts of a text by its first cut
abbrev pub parts_by : ℕ → List ℕ → Option Cut → List (List ℕ)
parts_by mark text None = text ∷ []
parts_by mark text (Some c) = c.before ∷ parts mark c.after

front_by : (mark b : ℕ) (bs : List ℕ) (c : Option Cut) → in_front b (parts_by mark bs c) ≡ parts_by mark (b ∷ bs) (later b c)
front_by mark b bs None = refl
front_by mark b bs (Some c) = refl

parts_step : (t : Bool) (mark b : ℕ) (bs : List ℕ) → eqb b mark ≡ t → parts mark bs ≡ parts_by mark bs (cut mark bs) → parts mark (b ∷ bs) ≡ parts_by mark (b ∷ bs) (cut mark (b ∷ bs))
parts_step true mark b bs h r = ap (λ t. cond t ([] ∷ parts mark bs) (in_front b (parts mark bs))) h ∙ sym (ap (parts_by mark (b ∷ bs)) (cut_first mark b bs h))
parts_step false mark b bs h r =
    ap (λ t. cond t ([] ∷ parts mark bs) (in_front b (parts mark bs))) h ∙ ap (in_front b) r ∙ front_by mark b bs (cut mark bs) ∙ sym (ap (parts_by mark (b ∷ bs)) (cut_later mark b bs h))

parts_are : (mark : ℕ) (text : List ℕ) → parts mark text ≡ parts_by mark text (cut mark text)
parts_are mark [] = refl
parts_are mark (b ∷ bs) = parts_step (eqb b mark) mark b bs refl (parts_are mark bs)

pub parts_cut : (mark : ℕ) (text before after : List ℕ) → cut mark text ≡ Some (record { before = before; after = after }) → parts mark text ≡ before ∷ parts mark after
parts_cut mark text before after h = parts_are mark text ∙ ap (parts_by mark text) h

pub parts_whole : (mark : ℕ) (text : List ℕ) → cut mark text ≡ None → parts mark text ≡ text ∷ []
parts_whole mark text h = parts_are mark text ∙ ap (parts_by mark text) h

-- there is always a part
ended_more : (l : List ℕ) (mark : ℕ) (text : List ℕ) (c : Option Cut) → ended (l ∷ parts_by mark text c) ≡ l ∷ ended (parts_by mark text c)
ended_more [] mark text None = refl
ended_more (b ∷ l) mark text None = refl
ended_more [] mark text (Some c) = refl
ended_more (b ∷ l) mark text (Some c) = refl

pub line_cut : (text before after : List ℕ) → cut 10 text ≡ Some (record { before = before; after = after }) → lines_of text ≡ before ∷ lines_of after
line_cut text before after h =
    ap ended (parts_cut 10 text before after h ∙ ap (λ p. before ∷ p) (parts_are 10 after)) ∙ ended_more before 10 after (cut 10 after) ∙ ap (λ p. before ∷ ended p) (sym (parts_are 10 after))

pub line_last : (text : List ℕ) → cut 10 text ≡ None → (length text ≡ 0 → ⊥) → lines_of text ≡ text ∷ []
line_last [] h n = absurd (n refl)
line_last (b ∷ bs) h n = ap ended (parts_whole 10 (b ∷ bs) h)

pub word_cut : (text before after : List ℕ) → cut 32 text ≡ Some (record { before = before; after = after }) → (length before ≡ 0 → ⊥) → words_of text ≡ before ∷ words_of after
word_cut text [] after h n = absurd (n refl)
word_cut text (b ∷ before) after h n = ap filled (parts_cut 32 text (b ∷ before) after h)

pub word_last : (text : List ℕ) → cut 32 text ≡ None → (length text ≡ 0 → ⊥) → words_of text ≡ text ∷ []
word_last [] h n = absurd (n refl)
word_last (b ∷ bs) h n = ap filled (parts_whole 32 (b ∷ bs) h)

-- the segments so far, with those that follow
abbrev pub joined : List Seg → Option (List Seg) → Option (List Seg)
joined segs None = None
joined segs (Some more) = Some (segs ++ more)

pub joined_more : (segs : List Seg) (s : Seg) (more : Option (List Seg)) → joined segs (with_seg (Some s) more) ≡ joined (segs ++ (s ∷ [])) more
joined_more segs s None = refl
joined_more segs s (Some more) = ap Some (sym (append_assoc segs (s ∷ []) more))

-- the next segment of a list
pub next_seg : (done : List Seg) (rest before after : List ℕ) (s : Seg) (all : Option (List Seg)) → joined done (segs_of (parts 44 rest)) ≡ all → cut 44 rest ≡ Some (record { before = before; after = after }) → Some s ≡ seg_in before → joined (done ++ (s ∷ [])) (segs_of (parts 44 after)) ≡ all
next_seg done rest before after s all e h g =
    sym (joined_more done s (segs_of (parts 44 after))) ∙ ap (λ x. joined done (with_seg x (segs_of (parts 44 after)))) g ∙ sym (ap (λ p. joined done (segs_of p)) (parts_cut 44 rest before after h)) ∙ e

pub bad_seg : (done : List Seg) (rest before after : List ℕ) (all : Option (List Seg)) → joined done (segs_of (parts 44 rest)) ≡ all → cut 44 rest ≡ Some (record { before = before; after = after }) → seg_in before ≡ None → None ≡ all
bad_seg done rest before after all e h g =
    sym (ap (λ p. joined done (segs_of p)) (parts_cut 44 rest before after h) ∙ ap (λ x. joined done (with_seg x (segs_of (parts 44 after)))) g) ∙ e

pub last_seg : (done : List Seg) (rest : List ℕ) (s : Seg) (all : Option (List Seg)) → joined done (segs_of (parts 44 rest)) ≡ all → cut 44 rest ≡ None → Some s ≡ seg_in rest → Some (done ++ (s ∷ [])) ≡ all
last_seg done rest s all e h g =
    ap (λ x. joined done (with_seg x (Some []))) g ∙ sym (ap (λ p. joined done (segs_of p)) (parts_whole 44 rest h)) ∙ e

pub bad_last : (done : List Seg) (rest : List ℕ) (all : Option (List Seg)) → joined done (segs_of (parts 44 rest)) ≡ all → cut 44 rest ≡ None → seg_in rest ≡ None → None ≡ all
bad_last done rest all e h g = sym (ap (λ p. joined done (segs_of p)) (parts_whole 44 rest h) ∙ ap (λ x. joined done (with_seg x (Some []))) g) ∙ e
