-- a text is cut where it was joined
use Rattle.std.proofs.Common.{ℕ, suc, ◌≡◌, ◌+◌, Bool, true, false, not, eqb, ltb, cond, List, [], ◌∷◌, ◌++◌, length, take, drop, Option, Some, None, refl, sym, ap, ◌∙◌, arith}
use Rattle.std.specs.List.{position_or_len}
use Rattle.std.proofs.lemmas.Bool.Decides.{nat_tests}
use Rattle.std.proofs.lemmas.List.Folds.{list_all-append}
use Rattle.std.proofs.lemmas.Bool.{and_from, not-true}
use Rattle.script_words.specs.Cuts.{Cut, cut, cut_by, ended, filled, in_front, is_byte, is_plain, is_printable, lines_of, parts, words_of}
use Rattle.script_words.proofs.Cutting.{next_of, cut_first}
use Rattle.script_laws.specs.Clean.{AreWords, IsWord, avoids, clean, is_filled, is_visible}
use Rattle.script_laws.specs.Texts.{spaced}
use Rattle.script_laws.proofs.Clean.{clean_avoids}
use Rattle.small_laws.proofs.Tests.{and_first, and_second, eqb_self, ltb_suc}
use Rattle.small_laws.proofs.Numbers.{one_more}

pub parts_at : (mark : ℕ) (w rest : List ℕ) → avoids mark w ≡ true → parts mark (w ++ (mark ∷ rest)) ≡ w ∷ parts mark rest
parts_at mark [] rest h = ap (λ t. cond t ([] ∷ parts mark rest) (in_front mark (parts mark rest))) (eqb_self mark)
parts_at mark (b ∷ w) rest h =
    ap (λ t. cond t ([] ∷ parts mark (w ++ (mark ∷ rest))) (in_front b (parts mark (w ++ (mark ∷ rest))))) (not-true (eqb b mark) (and_first (not (eqb b mark)) (avoids mark w) h))
    ∙ ap (in_front b) (parts_at mark w rest (and_second (not (eqb b mark)) (avoids mark w) h))

pub parts_end : (mark : ℕ) (w : List ℕ) → avoids mark w ≡ true → parts mark w ≡ w ∷ []
parts_end mark [] h = refl
parts_end mark (b ∷ w) h =
    ap (λ t. cond t ([] ∷ parts mark w) (in_front b (parts mark w))) (not-true (eqb b mark) (and_first (not (eqb b mark)) (avoids mark w) h))
    ∙ ap (in_front b) (parts_end mark w (and_second (not (eqb b mark)) (avoids mark w) h))

-- there is always a part
abbrev front : List (List ℕ) → List ℕ
front [] = []
front (p ∷ ps) = p

abbrev behind : List (List ℕ) → List (List ℕ)
behind [] = []
behind (p ∷ ps) = ps

front_more : (b : ℕ) (ps : List (List ℕ)) → in_front b ps ≡ front (in_front b ps) ∷ behind (in_front b ps)
front_more b [] = refl
front_more b (p ∷ ps) = refl

by_test : (t : Bool) (b : ℕ) (ps : List (List ℕ)) → cond t ([] ∷ ps) (in_front b ps) ≡ front (cond t ([] ∷ ps) (in_front b ps)) ∷ behind (cond t ([] ∷ ps) (in_front b ps))
by_test true b ps = refl
by_test false b ps = front_more b ps

some_part : (mark : ℕ) (text : List ℕ) → parts mark text ≡ front (parts mark text) ∷ behind (parts mark text)
some_part mark [] = refl
some_part mark (b ∷ bs) = by_test (eqb b mark) b (parts mark bs)

ended_more : (l p : List ℕ) (ps : List (List ℕ)) → ended (l ∷ p ∷ ps) ≡ l ∷ ended (p ∷ ps)
ended_more [] p ps = refl
ended_more (b ∷ l) p ps = refl

pub line_first : (line text : List ℕ) → avoids 10 line ≡ true → lines_of (line ++ (10 ∷ text)) ≡ line ∷ lines_of text
line_first line text h =
    ap ended (parts_at 10 line text h ∙ ap (λ p. line ∷ p) (some_part 10 text)) ∙ ended_more line (front (parts 10 text)) (behind (parts 10 text)) ∙ ap (λ p. line ∷ ended p) (sym (some_part 10 text))

filled_keeps : (w : List ℕ) (ps : List (List ℕ)) → is_filled w ≡ true → filled (w ∷ ps) ≡ w ∷ filled ps
filled_keeps [] ps h = absurd (cc)
filled_keeps (b ∷ w) ps h = refl

words_first : (w rest : List ℕ) → IsWord w → words_of (w ++ (32 ∷ rest)) ≡ w ∷ words_of rest
words_first w rest h = ap filled (parts_at 32 w rest (clean_avoids 32 w (omega arith) h.clean_is)) ∙ filled_keeps w (parts 32 rest) h.filled_is

words_last : (w : List ℕ) → IsWord w → words_of w ≡ w ∷ []
words_last w h = ap filled (parts_end 32 w (clean_avoids 32 w (omega arith) h.clean_is)) ∙ filled_keeps w [] h.filled_is

pub words_spaced : (ws : List (List ℕ)) → AreWords ws → words_of (spaced ws) ≡ ws
words_spaced [] h = refl
words_spaced (w ∷ []) h = words_last w h.0
words_spaced (w ∷ v ∷ ws) h = words_first w (spaced (v ∷ ws)) h.0 ∙ ap (λ x. w ∷ x) (words_spaced (v ∷ ws) h.1)

visible_printable : (b : ℕ) → is_visible b ≡ true → is_printable b ≡ true
visible_printable b h = grind (arith, nat_tests)

clean_plain : (w : List ℕ) → clean w ≡ true → is_plain w ≡ true
clean_plain [] h = refl
clean_plain (b ∷ w) h = and_from (is_printable b) (is_plain w) (visible_printable b (and_first (is_visible b) (clean w) h)) (clean_plain w (and_second (is_visible b) (clean w) h))

pub plain_spaced : (ws : List (List ℕ)) → AreWords ws → is_plain (spaced ws) ≡ true
plain_spaced [] h = refl
plain_spaced (w ∷ []) h = clean_plain w (h.0).clean_is
plain_spaced (w ∷ v ∷ ws) h = list_all-append is_printable w (32 ∷ spaced (v ∷ ws)) ∙ and_from (is_plain w) (is_plain (spaced (v ∷ ws))) (clean_plain w (h.0).clean_is) (plain_spaced (v ∷ ws) h.1)

printable_no_newline : (b : ℕ) → is_printable b ≡ true → not (eqb b 10) ≡ true
printable_no_newline b h = grind (arith, nat_tests)

plain_one_line : (w : List ℕ) → is_plain w ≡ true → avoids 10 w ≡ true
plain_one_line [] h = refl
plain_one_line (b ∷ w) h = and_from (not (eqb b 10)) (avoids 10 w) (printable_no_newline b (and_first (is_printable b) (is_plain w) h)) (plain_one_line w (and_second (is_printable b) (is_plain w) h))

pub first_line : (ws : List (List ℕ)) (text : List ℕ) → AreWords ws → lines_of (spaced ws ++ (10 ∷ text)) ≡ spaced ws ∷ lines_of text
first_line ws text h = line_first (spaced ws) text (plain_one_line (spaced ws) (plain_spaced ws h))

-- a cut

abbrev later : ℕ → Option Cut → Option Cut
later b None = None
later b (Some c) = Some (record { before = b ∷ c.before; after = c.after })

later_by : (t : Bool) (b n : ℕ) (bs : List ℕ) → cut_by (b ∷ bs) (cond t (Some (suc n)) None) ≡ later b (cut_by bs (cond t (Some n) None))
later_by true b n bs = ap (λ k. Some (record { before = b ∷ take n bs; after = drop k (b ∷ bs) })) (next_of n)
later_by false b n bs = refl

cut_later : (mark b : ℕ) (bs : List ℕ) → eqb b mark ≡ false → cut mark (b ∷ bs) ≡ later b (cut mark bs)
cut_later mark b bs h =
    let q = position_or_len (is_byte mark) bs in
    let p : position_or_len (is_byte mark) (b ∷ bs) ≡ suc (position_or_len (is_byte mark) bs) = ap (λ t. cond (not t) (1 + position_or_len (is_byte mark) bs) 0) h ∙ one_more (position_or_len (is_byte mark) bs) in
    ap (λ n. cut_by (b ∷ bs) (cond (ltb n (suc (length bs))) (Some n) None)) p
    ∙ ap (λ t. cut_by (b ∷ bs) (cond t (Some (suc (position_or_len (is_byte mark) bs))) None)) (ltb_suc (position_or_len (is_byte mark) bs) (length bs))
    ∙ later_by (ltb (position_or_len (is_byte mark) bs) (length bs)) b (position_or_len (is_byte mark) bs) bs

pub cut_at : (mark : ℕ) (w rest : List ℕ) → avoids mark w ≡ true → cut mark (w ++ (mark ∷ rest)) ≡ Some (record { before = w; after = rest })
cut_at mark [] rest h = cut_first mark mark rest (eqb_self mark)
cut_at mark (b ∷ w) rest h =
    cut_later mark b (w ++ (mark ∷ rest)) (not-true (eqb b mark) (and_first (not (eqb b mark)) (avoids mark w) h))
    ∙ ap (later b) (cut_at mark w rest (and_second (not (eqb b mark)) (avoids mark w) h))

cut_empty : (mark : ℕ) → cut mark [] ≡ None
cut_empty mark = refl

pub no_cut : (mark : ℕ) (w : List ℕ) → avoids mark w ≡ true → cut mark w ≡ None
no_cut mark [] h = cut_empty mark
no_cut mark (b ∷ w) h =
    cut_later mark b w (not-true (eqb b mark) (and_first (not (eqb b mark)) (avoids mark w) h)) ∙ ap (later b) (no_cut mark w (and_second (not (eqb b mark)) (avoids mark w) h))
