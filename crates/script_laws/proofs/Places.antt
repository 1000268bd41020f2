-- what printed pairs, segments and lists are read as
use Rattle.std.proofs.Common.{ℕ, ◌≡◌, ◌^◌, ◌<◌, ◌≤◌, true, List, [], ◌∷◌, ◌++◌, length, map, Some, refl, ap, ◌∙◌, arith, append-nil}
use Rattle.std.specs.Prelude.{decimal}
use Rattle.page_pool.specs.declared.segs.Seg.{Seg}
use Rattle.script_words.specs.Cuts.{parts}
use Rattle.script_words.specs.Places.{both as both_numbers, choice_by, choice_in, pair_by, seg_by, seg_in, seg_with, segs_in, segs_of, spot_in, with_seg, word32, word64}
use Rattle.script_lines.specs.Forms.{leg_by, leg_word}
use Rattle.script_text.specs.Printed.{more_segs, seg_text, segs_text}
use Rattle.script_laws.specs.Clean.{IsWord, avoids, clean}
use Rattle.script_laws.proofs.Clean.{avoids_both, clean_both, decimal_digits, decimal_word, digits_avoid, digits_avoid_above, digits_clean, word_more}
use Rattle.script_laws.proofs.Texts.{cut_at, no_cut, parts_at, parts_end}
use Rattle.script_laws.proofs.Words.{within_back}

pub word32_back : (n : ℕ) → n < 2 ^ 32 → word32 (decimal n) ≡ Some n
word32_back n h = within_back 0 4294967295 n (omega arith) (omega arith) (omega arith)

pub word64_back : (n : ℕ) → n < 2 ^ 64 → word64 (decimal n) ≡ Some n
word64_back n h = within_back 0 18446744073709551615 n (omega arith) (omega arith) (omega arith)

colon_free : (n : ℕ) → n < 2 ^ 64 → avoids 58 (decimal n) ≡ true
colon_free n h = digits_avoid_above 58 (decimal n) (omega arith) (decimal_digits n h)

pub pair_clean : (a b mark : ℕ) → a < 2 ^ 64 → b < 2 ^ 64 → clean (mark ∷ []) ≡ true → clean (decimal a ++ (mark ∷ decimal b)) ≡ true
pair_clean a b mark g h m =
    clean_both (decimal a) (mark ∷ decimal b) (digits_clean (decimal a) (decimal_digits a g)) (clean_both (mark ∷ []) (decimal b) m (digits_clean (decimal b) (decimal_digits b h)))

pub pair_word : (a b mark : ℕ) → a < 2 ^ 64 → b < 2 ^ 64 → clean (mark ∷ []) ≡ true → IsWord (decimal a ++ (mark ∷ decimal b))
pair_word a b mark g h m = word_more (decimal a) (mark ∷ decimal b) (decimal_word a g) (clean_both (mark ∷ []) (decimal b) m (digits_clean (decimal b) (decimal_digits b h)))

pub spot_back : (a b : ℕ) → a < 2 ^ 32 → b < 2 ^ 32 → spot_in (decimal a ++ (58 ∷ decimal b)) ≡ Some (a, b)
spot_back a b g h =
    ap (pair_by word32) (cut_at 58 (decimal a) (decimal b) (colon_free a (omega arith)))
    ∙ ap (λ x. both_numbers x (word32 (decimal b))) (word32_back a g) ∙ ap (both_numbers (Some a)) (word32_back b h)

pub leg_back : (a b : ℕ) → a < 2 ^ 32 → b < 2 ^ 64 → leg_word (decimal a ++ (58 ∷ decimal b)) ≡ Some (record { dev = a; at = b })
leg_back a b g h =
    ap (λ c. leg_by (pair_by word64 c)) (cut_at 58 (decimal a) (decimal b) (colon_free a (omega arith)))
    ∙ ap (λ x. leg_by (both_numbers x (word64 (decimal b)))) (word32_back a g) ∙ ap (λ x. leg_by (both_numbers (Some a) x)) (word64_back b h)

slash_free : (n : ℕ) → n < 2 ^ 64 → avoids 47 (decimal n) ≡ true
slash_free n h = digits_avoid 47 (decimal n) (omega arith) (decimal_digits n h)

pub choice_alone : (a : ℕ) → a < 2 ^ 32 → choice_in (decimal a) ≡ Some (a, 0)
choice_alone a g = ap (choice_by (decimal a)) (no_cut 47 (decimal a) (slash_free a (omega arith))) ∙ ap (λ x. both_numbers x (Some 0)) (word32_back a g)

pub choice_both : (a b : ℕ) → a < 2 ^ 32 → b < 2 ^ 32 → choice_in (decimal a ++ (47 ∷ decimal b)) ≡ Some (a, b)
choice_both a b g h =
    ap (choice_by (decimal a ++ (47 ∷ decimal b))) (cut_at 47 (decimal a) (decimal b) (slash_free a (omega arith)))
    ∙ ap (λ x. both_numbers x (word32 (decimal b))) (word32_back a g) ∙ ap (both_numbers (Some a)) (word32_back b h)

pub record IsSeg (s : Seg) : Type 0 where
  pub page_fits : s.page < 2 ^ 32
  pub off_fits : s.off < 2 ^ 32
  pub len_fits : s.len < 2 ^ 32

abbrev pub AreSegs : List Seg → Type 0
AreSegs [] = Unit {0}
AreSegs (s ∷ segs) = IsSeg s × AreSegs segs

pub seg_word : (s : Seg) → IsSeg s → IsWord (seg_text s)
seg_word s h =
    word_more (decimal s.page) (58 ∷ (decimal s.off ++ (58 ∷ decimal s.len))) (decimal_word s.page (let p = h.page_fits in omega (arith, p)))
    (clean_both (58 ∷ []) (decimal s.off ++ (58 ∷ decimal s.len)) refl (pair_clean s.off s.len 58 (let p = h.off_fits in omega (arith, p)) (let p = h.len_fits in omega (arith, p)) refl))

pub seg_back : (s : Seg) → IsSeg s → seg_in (seg_text s) ≡ Some s
seg_back s h =
    let p = h.page_fits in
    ap seg_by (cut_at 58 (decimal s.page) (decimal s.off ++ (58 ∷ decimal s.len)) (colon_free s.page (omega (arith, p))))
    ∙ ap (λ x. seg_with x (spot_in (decimal s.off ++ (58 ∷ decimal s.len)))) (word32_back s.page h.page_fits)
    ∙ ap (seg_with (Some s.page)) (spot_back s.off s.len h.off_fits h.len_fits)

comma_free : (n : ℕ) → n < 2 ^ 32 → avoids 44 (decimal n) ≡ true
comma_free n h = digits_avoid 44 (decimal n) (omega arith) (decimal_digits n (omega arith))

seg_comma_free : (s : Seg) → IsSeg s → avoids 44 (seg_text s) ≡ true
seg_comma_free s h =
    avoids_both 44 (decimal s.page) (58 ∷ (decimal s.off ++ (58 ∷ decimal s.len))) (comma_free s.page h.page_fits)
    (avoids_both 44 (58 ∷ []) (decimal s.off ++ (58 ∷ decimal s.len)) refl
    (avoids_both 44 (decimal s.off) (58 ∷ decimal s.len) (comma_free s.off h.off_fits) (avoids_both 44 (58 ∷ []) (decimal s.len) refl (comma_free s.len h.len_fits))))

parts_segs : (s : Seg) (segs : List Seg) → IsSeg s → AreSegs segs → parts 44 (seg_text s ++ more_segs segs) ≡ seg_text s ∷ map seg_text segs
parts_segs s [] g h = ap (parts 44) (append-nil (seg_text s)) ∙ parts_end 44 (seg_text s) (seg_comma_free s g)
parts_segs s (t ∷ segs) g h = parts_at 44 (seg_text s) (seg_text t ++ more_segs segs) (seg_comma_free s g) ∙ ap (λ ps. seg_text s ∷ ps) (parts_segs t segs h.0 h.1)

segs_read : (segs : List Seg) → AreSegs segs → segs_of (map seg_text segs) ≡ Some segs
segs_read [] h = refl
segs_read (s ∷ segs) h = ap (λ x. with_seg x (segs_of (map seg_text segs))) (seg_back s h.0) ∙ ap (with_seg (Some s)) (segs_read segs h.1)

pub segs_back : (segs : List Seg) → AreSegs segs → 1 ≤ length segs → segs_in (segs_text segs) ≡ Some segs
segs_back [] h l = absurd (omega arith)
segs_back (s ∷ segs) h l = ap segs_of (parts_segs s segs h.0 h.1) ∙ segs_read (s ∷ segs) h

more_clean : (segs : List Seg) → AreSegs segs → clean (more_segs segs) ≡ true
more_clean [] h = refl
more_clean (s ∷ segs) h = clean_both (44 ∷ []) (seg_text s ++ more_segs segs) refl (clean_both (seg_text s) (more_segs segs) (seg_word s h.0).clean_is (more_clean segs h.1))

pub segs_word : (segs : List Seg) → AreSegs segs → 1 ≤ length segs → IsWord (segs_text segs)
segs_word [] h l = absurd (omega arith)
segs_word (s ∷ segs) h l = word_more (seg_text s) (more_segs segs) (seg_word s h.0) (more_clean segs h.1)
