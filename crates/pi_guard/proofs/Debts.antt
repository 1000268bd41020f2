-- The steps of a trail and its payment: of four words, and of eight.
use Rattle.std.proofs.Common.{◌≡◌, ℕ, ◌+◌, ◌<◌, ◌≤◌, ◌^◌, List, [], ◌∷◌, ◌++◌, length, take, drop, replicate, refl, sym, ap, ◌∙◌, arith, lit≤, append_assoc, append-nil, length-append, take-add}
use Rattle.std.specs.Prelude.{bit_xor}
use Rattle.std.proofs.lemmas.List.{drop_at, take_at}
use lib.Lanes.{zip2, chunk}
use Rattle.pi_guard.specs.Register.{register}
use Rattle.pi_guard.specs.AfterZeros.{later}
use Rattle.pi_guard.specs.Trails.{owed_at, owed_by, wide_owed_by, owed_next, wide_owed_next}
use Rattle.pi_guard.proofs.Sparse.{Sparse, sparse_64, sparse_128}
use Rattle.pi_guard.proofs.Trailing.{nexts, followed, paid, settled, none_owed, chunk_past, chunk_within}

paid-next : (width i j k : ℕ) (m x rest : List ℕ) (ms : List (List ℕ)) → length x ≡ width →
    paid width i j k (m ∷ ms) (x ++ rest) ≡ zip2 bit_xor m (nexts i j k width (x ++ rest)) ++ paid width i j k ms rest
paid-next width i j k m x rest ms l = ap (λ v. zip2 bit_xor m (nexts i j k width (x ++ rest)) ++ paid width i j k ms v) (drop_at x rest width l)

-- ---- four words

abbrev pub four_due : ℕ → ℕ → ℕ → ℕ → List ℕ → List ℕ → List ℕ → List ℕ
four_due width p j k a b c = zip2 bit_xor (chunk p width (b ++ c)) (zip2 bit_xor (chunk j width (a ++ b)) (chunk k width (a ++ b)))

next_is : (width p j k : ℕ) (x y z rest : List ℕ) → p ≤ width → j ≤ width → k ≤ width → length x ≡ width → length y ≡ width → length z ≡ width →
    nexts (width + p) j k width (x ++ (y ++ (z ++ rest))) ≡ four_due width p j k x y z
next_is width p j k x y z rest hp hj hk lx ly lz =
    let e1 : chunk (width + p) width (x ++ (y ++ (z ++ rest))) ≡ chunk p width (y ++ z) =
    chunk_past width p width x (y ++ (z ++ rest)) lx ∙ ap (chunk p width) (sym (append_assoc y z rest)) ∙ chunk_within p width (y ++ z) rest (omega (arith, length-append y z)) in
    let a = sym (append_assoc x y (z ++ rest)) in
    let e2 : chunk j width (x ++ (y ++ (z ++ rest))) ≡ chunk j width (x ++ y) = ap (chunk j width) a ∙ chunk_within j width (x ++ y) (z ++ rest) (omega (arith, length-append x y)) in
    let e3 : chunk k width (x ++ (y ++ (z ++ rest))) ≡ chunk k width (x ++ y) = ap (chunk k width) a ∙ chunk_within k width (x ++ y) (z ++ rest) (omega (arith, length-append x y)) in
    ap (λ v. zip2 bit_xor v (zip2 bit_xor (chunk j width (x ++ (y ++ (z ++ rest)))) (chunk k width (x ++ (y ++ (z ++ rest)))))) e1
    ∙ ap (λ v. zip2 bit_xor (chunk p width (y ++ z)) (zip2 bit_xor v (chunk k width (x ++ (y ++ (z ++ rest)))))) e2
    ∙ ap (λ v. zip2 bit_xor (chunk p width (y ++ z)) (zip2 bit_xor (chunk j width (x ++ y)) v)) e3

pays : (width p j k : ℕ) (m x y z rest : List ℕ) (ms : List (List ℕ)) → p ≤ width → j ≤ width → k ≤ width → length x ≡ width → length y ≡ width → length z ≡ width →
    paid width (width + p) j k (m ∷ ms) (x ++ (y ++ (z ++ rest))) ≡ zip2 bit_xor m (four_due width p j k x y z) ++ paid width (width + p) j k ms (y ++ (z ++ rest))
pays width p j k m x y z rest ms hp hj hk lx ly lz =
    paid-next width (width + p) j k m x (y ++ (z ++ rest)) ms lx
    ∙ ap (λ v. zip2 bit_xor m v ++ paid width (width + p) j k ms (y ++ (z ++ rest))) (next_is width p j k x y z rest hp hj hk lx ly lz)

pub followed_four : (width n p j k r : ℕ) (a b c d m : List ℕ) → ((r : ℕ) → r < 2 ^ 16 → Sparse n (width + p) j k r) → p ≤ width → j ≤ width → k ≤ width → n ≡ width + (width + (width + width)) →
    length a ≡ width → length b ≡ width → length c ≡ width → length d ≡ width → length m ≡ width →
    owed_at (width + p) j k (a ++ (b ++ (c ++ d))) ≡ later n r → owed_at (width + p) j k (b ++ (c ++ (d ++ zip2 bit_xor m (four_due width p j k a b c)))) ≡ later n (register r m)
followed_four width n p j k r a b c d m sparse hp hj hk hn la lb lc ld lm h =
    let i = width + p in
    let w = a ++ (b ++ (c ++ d)) in
    let lw : length w ≡ n = omega (arith, length-append a (b ++ (c ++ d)), length-append b (c ++ d), length-append c d) in
    let e = zip2 bit_xor m (nexts i j k width w) in
    let f : b ++ (c ++ (d ++ e)) ≡ drop width w ++ e = sym (append_assoc b (c ++ d) e ∙ ap (λ l. b ++ l) (append_assoc c d e)) ∙ ap (λ v. v ++ e) (sym (drop_at a (b ++ (c ++ d)) width la)) in
    ap (λ v. owed_at i j k (b ++ (c ++ (d ++ zip2 bit_xor m v)))) (sym (next_is width p j k a b c d hp hj hk la lb lc))
    ∙ ap (owed_at i j k) f ∙ followed width n i j k r w m sparse (omega arith) (omega arith) (omega arith) lw lm h

pub settled_four : (width n p j k r : ℕ) (z a b c d m1 m2 m3 m4 : List ℕ) → p ≤ width → j ≤ width → k ≤ width → n ≡ width + (width + (width + width)) → length z ≡ width → replicate (width + width) 0 ≡ z ++ z →
    length a ≡ width → length b ≡ width → length c ≡ width → length d ≡ width → length m1 ≡ width → length m2 ≡ width → length m3 ≡ width → length m4 ≡ width →
    owed_at (width + p) j k (a ++ (b ++ (c ++ d))) ≡ later n r →
    register 0 (zip2 bit_xor m1 (four_due width p j k a b c) ++ (zip2 bit_xor m2 (four_due width p j k b c d) ++ (zip2 bit_xor m3 (four_due width p j k c d z) ++ zip2 bit_xor m4 (four_due width p j k d z z)))) ≡ register r (m1 ++ (m2 ++ (m3 ++ m4)))
settled_four width n p j k r z a b c d m1 m2 m3 m4 hp hj hk hn lz ez la lb lc ld l1 l2 l3 l4 h =
    let i = width + p in
    let w = a ++ (b ++ (c ++ d)) in
    let lw : length w ≡ n = omega (arith, length-append a (b ++ (c ++ d)), length-append b (c ++ d), length-append c d) in
    let q1 = zip2 bit_xor m1 (four_due width p j k a b c) in
    let q2 = zip2 bit_xor m2 (four_due width p j k b c d) in
    let q3 = zip2 bit_xor m3 (four_due width p j k c d z) in
    let q4 = zip2 bit_xor m4 (four_due width p j k d z z) in
    let ms = m1 ∷ m2 ∷ m3 ∷ m4 ∷ [] in
    let v : w ++ replicate (width + width) 0 ≡ a ++ (b ++ (c ++ (d ++ (z ++ z)))) =
    ap (λ l. w ++ l) ez ∙ append_assoc a (b ++ (c ++ d)) (z ++ z) ∙ ap (λ l. a ++ l) (append_assoc b (c ++ d) (z ++ z) ∙ ap (λ l. b ++ l) (append_assoc c d (z ++ z))) in
    let all : paid width i j k ms (a ++ (b ++ (c ++ (d ++ (z ++ z))))) ≡ q1 ++ (q2 ++ (q3 ++ q4)) =
    pays width p j k m1 a b c (d ++ (z ++ z)) (m2 ∷ m3 ∷ m4 ∷ []) hp hj hk la lb lc
    ∙ ap (λ l. q1 ++ l) (pays width p j k m2 b c d (z ++ z) (m3 ∷ m4 ∷ []) hp hj hk lb lc ld
    ∙ ap (λ l. q2 ++ l) (pays width p j k m3 c d z z (m4 ∷ []) hp hj hk lc ld lz
    ∙ ap (λ l. q3 ++ l) (ap (λ l. paid width i j k (m4 ∷ []) (d ++ (z ++ l))) (sym (append-nil z)) ∙ pays width p j k m4 d z z [] [] hp hj hk ld lz lz ∙ append-nil q4))) in
    ap (register 0) (sym (ap (paid width i j k ms) v ∙ all))
    ∙ settled width n (width + width) i j k r w ms (omega arith) (omega arith) (omega arith) (omega arith) lw (l1, (l2, (l3, (l4, tt)))) (omega arith) h
    ∙ ap (λ l. register r (m1 ++ (m2 ++ (m3 ++ l)))) (append-nil m4)

-- of 64 bytes

pub none_owed_64 : owed_by (replicate 64 0) ≡ later 64 0
none_owed_64 = none_owed 64 28 8 1 refl refl refl

pub followed_64 : (r : ℕ) (a b c d m : List ℕ) → length a ≡ 16 → length b ≡ 16 → length c ≡ 16 → length d ≡ 16 → length m ≡ 16 →
    owed_by (a ++ (b ++ (c ++ d))) ≡ later 64 r → owed_by (b ++ (c ++ (d ++ zip2 bit_xor m (owed_next a b c)))) ≡ later 64 (register r m)
followed_64 r a b c d m la lb lc ld lm h = followed_four 16 64 12 8 1 r a b c d m sparse_64 (lit≤ tt) (lit≤ tt) (lit≤ tt) refl la lb lc ld lm h

pub settled_64 : (r : ℕ) (a b c d m n o p : List ℕ) → length a ≡ 16 → length b ≡ 16 → length c ≡ 16 → length d ≡ 16 → length m ≡ 16 → length n ≡ 16 → length o ≡ 16 → length p ≡ 16 → owed_by (a ++ (b ++ (c ++ d))) ≡ later 64 r →
    register 0 (zip2 bit_xor m (owed_next a b c) ++ (zip2 bit_xor n (owed_next b c d) ++ (zip2 bit_xor o (owed_next c d (replicate 16 0)) ++ zip2 bit_xor p (owed_next d (replicate 16 0) (replicate 16 0))))) ≡ register r (m ++ (n ++ (o ++ p)))
settled_64 r a b c d m n o p la lb lc ld lm ln lo lp h =
    settled_four 16 64 12 8 1 r (replicate 16 0) a b c d m n o p (lit≤ tt) (lit≤ tt) (lit≤ tt) refl refl refl la lb lc ld lm ln lo lp h

-- ---- words of a list

words_on : (width n m : ℕ) (xs : List ℕ) → m ≡ n + width → take m xs ≡ take n xs ++ chunk n width xs
words_on width n m xs e = ap (λ k. take k xs) e ∙ take-add n width xs

-- four words, each of which begins where the one before ends
four_from : (width i j k l m : ℕ) (xs : List ℕ) → j ≡ i + width → k ≡ j + width → l ≡ k + width → m ≡ l + width →
    take i xs ++ (chunk i width xs ++ (chunk j width xs ++ (chunk k width xs ++ chunk l width xs))) ≡ take m xs
four_from width i j k l m xs ej ek el em =
    let a = chunk i width xs in
    let b = chunk j width xs in
    let c = chunk k width xs in
    let d = chunk l width xs in
    sym (words_on width l m xs em
    ∙ ap (λ v. v ++ d) (words_on width k l xs el ∙ ap (λ v. v ++ c) (words_on width j k xs ek ∙ ap (λ v. v ++ b) (words_on width i j xs ej)))
    ∙ append_assoc ((take i xs ++ a) ++ b) c d ∙ append_assoc (take i xs ++ a) b (c ++ d) ∙ append_assoc (take i xs) a (b ++ (c ++ d)))

pub four_more : (at : ℕ) (xs : List ℕ) →
    take at xs ++ (chunk at 16 xs ++ (chunk (at + 16) 16 xs ++ (chunk (at + 32) 16 xs ++ chunk (at + 48) 16 xs))) ≡ take (at + 64) xs
four_more at xs = four_from 16 at (at + 16) (at + 32) (at + 48) (at + 64) xs (omega arith) (omega arith) (omega arith) (omega arith)

eight_from : (width i1 i2 i3 i4 i5 i6 i7 i8 m : ℕ) (xs : List ℕ) → i2 ≡ i1 + width → i3 ≡ i2 + width → i4 ≡ i3 + width → i5 ≡ i4 + width → i6 ≡ i5 + width → i7 ≡ i6 + width → i8 ≡ i7 + width → m ≡ i8 + width →
    take i1 xs ++ (chunk i1 width xs ++ (chunk i2 width xs ++ (chunk i3 width xs ++ (chunk i4 width xs ++ (chunk i5 width xs ++ (chunk i6 width xs ++ (chunk i7 width xs ++ (chunk i8 width xs)))))))) ≡ take m xs
eight_from width i1 i2 i3 i4 i5 i6 i7 i8 m xs e2 e3 e4 e5 e6 e7 e8 em =
    let c1 = chunk i1 width xs in
    let c2 = chunk i2 width xs in
    let c3 = chunk i3 width xs in
    let c4 = chunk i4 width xs in
    let back = chunk i5 width xs ++ (chunk i6 width xs ++ (chunk i7 width xs ++ (chunk i8 width xs))) in
    sym (append_assoc (take i1 xs) (c1 ++ (c2 ++ (c3 ++ c4))) back ∙ ap (λ l. take i1 xs ++ l) (append_assoc c1 (c2 ++ (c3 ++ c4)) back ∙ ap (λ l. c1 ++ l) (append_assoc c2 (c3 ++ c4) back ∙ ap (λ l. c2 ++ l) (append_assoc c3 c4 back))))
    ∙ ap (λ l. l ++ back) (four_from width i1 i2 i3 i4 i5 xs e2 e3 e4 e5) ∙ four_from width i5 i6 i7 i8 m xs e6 e7 e8 em

-- the 128 bytes from a place on, and the 256
pub eight_more : (at : ℕ) (xs : List ℕ) →
    take at xs ++ (chunk at 16 xs ++ (chunk (at + 16) 16 xs ++ (chunk (at + 32) 16 xs ++ (chunk (at + 48) 16 xs ++ (chunk (at + 64) 16 xs ++ (chunk (at + 80) 16 xs ++ (chunk (at + 96) 16 xs ++ (chunk (at + 112) 16 xs)))))))) ≡ take (at + 128) xs
eight_more at xs = eight_from 16 at (at + 16) (at + 32) (at + 48) (at + 64) (at + 80) (at + 96) (at + 112) (at + 128) xs (omega arith) (omega arith) (omega arith) (omega arith) (omega arith) (omega arith) (omega arith) (omega arith)

pub eight_more_32 : (at : ℕ) (xs : List ℕ) →
    take at xs ++ (chunk at 32 xs ++ (chunk (at + 32) 32 xs ++ (chunk (at + 64) 32 xs ++ (chunk (at + 96) 32 xs ++ (chunk (at + 128) 32 xs ++ (chunk (at + 160) 32 xs ++ (chunk (at + 192) 32 xs ++ (chunk (at + 224) 32 xs)))))))) ≡ take (at + 256) xs
eight_more_32 at xs = eight_from 32 at (at + 32) (at + 64) (at + 96) (at + 128) (at + 160) (at + 192) (at + 224) (at + 256) xs (omega arith) (omega arith) (omega arith) (omega arith) (omega arith) (omega arith) (omega arith) (omega arith)

-- ---- eight words

abbrev pub eight_due : ℕ → ℕ → ℕ → List ℕ → List ℕ → List ℕ → List ℕ → List ℕ
eight_due width p k a b d e = zip2 bit_xor (chunk p width (d ++ e)) (zip2 bit_xor b (chunk k width (a ++ b)))

-- how far on from the front of the eight words the first debt is due
abbrev pub three_and : ℕ → ℕ → ℕ
three_and width p = width + (width + (width + p))

wide_next_is : (width p k : ℕ) (a b c d e rest : List ℕ) → p ≤ width → k ≤ width → length a ≡ width → length b ≡ width → length c ≡ width → length d ≡ width → length e ≡ width →
    nexts (three_and width p) width k width (a ++ (b ++ (c ++ (d ++ (e ++ rest))))) ≡ eight_due width p k a b d e
wide_next_is width p k a b c d e rest hp hk la lb lc ld le =
    let r1 = c ++ (d ++ (e ++ rest)) in
    let all = a ++ (b ++ r1) in
    let near : chunk (three_and width p) width all ≡ chunk p width (d ++ e) =
    chunk_past width (width + (width + p)) width a (b ++ r1) la ∙ chunk_past width (width + p) width b r1 lb ∙ chunk_past width p width c (d ++ (e ++ rest)) lc
    ∙ ap (chunk p width) (sym (append_assoc d e rest)) ∙ chunk_within p width (d ++ e) rest (omega (arith, length-append d e)) in
    let middle : chunk width width all ≡ b = ap (take width) (drop_at a (b ++ r1) width la) ∙ take_at b r1 width lb in
    let far : chunk k width all ≡ chunk k width (a ++ b) = ap (chunk k width) (sym (append_assoc a b r1)) ∙ chunk_within k width (a ++ b) r1 (omega (arith, length-append a b)) in
    ap (λ v. zip2 bit_xor v (zip2 bit_xor (chunk width width all) (chunk k width all))) near
    ∙ ap (λ v. zip2 bit_xor (chunk p width (d ++ e)) (zip2 bit_xor v (chunk k width all))) middle
    ∙ ap (λ v. zip2 bit_xor (chunk p width (d ++ e)) (zip2 bit_xor b v)) far

pays_wide : (width p k : ℕ) (m a b c d e rest : List ℕ) (ms : List (List ℕ)) → p ≤ width → k ≤ width → length a ≡ width → length b ≡ width → length c ≡ width → length d ≡ width → length e ≡ width →
    paid width (three_and width p) width k (m ∷ ms) (a ++ (b ++ (c ++ (d ++ (e ++ rest))))) ≡ zip2 bit_xor m (eight_due width p k a b d e) ++ paid width (three_and width p) width k ms (b ++ (c ++ (d ++ (e ++ rest))))
pays_wide width p k m a b c d e rest ms hp hk la lb lc ld le =
    paid-next width (three_and width p) width k m a (b ++ (c ++ (d ++ (e ++ rest)))) ms la
    ∙ ap (λ v. zip2 bit_xor m v ++ paid width (three_and width p) width k ms (b ++ (c ++ (d ++ (e ++ rest))))) (wide_next_is width p k a b c d e rest hp hk la lb lc ld le)

eight_long : (width : ℕ) (a b c d e f g h : List ℕ) → length a ≡ width → length b ≡ width → length c ≡ width → length d ≡ width → length e ≡ width → length f ≡ width → length g ≡ width → length h ≡ width →
    length (a ++ (b ++ (c ++ (d ++ (e ++ (f ++ (g ++ h))))))) ≡ width + (width + (width + (width + (width + (width + (width + width))))))
eight_long width a b c d e f g h la lb lc ld le lf lg lh =
    omega (arith, length-append a (b ++ (c ++ (d ++ (e ++ (f ++ (g ++ h)))))), length-append b (c ++ (d ++ (e ++ (f ++ (g ++ h))))), length-append c (d ++ (e ++ (f ++ (g ++ h)))), length-append d (e ++ (f ++ (g ++ h))), length-append e (f ++ (g ++ h)), length-append f (g ++ h), length-append g h)

-- what is added behind seven more
behind_eight : (a b c d e f g h x : List ℕ) → (a ++ (b ++ (c ++ (d ++ (e ++ (f ++ (g ++ h))))))) ++ x ≡ a ++ (b ++ (c ++ (d ++ (e ++ (f ++ (g ++ (h ++ x)))))))
behind_eight a b c d e f g h x =
    append_assoc a (b ++ (c ++ (d ++ (e ++ (f ++ (g ++ h)))))) x ∙ ap (λ l. a ++ l) (append_assoc b (c ++ (d ++ (e ++ (f ++ (g ++ h))))) x ∙ ap (λ l. b ++ l) (append_assoc c (d ++ (e ++ (f ++ (g ++ h)))) x ∙ ap (λ l. c ++ l) (append_assoc d (e ++ (f ++ (g ++ h))) x ∙ ap (λ l. d ++ l) (append_assoc e (f ++ (g ++ h)) x ∙ ap (λ l. e ++ l) (append_assoc f (g ++ h) x ∙ ap (λ l. f ++ l) (append_assoc g h x))))))

pub followed_eight : (width n p k r : ℕ) (a b c d e f g h m : List ℕ) → ((r : ℕ) → r < 2 ^ 16 → Sparse n (three_and width p) width k r) → p ≤ width → k ≤ width → n ≡ width + (width + (width + (width + (width + (width + (width + width)))))) →
    length a ≡ width → length b ≡ width → length c ≡ width → length d ≡ width → length e ≡ width → length f ≡ width → length g ≡ width → length h ≡ width → length m ≡ width →
    owed_at (three_and width p) width k (a ++ (b ++ (c ++ (d ++ (e ++ (f ++ (g ++ h))))))) ≡ later n r →
    owed_at (three_and width p) width k (b ++ (c ++ (d ++ (e ++ (f ++ (g ++ (h ++ (zip2 bit_xor m (eight_due width p k a b d e))))))))) ≡ later n (register r m)
followed_eight width n p k r a b c d e f g h m sparse hp hk hn la lb lc ld le lf lg lh lm o =
    let i = three_and width p in
    let w = a ++ (b ++ (c ++ (d ++ (e ++ (f ++ (g ++ h)))))) in
    let lw : length w ≡ n = eight_long width a b c d e f g h la lb lc ld le lf lg lh ∙ sym hn in
    let x = zip2 bit_xor m (nexts i width k width w) in
    let s : b ++ (c ++ (d ++ (e ++ (f ++ (g ++ (h ++ x)))))) ≡ drop width w ++ x =
    sym (append_assoc b (c ++ (d ++ (e ++ (f ++ (g ++ h))))) x ∙ ap (λ l. b ++ l) (append_assoc c (d ++ (e ++ (f ++ (g ++ h)))) x ∙ ap (λ l. c ++ l) (append_assoc d (e ++ (f ++ (g ++ h))) x ∙ ap (λ l. d ++ l) (append_assoc e (f ++ (g ++ h)) x ∙ ap (λ l. e ++ l) (append_assoc f (g ++ h) x ∙ ap (λ l. f ++ l) (append_assoc g h x)))))) ∙ ap (λ v. v ++ x) (sym (drop_at a (b ++ (c ++ (d ++ (e ++ (f ++ (g ++ h)))))) width la)) in
    ap (λ v. owed_at i width k (b ++ (c ++ (d ++ (e ++ (f ++ (g ++ (h ++ (zip2 bit_xor m v))))))))) (sym (wide_next_is width p k a b c d e (f ++ (g ++ h)) hp hk la lb lc ld le))
    ∙ ap (owed_at i width k) s ∙ followed width n i width k r w m sparse (omega arith) (omega arith) (omega arith) lw lm o

pub settled_eight : (width n p k r : ℕ) (z a b c d e f g h m1 m2 m3 m4 m5 m6 m7 m8 : List ℕ) → p ≤ width → k ≤ width → n ≡ width + (width + (width + (width + (width + (width + (width + width)))))) →
    length z ≡ width → replicate (width + (width + (width + width))) 0 ≡ z ++ (z ++ (z ++ z)) →
    length a ≡ width → length b ≡ width → length c ≡ width → length d ≡ width → length e ≡ width → length f ≡ width → length g ≡ width → length h ≡ width →
    length m1 ≡ width → length m2 ≡ width → length m3 ≡ width → length m4 ≡ width → length m5 ≡ width → length m6 ≡ width → length m7 ≡ width → length m8 ≡ width →
    owed_at (three_and width p) width k (a ++ (b ++ (c ++ (d ++ (e ++ (f ++ (g ++ h))))))) ≡ later n r →
    register 0 (zip2 bit_xor m1 (eight_due width p k a b d e) ++ (zip2 bit_xor m2 (eight_due width p k b c e f) ++ (zip2 bit_xor m3 (eight_due width p k c d f g) ++ (zip2 bit_xor m4 (eight_due width p k d e g h) ++ (zip2 bit_xor m5 (eight_due width p k e f h z) ++ (zip2 bit_xor m6 (eight_due width p k f g z z) ++ (zip2 bit_xor m7 (eight_due width p k g h z z) ++ (zip2 bit_xor m8 (eight_due width p k h z z z)))))))))
    ≡ register r (m1 ++ (m2 ++ (m3 ++ (m4 ++ (m5 ++ (m6 ++ (m7 ++ m8)))))))
settled_eight width n p k r z a b c d e f g h m1 m2 m3 m4 m5 m6 m7 m8 hp hk hn lz ez la lb lc ld le lf lg lh lm1 lm2 lm3 lm4 lm5 lm6 lm7 lm8 o =
    let i = three_and width p in
    let w = a ++ (b ++ (c ++ (d ++ (e ++ (f ++ (g ++ h)))))) in
    let lw : length w ≡ n = eight_long width a b c d e f g h la lb lc ld le lf lg lh ∙ sym hn in
    let q1 = zip2 bit_xor m1 (eight_due width p k a b d e) in
    let q2 = zip2 bit_xor m2 (eight_due width p k b c e f) in
    let q3 = zip2 bit_xor m3 (eight_due width p k c d f g) in
    let q4 = zip2 bit_xor m4 (eight_due width p k d e g h) in
    let q5 = zip2 bit_xor m5 (eight_due width p k e f h z) in
    let q6 = zip2 bit_xor m6 (eight_due width p k f g z z) in
    let q7 = zip2 bit_xor m7 (eight_due width p k g h z z) in
    let q8 = zip2 bit_xor m8 (eight_due width p k h z z z) in
    let four = z ++ (z ++ (z ++ z)) in
    let ms = m1 ∷ m2 ∷ m3 ∷ m4 ∷ m5 ∷ m6 ∷ m7 ∷ m8 ∷ [] in
    let v : w ++ replicate (width + (width + (width + width))) 0 ≡ a ++ (b ++ (c ++ (d ++ (e ++ (f ++ (g ++ (h ++ four))))))) = ap (λ l. w ++ l) ez ∙ behind_eight a b c d e f g h four in
    let last : paid width i width k (m8 ∷ []) (h ++ four) ≡ q8 =
    ap (λ l. paid width i width k (m8 ∷ []) (h ++ (z ++ (z ++ (z ++ l))))) (sym (append-nil z)) ∙ pays_wide width p k m8 h z z z z [] [] hp hk lh lz lz lz lz ∙ append-nil q8 in
    let all : paid width i width k ms (a ++ (b ++ (c ++ (d ++ (e ++ (f ++ (g ++ (h ++ four)))))))) ≡ q1 ++ (q2 ++ (q3 ++ (q4 ++ (q5 ++ (q6 ++ (q7 ++ q8)))))) =
    pays_wide width p k m1 a b c d e (f ++ (g ++ (h ++ four))) (m2 ∷ m3 ∷ m4 ∷ m5 ∷ m6 ∷ m7 ∷ m8 ∷ []) hp hk la lb lc ld le
    ∙ ap (λ l. q1 ++ l) (pays_wide width p k m2 b c d e f (g ++ (h ++ four)) (m3 ∷ m4 ∷ m5 ∷ m6 ∷ m7 ∷ m8 ∷ []) hp hk lb lc ld le lf
    ∙ ap (λ l. q2 ++ l) (pays_wide width p k m3 c d e f g (h ++ four) (m4 ∷ m5 ∷ m6 ∷ m7 ∷ m8 ∷ []) hp hk lc ld le lf lg
    ∙ ap (λ l. q3 ++ l) (pays_wide width p k m4 d e f g h four (m5 ∷ m6 ∷ m7 ∷ m8 ∷ []) hp hk ld le lf lg lh
    ∙ ap (λ l. q4 ++ l) (pays_wide width p k m5 e f g h z (z ++ (z ++ z)) (m6 ∷ m7 ∷ m8 ∷ []) hp hk le lf lg lh lz
    ∙ ap (λ l. q5 ++ l) (pays_wide width p k m6 f g h z z (z ++ z) (m7 ∷ m8 ∷ []) hp hk lf lg lh lz lz
    ∙ ap (λ l. q6 ++ l) (pays_wide width p k m7 g h z z z z (m8 ∷ []) hp hk lg lh lz lz lz
    ∙ ap (λ l. q7 ++ l) last)))))) in
    ap (register 0) (sym (ap (paid width i width k ms) v ∙ all))
    ∙ settled width n (width + (width + (width + width))) i width k r w ms (omega arith) (omega arith) (omega arith) (omega arith) lw (lm1, (lm2, (lm3, (lm4, (lm5, (lm6, (lm7, (lm8, tt)))))))) (omega arith) o
    ∙ ap (λ l. register r (m1 ++ (m2 ++ (m3 ++ (m4 ++ (m5 ++ (m6 ++ (m7 ++ l)))))))) (append-nil m8)

-- of 128 bytes

pub none_owed_128 : wide_owed_by (replicate 128 0) ≡ later 128 0
none_owed_128 = none_owed 128 56 16 2 refl refl refl

pub followed_128 : (r : ℕ) (a b c d e f g h m : List ℕ) → length a ≡ 16 → length b ≡ 16 → length c ≡ 16 → length d ≡ 16 → length e ≡ 16 → length f ≡ 16 → length g ≡ 16 → length h ≡ 16 → length m ≡ 16 →
    wide_owed_by (a ++ (b ++ (c ++ (d ++ (e ++ (f ++ (g ++ h))))))) ≡ later 128 r → wide_owed_by (b ++ (c ++ (d ++ (e ++ (f ++ (g ++ (h ++ (zip2 bit_xor m (wide_owed_next a b d e))))))))) ≡ later 128 (register r m)
followed_128 r a b c d e f g h m la lb lc ld le lf lg lh lm o =
    followed_eight 16 128 8 2 r a b c d e f g h m sparse_128 (lit≤ tt) (lit≤ tt) refl la lb lc ld le lf lg lh lm o

pub settled_128 : (r : ℕ) (a b c d e f g h m1 m2 m3 m4 m5 m6 m7 m8 : List ℕ) → length a ≡ 16 → length b ≡ 16 → length c ≡ 16 → length d ≡ 16 → length e ≡ 16 → length f ≡ 16 → length g ≡ 16 → length h ≡ 16 → length m1 ≡ 16 → length m2 ≡ 16 → length m3 ≡ 16 → length m4 ≡ 16 → length m5 ≡ 16 → length m6 ≡ 16 → length m7 ≡ 16 → length m8 ≡ 16 → wide_owed_by (a ++ (b ++ (c ++ (d ++ (e ++ (f ++ (g ++ h))))))) ≡ later 128 r →
    register 0 (zip2 bit_xor m1 (wide_owed_next a b d e) ++ (zip2 bit_xor m2 (wide_owed_next b c e f) ++ (zip2 bit_xor m3 (wide_owed_next c d f g) ++ (zip2 bit_xor m4 (wide_owed_next d e g h) ++ (zip2 bit_xor m5 (wide_owed_next e f h (replicate 16 0)) ++ (zip2 bit_xor m6 (wide_owed_next f g (replicate 16 0) (replicate 16 0)) ++ (zip2 bit_xor m7 (wide_owed_next g h (replicate 16 0) (replicate 16 0)) ++ (zip2 bit_xor m8 (wide_owed_next h (replicate 16 0) (replicate 16 0) (replicate 16 0)))))))))) ≡ register r (m1 ++ (m2 ++ (m3 ++ (m4 ++ (m5 ++ (m6 ++ (m7 ++ m8)))))))
settled_128 r a b c d e f g h m1 m2 m3 m4 m5 m6 m7 m8 la lb lc ld le lf lg lh lm1 lm2 lm3 lm4 lm5 lm6 lm7 lm8 o =
    settled_eight 16 128 8 2 r (replicate 16 0) a b c d e f g h m1 m2 m3 m4 m5 m6 m7 m8 (lit≤ tt) (lit≤ tt) refl refl refl la lb lc ld le lf lg lh lm1 lm2 lm3 lm4 lm5 lm6 lm7 lm8 o
