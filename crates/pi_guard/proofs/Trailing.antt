-- The steps of a trail, and how it is paid, for any sparse multiple of the polynomial.
use Rattle.std.proofs.Common.{◌≡◌, ℕ, zero, suc, ◌+◌, ◌-◌, ◌^◌, ◌<◌, ◌≤◌, List, [], ◌∷◌, ◌++◌, length, take, drop, replicate, refl, sym, ap, ◌∙◌, arith, lit<, length-append, take-add}
use Rattle.std.specs.Prelude.{bit_xor}
use Rattle.std.specs.Int.Bits.{xor_comm, xor_zero_r}
use Rattle.std.proofs.lemmas.List.{length-drop, drop-drop, drop_at, drop-append-le, take_at, take-append-le, take-replicate, length-replicate}
use Rattle.std.proofs.lemmas.Simd.{length-chunk, chunk-drop, length-zip2}
use lib.Lanes.{zip2, chunk}
use Rattle.pi_guard.specs.Register.{register, byte_step}
use Rattle.pi_guard.specs.AfterZeros.{later}
use Rattle.pi_guard.specs.Trails.{owed_at}
use Rattle.pi_guard.proofs.RegisterLemmas.{register-append, register-lt}
use Rattle.pi_guard.proofs.Linear.{later-xor, by_tables, register_by_tables}
use Rattle.pi_guard.proofs.Folds.{later_zero, later_swap, of_zero, by_tables-xor}
use Rattle.pi_guard.proofs.Sparse.{Sparse, later-add, cancel, cancel_both, by_columns}

pub after : (r : ℕ) (ys : List ℕ) → register r ys ≡ bit_xor (later (length ys) r) (register 0 ys)
after r ys = register_by_tables r ys ∙ ap (bit_xor (later (length ys) r)) (sym (of_zero ys))

pub zero-append : (xs ys : List ℕ) → register 0 (xs ++ ys) ≡ bit_xor (later (length ys) (register 0 xs)) (register 0 ys)
zero-append xs ys = register-append 0 xs ys ∙ after (register 0 xs) ys

pub zero-xor : (xs ys : List ℕ) → length xs ≡ length ys → register 0 (zip2 bit_xor xs ys) ≡ bit_xor (register 0 xs) (register 0 ys)
zero-xor xs ys e =
    of_zero (zip2 bit_xor xs ys) ∙ by_tables-xor xs ys e ∙ ap (λ v. bit_xor v (by_tables ys)) (sym (of_zero xs)) ∙ ap (bit_xor (register 0 xs)) (sym (of_zero ys))

-- ---- pieces of lists

pub chunk_past : (j k n : ℕ) (xs ys : List ℕ) → length xs ≡ j → chunk (j + k) n (xs ++ ys) ≡ chunk k n ys
chunk_past j k n xs ys l = ap (take n) (sym (drop-drop k j (xs ++ ys)) ∙ ap (drop k) (drop_at xs ys j l))

pub chunk_within : (k n : ℕ) (xs ys : List ℕ) → k + n ≤ length xs → chunk k n (xs ++ ys) ≡ chunk k n xs
chunk_within k n xs ys h =
    ap (take n) (drop-append-le k xs ys (omega arith)) ∙ take-append-le n (drop k xs) ys (omega (arith, length-drop k xs))

pub chunk-cat : (k m n : ℕ) (xs : List ℕ) → chunk k (m + n) xs ≡ chunk k m xs ++ chunk (k + m) n xs
chunk-cat k m n xs = take-add m n (drop k xs) ∙ ap (λ v. chunk k m xs ++ take n v) (drop-drop m k xs)

-- a piece that begins so many bytes on
pub chunk-later : (j k n : ℕ) (xs : List ℕ) → chunk k n (drop j xs) ≡ chunk (k + j) n xs
chunk-later j k n xs = let o : j + k ≡ k + j = omega arith in ap (take n) (drop-drop k j xs ∙ ap (λ m. drop m xs) o)

pub zip-cat : (xs ys us vs : List ℕ) → length xs ≡ length us → zip2 bit_xor (xs ++ ys) (us ++ vs) ≡ zip2 bit_xor xs us ++ zip2 bit_xor ys vs
zip-cat [] ys [] vs l = refl
zip-cat [] ys (u ∷ us) vs l = absurd (omega arith)
zip-cat (x ∷ xs) ys [] vs l = absurd (omega arith)
zip-cat (x ∷ xs) ys (u ∷ us) vs l = ap (λ v. bit_xor x u ∷ v) (zip-cat xs ys us vs (omega arith))

-- ---- what the first n bytes after w are owed

abbrev pub nexts : ℕ → ℕ → ℕ → ℕ → List ℕ → List ℕ
nexts i j k n w = zip2 bit_xor (chunk i n w) (zip2 bit_xor (chunk j n w) (chunk k n w))

length-pair : (j k n : ℕ) (w : List ℕ) → j + n ≤ length w → k + n ≤ length w → length (zip2 bit_xor (chunk j n w) (chunk k n w)) ≡ n
length-pair j k n w hj hk =
    let b = length-chunk j n w hj in
    let c = length-chunk k n w hk in
    length-zip2 bit_xor (chunk j n w) (chunk k n w) (b ∙ sym c) ∙ b

length-nexts : (i j k n : ℕ) (w : List ℕ) → j ≤ i → k ≤ i → i + n ≤ length w → length (nexts i j k n w) ≡ n
length-nexts i j k n w hj hk h =
    let a = length-chunk i n w h in
    let d = length-pair j k n w (omega arith) (omega arith) in
    length-zip2 bit_xor (chunk i n w) (zip2 bit_xor (chunk j n w) (chunk k n w)) (a ∙ sym d) ∙ a

zero-nexts : (i j k n : ℕ) (w : List ℕ) → j ≤ i → k ≤ i → i + n ≤ length w →
    register 0 (nexts i j k n w) ≡ bit_xor (register 0 (chunk i n w)) (bit_xor (register 0 (chunk j n w)) (register 0 (chunk k n w)))
zero-nexts i j k n w hj hk h =
    let a = length-chunk i n w h in
    let b = length-chunk j n w (omega arith) in
    let c = length-chunk k n w (omega arith) in
    let d = length-pair j k n w (omega arith) (omega arith) in
    zero-xor (chunk i n w) (zip2 bit_xor (chunk j n w) (chunk k n w)) (a ∙ sym d)
    ∙ ap (bit_xor (register 0 (chunk i n w))) (zero-xor (chunk j n w) (chunk k n w) (b ∙ sym c))

nexts-cat : (i j k m n : ℕ) (w : List ℕ) → j ≤ i → k ≤ i → i + (m + n) ≤ length w → nexts i j k (m + n) w ≡ nexts i j k m w ++ nexts i j k n (drop m w)
nexts-cat i j k m n w hj hk h =
    let a = length-chunk i m w (omega arith) in
    let b = length-chunk j m w (omega arith) in
    let c = length-chunk k m w (omega arith) in
    let d = length-pair j k m w (omega arith) (omega arith) in
    rw (chunk-later m i n w, chunk-later m j n w, chunk-later m k n w, chunk-cat i m n w, chunk-cat j m n w, chunk-cat k m n w)
    (ap (zip2 bit_xor (chunk i m w ++ chunk (i + m) n w)) (zip-cat (chunk j m w) (chunk (j + m) n w) (chunk k m w) (chunk (k + m) n w) (b ∙ sym c))
    ∙ zip-cat (chunk i m w) (chunk (i + m) n w) (zip2 bit_xor (chunk j m w) (chunk k m w)) (zip2 bit_xor (chunk (j + m) n w) (chunk (k + m) n w)) (a ∙ sym d))

-- ---- one step

shifted : (width n k : ℕ) (w e : List ℕ) → length w ≡ n → length e ≡ width → k + width ≤ n →
    later k (register 0 (drop k (drop width w ++ e))) ≡ bit_xor (bit_xor (later width (later k (register 0 (drop k w)))) (later n (register 0 (chunk k width w)))) (later k (register 0 e))
shifted width n k w e lw le h =
    let u = chunk k width w in
    let v = drop (k + width) w in
    let X = register 0 u in
    let Y = register 0 v in
    let E = register 0 e in
    let m = n - (k + width) in
    let lv : length v ≡ m = length-drop (k + width) w ∙ ap (λ l. l - (k + width)) lw in
    let o : width + k ≡ k + width = omega arith in
    let s : width + (k + m) ≡ n = omega arith in
    let d1 : drop k w ≡ u ++ v = chunk-drop k width w in
    let d2 : drop k (drop width w ++ e) ≡ v ++ e =
    drop-append-le k (drop width w) e (omega (arith, length-drop width w)) ∙ ap (λ l. l ++ e) (drop-drop k width w ∙ ap (λ l. drop l w) o) in
    let left : later k (register 0 (drop k (drop width w ++ e))) ≡ bit_xor (later k (later width Y)) (later k E) =
    ap (λ l. later k (register 0 l)) d2 ∙ ap (later k) (zero-append v e) ∙ ap (λ l. later k (bit_xor (later l Y) E)) le ∙ later-xor k (later width Y) E in
    let right : later width (later k (register 0 (drop k w))) ≡ bit_xor (later n X) (later width (later k Y)) =
    ap (λ l. later width (later k (register 0 l))) d1
    ∙ ap (λ x. later width (later k x)) (zero-append u v ∙ ap (λ l. bit_xor (later l X) Y) lv)
    ∙ ap (later width) (later-xor k (later m X) Y) ∙ later-xor width (later k (later m X)) (later k Y)
    ∙ ap (λ x. bit_xor x (later width (later k Y))) (ap (later width) (later-add k m X) ∙ later-add width (k + m) X ∙ ap (λ l. later l X) s) in
    left ∙ ap (λ x. bit_xor x (later k E)) (later_swap k width Y ∙ sym (cancel (later n X) (later width (later k Y))) ∙ ap (λ x. bit_xor x (later n X)) (sym right))

later-three : (k a b c : ℕ) → later k (bit_xor a (bit_xor b c)) ≡ bit_xor (later k a) (bit_xor (later k b) (later k c))
later-three k a b c = later-xor k a (bit_xor b c) ∙ ap (bit_xor (later k a)) (later-xor k b c)

owed_step : (width n i j k : ℕ) (w e : List ℕ) → ((r : ℕ) → r < 2 ^ 16 → Sparse n i j k r) → j ≤ i → k ≤ i → i + width ≤ n → length w ≡ n → length e ≡ width →
    owed_at i j k (drop width w ++ e) ≡ bit_xor (bit_xor (later width (owed_at i j k w)) (later n (register 0 (nexts i j k width w)))) (later n (register 0 e))
owed_step width n i j k w e sparse hj hk h lw le =
    let E = register 0 e in
    let A = λ (m : ℕ). later width (later m (register 0 (drop m w))) in
    let U = λ (m : ℕ). later n (register 0 (chunk m width w)) in
    let s1 = shifted width n i w e lw le h in
    let s2 = shifted width n j w e lw le (omega arith) in
    let s3 = shifted width n k w e lw le (omega arith) in
    let l : later width (owed_at i j k w) ≡ bit_xor (A i) (bit_xor (A j) (A k)) = later-three width (later i (register 0 (drop i w))) (later j (register 0 (drop j w))) (later k (register 0 (drop k w))) in
    let u : later n (register 0 (nexts i j k width w)) ≡ bit_xor (U i) (bit_xor (U j) (U k)) =
    ap (later n) (zero-nexts i j k width w hj hk (omega arith)) ∙ later-three n (register 0 (chunk i width w)) (register 0 (chunk j width w)) (register 0 (chunk k width w)) in
    let t : later n E ≡ bit_xor (later i E) (bit_xor (later j E) (later k E)) = sparse E (register-lt 0 e (lit< tt)) in
    ap (λ v. bit_xor v (bit_xor (later j (register 0 (drop j (drop width w ++ e)))) (later k (register 0 (drop k (drop width w ++ e)))))) s1
    ∙ ap (λ v. bit_xor (bit_xor (bit_xor (A i) (U i)) (later i E)) (bit_xor v (later k (register 0 (drop k (drop width w ++ e)))))) s2
    ∙ ap (λ v. bit_xor (bit_xor (bit_xor (A i) (U i)) (later i E)) (bit_xor (bit_xor (bit_xor (A j) (U j)) (later j E)) v)) s3
    ∙ ap (bit_xor (bit_xor (bit_xor (A i) (U i)) (later i E))) (by_columns (A j) (U j) (later j E) (A k) (U k) (later k E))
    ∙ by_columns (A i) (U i) (later i E) (bit_xor (A j) (A k)) (bit_xor (U j) (U k)) (bit_xor (later j E) (later k E))
    ∙ ap (λ v. bit_xor (bit_xor v (bit_xor (U i) (bit_xor (U j) (U k)))) (bit_xor (later i E) (bit_xor (later j E) (later k E)))) (sym l)
    ∙ ap (λ v. bit_xor (bit_xor (later width (owed_at i j k w)) v) (bit_xor (later i E) (bit_xor (later j E) (later k E)))) (sym u)
    ∙ ap (bit_xor (bit_xor (later width (owed_at i j k w)) (later n (register 0 (nexts i j k width w))))) (sym t)

pub followed : (width n i j k r : ℕ) (w m : List ℕ) → ((r : ℕ) → r < 2 ^ 16 → Sparse n i j k r) → j ≤ i → k ≤ i → i + width ≤ n → length w ≡ n → length m ≡ width →
    owed_at i j k w ≡ later n r → owed_at i j k (drop width w ++ zip2 bit_xor m (nexts i j k width w)) ≡ later n (register r m)
followed width n i j k r w m sparse hj hk h lw lm o =
    let p = nexts i j k width w in
    let e = zip2 bit_xor m p in
    let M = register 0 m in
    let U = later n (register 0 p) in
    let lp : length p ≡ width = length-nexts i j k width w hj hk (omega arith) in
    let le : length e ≡ width = length-zip2 bit_xor m p (lm ∙ sym lp) ∙ lm in
    let x : later n (register 0 e) ≡ bit_xor (later n M) U = ap (later n) (zero-xor m p (lm ∙ sym lp)) ∙ later-xor n M (register 0 p) in
    let g : register r m ≡ bit_xor (later width r) M = after r m ∙ ap (λ v. bit_xor (later v r) M) lm in
    owed_step width n i j k w e sparse hj hk h lw le
    ∙ ap (λ v. bit_xor (bit_xor (later width v) U) (later n (register 0 e))) o
    ∙ ap (bit_xor (bit_xor (later width (later n r)) U)) x
    ∙ cancel_both (later width (later n r)) U (later n M)
    ∙ ap (λ v. bit_xor v (later n M)) (later_swap width n r)
    ∙ sym (later-xor n (later width r) M)
    ∙ ap (later n) (sym g)

-- ---- the end

pub byte_zero : byte_step 0 0 ≡ 0
unfolding byte_step
byte_zero = refl

pub zeros_leave : (k : ℕ) → register 0 (replicate k 0) ≡ 0
zeros_leave zero = refl
zeros_leave (suc k) = ap (λ v. register v (replicate k 0)) byte_zero ∙ zeros_leave k

-- of w with zeros behind it, as many bytes from k on
cut : (n z k : ℕ) (w : List ℕ) → length w ≡ n → k ≤ n → k ≤ z → register 0 (chunk k n (w ++ replicate z 0)) ≡ later k (register 0 (drop k w))
cut n z k w lw hn hz =
    let zs = replicate {A = ℕ} z 0 in
    let v = drop k w in
    let i = n - k in
    let s : i + k ≡ n = omega arith in
    let lv : length v ≡ i = length-drop k w ∙ ap (λ l. l - k) lw in
    let c : chunk k n (w ++ zs) ≡ v ++ replicate k 0 =
    ap (take n) (drop-append-le k w zs (omega arith)) ∙ ap (λ l. take l (v ++ zs)) (sym s) ∙ take-add i k (v ++ zs)
    ∙ ap (λ l. l ++ take k (drop i (v ++ zs))) (take_at v zs i lv)
    ∙ ap (λ l. v ++ take k l) (drop_at v zs i lv)
    ∙ ap (λ l. v ++ l) (take-replicate k z 0 hz) in
    ap (register 0) c ∙ zero-append v (replicate k 0)
    ∙ ap (λ l. bit_xor (later l (register 0 v)) (register 0 (replicate k 0))) (length-replicate {A = ℕ} k 0)
    ∙ ap (bit_xor (later k (register 0 v))) (zeros_leave k) ∙ xor_zero_r (later k (register 0 v))

-- words one after another, words of so many bytes, and how many bytes they are
abbrev pub joined : List (List ℕ) → List ℕ
joined [] = []
joined (m ∷ ms) = m ++ joined ms

abbrev pub AreWords : ℕ → List (List ℕ) → Type 0
AreWords width [] = Unit {0}
AreWords width (m ∷ ms) = (length m ≡ width) × AreWords width ms

abbrev pub in_all : ℕ → List (List ℕ) → ℕ
in_all width [] = 0
in_all width (m ∷ ms) = width + in_all width ms

length-joined : (width : ℕ) (ms : List (List ℕ)) → AreWords width ms → length (joined ms) ≡ in_all width ms
length-joined width [] h = refl
length-joined width (m ∷ ms) h = let a = h.0 in let b = length-joined width ms h.1 in omega (arith, length-append m (joined ms))

-- words with all that is paid to them by what stands in front
abbrev pub paid : ℕ → ℕ → ℕ → ℕ → List (List ℕ) → List ℕ → List ℕ
paid width i j k [] v = []
paid width i j k (m ∷ ms) v = zip2 bit_xor m (nexts i j k width v) ++ paid width i j k ms (drop width v)

paid_is : (width i j k : ℕ) (ms : List (List ℕ)) (v : List ℕ) → AreWords width ms → j ≤ i → k ≤ i → i + in_all width ms ≤ length v →
    paid width i j k ms v ≡ zip2 bit_xor (joined ms) (nexts i j k (in_all width ms) v)
paid_is width i j k [] v h hj hk l = refl
paid_is width i j k (m ∷ ms) v h hj hk l =
    let n = in_all width ms in
    let lm : length m ≡ width = h.0 in
    let ln = length-nexts i j k width v hj hk (omega arith) in
    let rest = paid_is width i j k ms (drop width v) h.1 hj hk (omega (arith, length-drop width v)) in
    ap (λ l. zip2 bit_xor m (nexts i j k width v) ++ l) rest
    ∙ sym (zip-cat m (joined ms) (nexts i j k width v) (nexts i j k n (drop width v)) (lm ∙ sym ln))
    ∙ ap (zip2 bit_xor (m ++ joined ms)) (sym (nexts-cat i j k width n v hj hk (omega arith)))

-- A trail that is paid in full leaves what all bytes leave.
pub settled : (width n z i j k r : ℕ) (w : List ℕ) (ms : List (List ℕ)) → j ≤ i → k ≤ i → i ≤ z → i ≤ n → length w ≡ n → AreWords width ms → in_all width ms ≡ n →
    owed_at i j k w ≡ later n r → register 0 (paid width i j k ms (w ++ replicate z 0)) ≡ register r (joined ms)
settled width n z i j k r w ms hj hk hz hn lw words lm o =
    let v = w ++ replicate z 0 in
    let t = joined ms in
    let lv : length v ≡ n + z = length-append w (replicate z 0) ∙ (ap (λ l. l + length (replicate {A = ℕ} z 0)) lw ∙ ap (λ l. n + l) (length-replicate {A = ℕ} z 0)) in
    let lt : length t ≡ n = length-joined width ms words ∙ lm in
    let P = nexts i j k n v in
    let lP : length P ≡ n = length-nexts i j k n v hj hk (omega arith) in
    let sum : register 0 P ≡ later n r =
    zero-nexts i j k n v hj hk (omega arith)
    ∙ ap (λ x. bit_xor x (bit_xor (register 0 (chunk j n v)) (register 0 (chunk k n v)))) (cut n z i w lw hn hz)
    ∙ ap (λ x. bit_xor (later i (register 0 (drop i w))) (bit_xor x (register 0 (chunk k n v)))) (cut n z j w lw (omega arith) (omega arith))
    ∙ ap (λ x. bit_xor (later i (register 0 (drop i w))) (bit_xor (later j (register 0 (drop j w))) x)) (cut n z k w lw (omega arith) (omega arith))
    ∙ o in
    ap (register 0) (paid_is width i j k ms v words hj hk (omega arith) ∙ ap (λ l. zip2 bit_xor t (nexts i j k l v)) lm)
    ∙ zero-xor t P (lt ∙ sym lP) ∙ ap (bit_xor (register 0 t)) sum ∙ xor_comm (register 0 t) (later n r)
    ∙ ap (λ l. bit_xor (later l r) (register 0 t)) (sym lt) ∙ sym (after r t)

nothing : (k n : ℕ) → later k (register 0 (replicate n 0)) ≡ 0
nothing k n = ap (later k) (zeros_leave n) ∙ later_zero k

-- A trail of zeros owes nothing.
pub none_owed : (n i j k : ℕ) → drop i (replicate {A = ℕ} n 0) ≡ replicate (n - i) 0 → drop j (replicate {A = ℕ} n 0) ≡ replicate (n - j) 0 → drop k (replicate {A = ℕ} n 0) ≡ replicate (n - k) 0 →
    owed_at i j k (replicate n 0) ≡ later n 0
none_owed n i j k a b c =
    rw (a, b, c)
    (ap (λ v. bit_xor v (bit_xor (later j (register 0 (replicate (n - j) 0))) (later k (register 0 (replicate (n - k) 0))))) (nothing i (n - i))
    ∙ ap (λ v. bit_xor 0 (bit_xor v (later k (register 0 (replicate (n - k) 0))))) (nothing j (n - j))
    ∙ ap (λ v. bit_xor 0 (bit_xor 0 v)) (nothing k (n - k))
    ∙ sym (later_zero n))
