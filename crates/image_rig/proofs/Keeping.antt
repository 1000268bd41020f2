-- Records whose labels and moved bytes stand in common lists: each lies inside, also after one more.
use Rattle.std.proofs.Common.{ℕ, zero, suc, ◌≡◌, ◌+◌, ◌<◌, ◌≤◌, Bool, true, ltb, List, [], ◌∷◌, ◌++◌, length, take, drop, get_or, refl, sym, ap, ◌∙◌, arith}
use Rattle.std.proofs.lemmas.Bool.{ltb-true, lt-ltb, and_from}
use Rattle.std.proofs.lemmas.List.{length-append, take-append-le}
use Rattle.rig_api.specs.Log.{entry_at, has_key}
use Rattle.fault_schedule.specs.declared.Label.{Label}
use Rattle.image_rig.specs.declared.kept.Kept.{Kept}
use Rattle.image_rig.specs.Entries.{entry, entries, is_inside, are_inside, are_keyed}
use Rattle.small_laws.proofs.Tests.{and_first, and_second}

ap2 : {A B C : Type 0} (f : A → B → C) {a b : A} {x y : B} → a ≡ b → x ≡ y → f a x ≡ f b y
ap2 f {a} {b} {x} {y} p q = ap (λ u. f u x) p ∙ ap (f b) q

one : (l m : ℕ) (k : Kept) → k.labels_at + k.labels_len ≤ l → k.moved_at + k.moved_len ≤ m → is_inside l m k ≡ true
one l m k a b = and_from _ _ (lt-ltb (k.labels_at + k.labels_len) (l + 1) (omega arith)) (lt-ltb (k.moved_at + k.moved_len) (m + 1) (omega arith))

parts : (l m : ℕ) (k : Kept) → is_inside l m k ≡ true → (k.labels_at + k.labels_len ≤ l) × (k.moved_at + k.moved_len ≤ m)
parts l m k p =
    let labels : Bool = ltb (k.labels_at + k.labels_len) (l + 1) in
    let moved : Bool = ltb (k.moved_at + k.moved_len) (m + 1) in
    let a : k.labels_at + k.labels_len < l + 1 = ltb-true (k.labels_at + k.labels_len) (l + 1) (and_first labels moved p) in
    let b : k.moved_at + k.moved_len < m + 1 = ltb-true (k.moved_at + k.moved_len) (m + 1) (and_second labels moved p) in
    (omega arith, omega arith)

pub inside_at : (l m : ℕ) (ks : List Kept) (i : ℕ) (k : Kept) → are_inside l m ks ≡ true → i < length ks → k ≡ get_or ks i k →
    (k.labels_at + k.labels_len ≤ l) × (k.moved_at + k.moved_len ≤ m)
inside_at l m [] i k h b e = absurd (omega arith)
inside_at l m (x ∷ ks) zero k h b e =
    let p : is_inside l m x ≡ true = and_first _ _ h in
    parts l m k (rw e p)
inside_at l m (x ∷ ks) (suc i) k h b e = inside_at l m ks i k (and_second _ _ h) (omega arith) e

pub entry_is : (ls : List Label) (ms : List ℕ) (ks : List Kept) (i : ℕ) (k : Kept) → i < length ks → k ≡ get_or ks i k → entry_at (entries ls ms ks) i ≡ entry ls ms k
entry_is ls ms [] i k b e = absurd (omega arith)
entry_is ls ms (x ∷ ks) zero k b e = ap (entry ls ms) (sym e)
entry_is ls ms (x ∷ ks) (suc i) k b e = entry_is ls ms ks i k (omega arith) e

pub grown : (l m l' m' : ℕ) (ks : List Kept) → l ≤ l' → m ≤ m' → are_inside l m ks ≡ true → are_inside l' m' ks ≡ true
grown l m l' m' [] a b h = refl
grown l m l' m' (k ∷ ks) a b h =
    let p = parts l m k (and_first _ _ h) in
    and_from _ _ (one l' m' k (omega (arith, p.0)) (omega (arith, p.1))) (grown l m l' m' ks a b (and_second _ _ h))

pub one_inside : (l m : ℕ) (ks : List Kept) (k : Kept) → are_inside l m ks ≡ true → k.labels_at + k.labels_len ≤ l → k.moved_at + k.moved_len ≤ m → are_inside l m (ks ++ k ∷ []) ≡ true
one_inside l m [] k h a b = and_from _ _ (one l m k a b) refl
one_inside l m (x ∷ ks) k h a b = and_from _ _ (and_first _ _ h) (one_inside l m ks k (and_second _ _ h) a b)

cut_same : {A : Type 0} (xs ys : List A) (at n : ℕ) → at + n ≤ length xs → take n (drop at (xs ++ ys)) ≡ take n (drop at xs)
cut_same xs ys zero n h = take-append-le n xs ys (omega arith)
cut_same [] ys (suc at) n h = absurd (omega arith)
cut_same (x ∷ xs) ys (suc at) n h = cut_same xs ys at n (omega arith)

pub entries_more : (ls ls' : List Label) (ms ms' : List ℕ) (ks : List Kept) (k : Kept) → are_inside (length ls) (length ms) ks ≡ true →
    entries (ls ++ ls') (ms ++ ms') (ks ++ k ∷ []) ≡ entries ls ms ks ++ (entry (ls ++ ls') (ms ++ ms') k ∷ [])
entries_more ls ls' ms ms' [] k h = refl
entries_more ls ls' ms ms' (x ∷ ks) k h =
    let p = parts (length ls) (length ms) x (and_first _ _ h) in
    let el : take x.labels_len (drop x.labels_at (ls ++ ls')) ≡ take x.labels_len (drop x.labels_at ls) = cut_same ls ls' x.labels_at x.labels_len p.0 in
    let em : take x.moved_len (drop x.moved_at (ms ++ ms')) ≡ take x.moved_len (drop x.moved_at ms) = cut_same ms ms' x.moved_at x.moved_len p.1 in
    let more = entries_more ls ls' ms ms' ks k (and_second _ _ h) in
    let same : entry (ls ++ ls') (ms ++ ms') x ≡ entry ls ms x = ap2 (λ u v. record { what = x.what; labels = u; moved = v }) el em in
    ap2 (λ u v. u ∷ v) same more

take_all_of : {A : Type 0} (ys : List A) → take (length ys) ys ≡ ys
take_all_of [] = refl
take_all_of (y ∷ ys) = ap (λ u. y ∷ u) (take_all_of ys)

cut_new : {A : Type 0} (xs ys : List A) → take (length ys) (drop (length xs) (xs ++ ys)) ≡ ys
cut_new [] ys = take_all_of ys
cut_new (x ∷ xs) ys = cut_new xs ys

pub entry_new : (ls ls' : List Label) (ms ms' : List ℕ) (k : Kept) → k.labels_at ≡ length ls → k.labels_len ≡ length ls' → k.moved_at ≡ length ms → k.moved_len ≡ length ms' →
    entry (ls ++ ls') (ms ++ ms') k ≡ record { what = k.what; labels = ls'; moved = ms' }
entry_new ls ls' ms ms' k a b c d =
    let el : take k.labels_len (drop k.labels_at (ls ++ ls')) ≡ ls' = rw (a, b) (cut_new ls ls') in
    let em : take k.moved_len (drop k.moved_at (ms ++ ms')) ≡ ms' = rw (c, d) (cut_new ms ms') in
    ap2 (λ u v. record { what = k.what; labels = u; moved = v }) el em

pub still_inside : (ls ls' : List Label) (ms ms' : List ℕ) (ks : List Kept) (k : Kept) (ls₂ : List Label) (ms₂ : List ℕ) (ks₂ : List Kept) → ls₂ ≡ ls ++ ls' → ms₂ ≡ ms ++ ms' → ks₂ ≡ ks ++ (k ∷ []) →
    are_inside (length ls) (length ms) ks ≡ true → k.labels_at ≡ length ls → k.labels_len ≡ length ls' → k.moved_at ≡ length ms → k.moved_len ≡ length ms' →
    are_inside (length ls₂) (length ms₂) ks₂ ≡ true
still_inside ls ls' ms ms' ks k ls₂ ms₂ ks₂ el em ek h a b c d =
    let nl : length ls₂ ≡ length ls + length ls' = ap length el ∙ length-append ls ls' in
    let nm : length ms₂ ≡ length ms + length ms' = ap length em ∙ length-append ms ms' in
    rw ek (one_inside (length ls₂) (length ms₂) ks k (grown (length ls) (length ms) (length ls₂) (length ms₂) ks (omega arith) (omega arith) h) (omega arith) (omega arith))

pub appended : (ls ls' : List Label) (ms ms' : List ℕ) (ks : List Kept) (k : Kept) (ls₂ : List Label) (ms₂ : List ℕ) (ks₂ : List Kept) → ls₂ ≡ ls ++ ls' → ms₂ ≡ ms ++ ms' → ks₂ ≡ ks ++ (k ∷ []) →
    are_inside (length ls) (length ms) ks ≡ true → k.labels_at ≡ length ls → k.labels_len ≡ length ls' → k.moved_at ≡ length ms → k.moved_len ≡ length ms' →
    entries ls₂ ms₂ ks₂ ≡ entries ls ms ks ++ (record { what = k.what; labels = ls'; moved = ms' } ∷ [])
appended ls ls' ms ms' ks k ls₂ ms₂ ks₂ el em ek h a b c d =
    rw (el, em, ek) (entries_more ls ls' ms ms' ks k h ∙ ap (λ e. entries ls ms ks ++ (e ∷ [])) (entry_new ls ls' ms ms' k a b c d))

one_keyed : (ks : List Kept) (k : Kept) → are_keyed ks ≡ true → has_key k.what.outcome.sense ≡ true → are_keyed (ks ++ k ∷ []) ≡ true
one_keyed [] k h e = and_from _ _ e refl
one_keyed (x ∷ ks) k h e = and_from _ _ (and_first _ _ h) (one_keyed ks k (and_second _ _ h) e)

pub still_keyed : (ks : List Kept) (k : Kept) (ks₂ : List Kept) → ks₂ ≡ ks ++ (k ∷ []) → are_keyed ks ≡ true → has_key k.what.outcome.sense ≡ true → are_keyed ks₂ ≡ true
still_keyed ks k ks₂ e h l = rw e (one_keyed ks k h l)
