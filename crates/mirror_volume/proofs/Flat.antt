-- Data of blocks one after another: a part of the blocks is a part of their bytes.
use Rattle.std.proofs.Common.{◌≡◌, ◌<◌, ℕ, zero, suc, ◌+◌, ◌*◌, List, [], ◌∷◌, ◌++◌, length, replicate, take, drop, refl, sym, ap, ◌∙◌, arith, append_assoc}
use Rattle.std.proofs.lemmas.List.{drop_at, length-append, length-replicate, replicate-append-replicate, take_all, take_at}
use Rattle.page_pool.specs.Cells.{flat}
use Rattle.walk_laws.specs.Steps.{each_from}
use Rattle.mirror_volume.specs.Asked.{pasted}

-- each block has so many bytes
abbrev pub AllLong : (size : ℕ) → List (List ℕ) → Type 0
AllLong size [] = Unit {0}
AllLong size (x ∷ xs) = (length x ≡ size) × AllLong size xs

pub flat-both : (xs ys : List (List ℕ)) → flat (xs ++ ys) ≡ flat xs ++ flat ys
flat-both [] ys = refl
flat-both (x ∷ xs) ys = ap (λ z. x ++ z) (flat-both xs ys) ∙ sym (append_assoc x (flat xs) (flat ys))

pub flat-long : (size : ℕ) (xs : List (List ℕ)) → AllLong size xs → length (flat xs) ≡ length xs * size
flat-long size [] h = omega arith
flat-long size (x ∷ xs) h =
    let a = length-append x (flat xs) in
    let b = flat-long size xs h.1 in
    let c = h.0 in
    let d : suc (length xs) * size ≡ length xs * size + size = omega arith in
    omega (arith, a, b, c, d)

take-behind : (x ys : List ℕ) (n k : ℕ) → n ≡ length x + k → take n (x ++ ys) ≡ x ++ take k ys
take-behind [] ys n k e = let z : n ≡ k = omega (arith, e) in ap (λ j. take j ys) z
take-behind (b ∷ x) ys zero k e = absurd (omega (arith, e))
take-behind (b ∷ x) ys (suc n) k e = ap (λ zs. b ∷ zs) (take-behind x ys n k (omega (arith, e)))

drop-behind : (x ys : List ℕ) (n k : ℕ) → n ≡ length x + k → drop n (x ++ ys) ≡ drop k ys
drop-behind [] ys n k e = let z : n ≡ k = omega (arith, e) in ap (λ j. drop j ys) z
drop-behind (b ∷ x) ys zero k e = absurd (omega (arith, e))
drop-behind (b ∷ x) ys (suc n) k e = drop-behind x ys n k (omega (arith, e))

none-left : (n : ℕ) (xs : List ℕ) → xs ≡ [] → drop n xs ≡ []
none-left zero xs e = e
none-left (suc n) [] e = refl
none-left (suc n) (x ∷ xs) e = absurd cc

pub flat-take : (size a n : ℕ) (xs : List (List ℕ)) → n ≡ a * size → AllLong size xs → take n (flat xs) ≡ flat (take a xs)
flat-take size zero n xs e h = take_at [] (flat xs) n (omega (arith, e))
flat-take size (suc a) n [] e h = take_all n [] (omega arith)
flat-take size (suc a) n (x ∷ xs) e h =
    let c = h.0 in
    let d : suc a * size ≡ a * size + size = omega arith in
    take-behind x (flat xs) n (a * size) (omega (arith, e, c, d)) ∙ ap (λ zs. x ++ zs) (flat-take size a (a * size) xs refl h.1)

pub flat-drop : (size a n : ℕ) (xs : List (List ℕ)) → n ≡ a * size → AllLong size xs → drop n (flat xs) ≡ flat (drop a xs)
flat-drop size zero n xs e h = drop_at [] (flat xs) n (omega (arith, e))
flat-drop size (suc a) n [] e h = none-left n [] refl
flat-drop size (suc a) n (x ∷ xs) e h =
    let c = h.0 in
    let d : suc a * size ≡ a * size + size = omega arith in
    drop-behind x (flat xs) n (a * size) (omega (arith, e, c, d)) ∙ flat-drop size a (a * size) xs refl h.1

long-both : (size : ℕ) (xs ys : List (List ℕ)) → AllLong size xs → AllLong size ys → AllLong size (xs ++ ys)
long-both size [] ys h k = k
long-both size (x ∷ xs) ys h k = (h.0, long-both size xs ys h.1 k)

long-take : (size a : ℕ) (xs : List (List ℕ)) → AllLong size xs → AllLong size (take a xs)
long-take size zero xs h = tt
long-take size (suc a) [] h = tt
long-take size (suc a) (x ∷ xs) h = (h.0, long-take size a xs h.1)

long-drop : (size a : ℕ) (xs : List (List ℕ)) → AllLong size xs → AllLong size (drop a xs)
long-drop size zero xs h = h
long-drop size (suc a) [] h = tt
long-drop size (suc a) (x ∷ xs) h = long-drop size a xs h.1

-- ---- a part in the place of as many

pub pasted-long : (size a : ℕ) (ys xs : List (List ℕ)) → AllLong size ys → AllLong size xs → AllLong size (pasted a ys xs)
pasted-long size a ys xs k h = long-both size (take a xs) (ys ++ drop (a + length ys) xs) (long-take size a xs h) (long-both size ys (drop (a + length ys) xs) k (long-drop size (a + length ys) xs h))

pub flat-pasted : (size a : ℕ) (ys xs : List (List ℕ)) → AllLong size ys → AllLong size xs → pasted (a * size) (flat ys) (flat xs) ≡ flat (pasted a ys xs)
flat-pasted size a ys xs k h =
    let l = flat-long size ys k in
    let d : (a + length ys) * size ≡ a * size + length ys * size = omega arith in
    ap (λ z. z ++ (flat ys ++ drop (a * size + length (flat ys)) (flat xs))) (flat-take size a (a * size) xs refl h)
    ∙ ap (λ z. flat (take a xs) ++ (flat ys ++ z)) (flat-drop size (a + length ys) (a * size + length (flat ys)) xs (omega (arith, l, d)) h)
    ∙ ap (λ z. flat (take a xs) ++ z) (sym (flat-both ys (drop (a + length ys) xs)))
    ∙ sym (flat-both (take a xs) (ys ++ drop (a + length ys) xs))

-- ---- blocks one by one, and blocks of zeros

pub long-each : (size at n : ℕ) (f : ℕ → List ℕ) → ((j : ℕ) → j < at + n → length (f j) ≡ size) → AllLong size (each_from at n f)
long-each size at zero f h = tt
long-each size at (suc n) f h = (h at (omega arith), long-each size (suc at) n f (λ j l. h j (omega (arith, l))))

pub long-zeros : (size n : ℕ) → AllLong size (replicate n (replicate size 0))
long-zeros size zero = tt
long-zeros size (suc n) = (length-replicate size 0, long-zeros size n)

pub flat-zeros : (size n k : ℕ) → k ≡ n * size → replicate k 0 ≡ flat (replicate n (replicate size 0))
flat-zeros size zero k e = let z : k ≡ zero = omega (arith, e) in ap (λ (j : ℕ). replicate j 0) z
flat-zeros size (suc n) k e =
    let z : k ≡ size + n * size = omega (arith, e) in
    ap (λ (j : ℕ). replicate j 0) z ∙ sym (replicate-append-replicate size (n * size) 0) ∙ ap (λ zs. replicate size 0 ++ zs) (flat-zeros size n (n * size) refl)
