-- Pages of two pools are the same exactly where their bytes are, one page after another.
use Rattle.std.proofs.Common.{◌≡◌, ℕ, zero, suc, ◌+◌, ◌*◌, ◌-◌, ◌<◌, Bool, true, false, min, List, [], ◌∷◌, ◌++◌, length, take, drop, refl, sym, ap, ◌∙◌, arith}
use Rattle.std.proofs.Math.Seq.{take-add}
use Rattle.std.proofs.lemmas.List.{drop-drop, drop-take, drop_at, length-take, take-take, take_all, take_at}
use Rattle.std.proofs.lemmas.Slice.Eq.{bytes_eq-Decides}
use Rattle.std.specs.Str.{bytes_eq}
use Rattle.page_pool.specs.Cells.{flat}
use Rattle.page_pool.specs.Pages.{AreWhole, page_of}
use Rattle.page_pool.proofs.Celled.{whole-rest, length-flat}

first_long : (page : List ℕ) (pages : List (List ℕ)) → AreWhole (page ∷ pages) → length page ≡ 4096
first_long page pages w = w.size 0 (omega arith)

-- the bytes of a page
pub page_there : (pool : List (List ℕ)) (i : ℕ) → AreWhole pool → i < length pool → take 4096 (drop (4096 * i) (flat pool)) ≡ page_of pool i
page_there [] i w l = absurd (omega arith)
page_there (page ∷ pages) zero w l = take_at page (flat pages) 4096 (first_long page pages w)
page_there (page ∷ pages) (suc i) w l =
    let f = first_long page pages w in
    let e : drop (4096 * suc i) (page ++ flat pages) ≡ drop (4096 * i) (flat pages) = (let n : 4096 * suc i ≡ 4096 + 4096 * i = omega arith in ap (λ k. drop k (page ++ flat pages)) n ∙ sym (drop-drop (4096 * i) 4096 (page ++ flat pages)) ∙ ap (drop (4096 * i)) (drop_at page (flat pages) 4096 f)) in
    ap (take 4096) e ∙ page_there pages i (whole-rest page pages w) (omega (arith, l))

same_take : (a b : ℕ) (xs : List ℕ) → min a (length xs) ≡ min b (length xs) → take a xs ≡ take b xs
same_take zero zero xs h = refl
same_take zero (suc b) [] h = refl
same_take zero (suc b) (x ∷ xs) h = absurd (omega (arith, h))
same_take (suc a) zero [] h = refl
same_take (suc a) zero (x ∷ xs) h = absurd (omega (arith, h))
same_take (suc a) (suc b) [] h = refl
same_take (suc a) (suc b) (x ∷ xs) h = ap (λ ys. x ∷ ys) (same_take a b xs (omega (arith, h)))

-- no more pages than there are
no_more : (pool : List (List ℕ)) (pages : ℕ) → AreWhole pool → take (4096 * pages) (flat pool) ≡ take (4096 * min (length pool) pages) (flat pool)
no_more pool pages w = let l = length-flat pool w in same_take (4096 * pages) (4096 * min (length pool) pages) (flat pool) (omega (arith, l))

-- one page more
pub one_more : (a b : List (List ℕ)) (i : ℕ) → AreWhole a → AreWhole b → i < length a → i < length b → page_of a i ≡ page_of b i → take (4096 * i) (flat a) ≡ take (4096 * i) (flat b) → take (4096 * (i + 1)) (flat a) ≡ take (4096 * (i + 1)) (flat b)
one_more a b i v w l m e before =
    let n : 4096 * (i + 1) ≡ 4096 * i + 4096 = omega arith in
    ap (λ k. take k (flat a)) n ∙ take-add (4096 * i) 4096 (flat a)
    ∙ ap (λ xs. take (4096 * i) (flat a) ++ xs) (page_there a i v l ∙ e ∙ sym (page_there b i w m))
    ∙ ap (λ xs. xs ++ take 4096 (drop (4096 * i) (flat b))) before
    ∙ sym (ap (λ k. take k (flat b)) n ∙ take-add (4096 * i) 4096 (flat b))

other_by : (b : Bool) (xs ys : List ℕ) → bytes_eq xs ys ≡ b → (xs ≡ ys → ⊥) → false ≡ b
other_by true xs ys e h = absurd (h ((bytes_eq-Decides xs ys).0 e))
other_by false xs ys e h = refl

are_other : (xs ys : List ℕ) → (xs ≡ ys → ⊥) → false ≡ bytes_eq xs ys
are_other xs ys h = other_by (bytes_eq xs ys) xs ys refl h

first_of_many : (xs : List ℕ) (i pages : ℕ) → i < pages → take 4096 (drop (4096 * i) (take (4096 * pages) xs)) ≡ take 4096 (drop (4096 * i) xs)
first_of_many xs i pages l =
    let n : 4096 * pages ≡ 4096 * i + (4096 + 4096 * (pages - i - 1)) = omega arith in
    ap (λ k. take 4096 (drop (4096 * i) (take k xs))) n ∙ ap (take 4096) (drop-take (4096 * i) (4096 + 4096 * (pages - i - 1)) xs) ∙ take-take 4096 (4096 + 4096 * (pages - i - 1)) (drop (4096 * i) xs) (omega arith)

-- a page is another
pub page_differs : (a b : List (List ℕ)) (i pages : ℕ) → AreWhole a → AreWhole b → i < length a → i < length b → i < pages → (page_of a i ≡ page_of b i → ⊥) → false ≡ bytes_eq (take (4096 * pages) (flat a)) (take (4096 * pages) (flat b))
page_differs a b i pages v w l m p h =
    are_other (take (4096 * pages) (flat a)) (take (4096 * pages) (flat b))
    (λ e. h (sym (page_there a i v l) ∙ sym (first_of_many (flat a) i pages p) ∙ ap (λ xs. take 4096 (drop (4096 * i) xs)) e ∙ first_of_many (flat b) i pages p ∙ page_there b i w m))

-- there are fewer pages
pub count_differs : (a b : List (List ℕ)) (pages : ℕ) → AreWhole a → AreWhole b → (min (length a) pages ≡ min (length b) pages → ⊥) → false ≡ bytes_eq (take (4096 * pages) (flat a)) (take (4096 * pages) (flat b))
count_differs a b pages v w h =
    are_other (take (4096 * pages) (flat a)) (take (4096 * pages) (flat b))
    (λ e. h (let l = length-flat a v in let m = length-flat b w in let x = length-take (4096 * pages) (flat a) in let y = length-take (4096 * pages) (flat b) in let z = ap length e in omega arith))

pub all_same : (a b : List (List ℕ)) (pages count : ℕ) → AreWhole a → AreWhole b → count ≡ min (length a) pages → count ≡ min (length b) pages → take (4096 * count) (flat a) ≡ take (4096 * count) (flat b) → true ≡ bytes_eq (take (4096 * pages) (flat a)) (take (4096 * pages) (flat b))
all_same a b pages count v w n m e =
    sym ((bytes_eq-Decides (take (4096 * pages) (flat a)) (take (4096 * pages) (flat b))).1
    (no_more a pages v ∙ ap (λ k. take (4096 * k) (flat a)) (sym n) ∙ e ∙ ap (λ k. take (4096 * k) (flat b)) m ∙ sym (no_more b pages w)))

-- all of a page
pub all_of : (pool : List (List ℕ)) (page : ℕ) → AreWhole pool → page < length pool → take 4096 (drop 0 (page_of pool page)) ≡ page_of pool page
all_of pool page w l = let e = w.size page l in take_all 4096 (page_of pool page) (omega (arith, e))
