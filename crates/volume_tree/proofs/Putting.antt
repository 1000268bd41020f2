-- A number put into an ordered list, once.
use Rattle.std.proofs.Common.{ℕ, suc, ◌≡◌, ◌+◌, ◌<◌, ◌≤◌, ◌&&◌, ltb, leb, eqb, not, cond, Bool, true, false, Some, None, subst, List, [], ◌∷◌, length, get_or, drop, drop-cons, refl, sym, ap, ◌∙◌, arith}
use Rattle.std.specs.List.{position_or_len, insert}
use Rattle.std.proofs.lemmas.Bool.Decides.{nat_tests}
use Rattle.std.proofs.lemmas.List.Edits.{length-insert}
use Rattle.std.proofs.lemmas.List.Sums.{prefix_len-le-length}
use Rattle.linear_volume.specs.declared.Linear.{Linear}
use Rattle.volume_tree.specs.Tracks.{end_of, has_at, is_from, put, put_all, put_ends}
use Rattle.small_laws.proofs.Tests.{ltb_suc}
use Rattle.small_laws.proofs.Numbers.{one_more}

not_leb : (x y : ℕ) → not (leb x y) ≡ ltb y x
not_leb x y = grind (arith, nat_tests)

cond_cons : (b : Bool) (y : ℕ) (xs ys : List ℕ) → cond b (y ∷ xs) (y ∷ ys) ≡ y ∷ cond b xs ys
cond_cons true y xs ys = refl
cond_cons false y xs ys = refl

place_more : (x y : ℕ) (ys : List ℕ) → ltb y x ≡ true → position_or_len (is_from x) (y ∷ ys) ≡ suc (position_or_len (is_from x) ys)
place_more x y ys h =
    let c : not (leb x y) ≡ true = not_leb x y ∙ h in
    ap (λ b. cond b (1 + position_or_len (is_from x) ys) 0) c ∙ one_more (position_or_len (is_from x) ys)

place_first : (x y : ℕ) (ys : List ℕ) → ltb y x ≡ false → position_or_len (is_from x) (y ∷ ys) ≡ 0
place_first x y ys h =
    let c : not (leb x y) ≡ false = not_leb x y ∙ h in
    ap (λ b. cond b (1 + position_or_len (is_from x) ys) 0) c

put_step : (b : Bool) (x y : ℕ) (ys : List ℕ) → ltb y x ≡ b → put x ys ≡ cond (has_at ys (position_or_len (is_from x) ys) x) ys (insert ys (position_or_len (is_from x) ys) x)
    → put x (y ∷ ys) ≡ cond (has_at (y ∷ ys) (position_or_len (is_from x) (y ∷ ys)) x) (y ∷ ys) (insert (y ∷ ys) (position_or_len (is_from x) (y ∷ ys)) x)
put_step true x y ys h r =
    let here : cond (has_at (y ∷ ys) (position_or_len (is_from x) (y ∷ ys)) x) (y ∷ ys) (insert (y ∷ ys) (position_or_len (is_from x) (y ∷ ys)) x) ≡ cond (has_at (y ∷ ys) (suc (position_or_len (is_from x) ys)) x) (y ∷ ys) (insert (y ∷ ys) (suc (position_or_len (is_from x) ys)) x) =
    ap (λ q. cond (has_at (y ∷ ys) q x) (y ∷ ys) (insert (y ∷ ys) q x)) (place_more x y ys h) in
    let same : has_at (y ∷ ys) (suc (position_or_len (is_from x) ys)) x ≡ has_at ys (position_or_len (is_from x) ys) x = ap (λ b. b && eqb (get_or ys (position_or_len (is_from x) ys) 0) x) (ltb_suc (position_or_len (is_from x) ys) (length ys)) in
    ap (λ b. cond b (y ∷ put x ys) (cond (eqb y x) (y ∷ ys) (x ∷ y ∷ ys))) h ∙ ap (λ l. y ∷ l) r
    ∙ sym (here ∙ ap (λ b. cond b (y ∷ ys) (y ∷ insert ys (position_or_len (is_from x) ys) x)) same ∙ cond_cons (has_at ys (position_or_len (is_from x) ys) x) y ys (insert ys (position_or_len (is_from x) ys) x))
put_step false x y ys h r =
    let here : cond (has_at (y ∷ ys) (position_or_len (is_from x) (y ∷ ys)) x) (y ∷ ys) (insert (y ∷ ys) (position_or_len (is_from x) (y ∷ ys)) x) ≡ cond (has_at (y ∷ ys) 0 x) (y ∷ ys) (insert (y ∷ ys) 0 x) =
    ap (λ q. cond (has_at (y ∷ ys) q x) (y ∷ ys) (insert (y ∷ ys) q x)) (place_first x y ys h) in
    let some : ltb 0 (suc (length ys)) ≡ true = grind (arith, nat_tests) in
    ap (λ b. cond b (y ∷ put x ys) (cond (eqb y x) (y ∷ ys) (x ∷ y ∷ ys))) h
    ∙ sym (here ∙ ap (λ b. cond (b && eqb y x) (y ∷ ys) (x ∷ y ∷ ys)) some)

-- a number goes to the first place that isn't below it, where it doesn't stand there
pub put_is : (x : ℕ) (xs : List ℕ) → put x xs ≡ cond (has_at xs (position_or_len (is_from x) xs) x) xs (insert xs (position_or_len (is_from x) xs) x)
put_is x [] = refl
put_is x (y ∷ ys) = put_step (ltb y x) x y ys refl (put_is x ys)

-- where it doesn't stand there, there is one more
pub put_longer : (x : ℕ) (xs : List ℕ) → has_at xs (position_or_len (is_from x) xs) x ≡ false → length (put x xs) ≡ length xs + 1
put_longer x xs h =
    let e : put x xs ≡ insert xs (position_or_len (is_from x) xs) x = put_is x xs ∙ ap (λ b. cond b xs (insert xs (position_or_len (is_from x) xs) x)) h in
    ap length e ∙ length-insert xs (position_or_len (is_from x) xs) x (prefix_len-le-length _ xs)

grows_by : (b c : Bool) (x y : ℕ) (ys zs : List ℕ) → length ys ≤ length zs → suc (length ys) ≤ length (cond b (y ∷ zs) (cond c (y ∷ ys) (x ∷ y ∷ ys)))
grows_by true c x y ys zs h = omega (arith, h)
grows_by false true x y ys zs h = omega arith
grows_by false false x y ys zs h = omega arith

grows : (x : ℕ) (xs : List ℕ) → length xs ≤ length (put x xs)
grows x [] = omega arith
grows x (y ∷ ys) = grows_by (ltb y x) (eqb y x) x y ys (put x ys) (grows x ys)

pub ends_grow : (xs : List ℕ) (t : List Linear) → length xs ≤ length (put_ends xs t)
ends_grow xs [] = omega arith
ends_grow xs (e ∷ t) = let a = grows (end_of e) xs in let b = ends_grow (put (end_of e) xs) t in omega (arith, a, b)

pub all_grow : (xs : List ℕ) (ts : List (List Linear)) → length xs ≤ length (put_all xs ts)
all_grow xs [] = omega arith
all_grow xs (t ∷ ts) = let a = ends_grow xs t in let b = all_grow (put_ends xs t) ts in omega (arith, a, b)

pub some_place : (b : Bool) (n i : ℕ) → Some i ≡ cond b (Some n) None → i ≡ n
some_place true n i h = cc
some_place false n i h = absurd (cc)

none_by : (b : Bool) (xs : List ℕ) (n : ℕ) → ltb n (length xs) ≡ b → n ≤ length xs → None ≡ cond b (Some n) None → length xs ≡ n
none_by true xs n e le h = absurd (cc)
none_by false xs n e le h = grind (arith, nat_tests)

pub none_place : (xs : List ℕ) (n : ℕ) → n ≤ length xs → None ≡ cond (ltb n (length xs)) (Some n) None → length xs ≡ n
none_place xs n le h = none_by (ltb n (length xs)) xs n refl le h

pub stays : (x : ℕ) (xs : List ℕ) (p : ℕ) → p ≡ position_or_len (is_from x) xs → has_at xs p x ≡ true → xs ≡ put x xs
stays x xs p e h = sym (put_is x xs ∙ ap (λ q. cond (has_at xs q x) xs (insert xs q x)) (sym e) ∙ ap (λ b. cond b xs (insert xs p x)) h)

pub joins : (x : ℕ) (xs ys : List ℕ) (p : ℕ) → p ≡ position_or_len (is_from x) xs → has_at xs p x ≡ false → ys ≡ insert xs p x → ys ≡ put x xs
joins x xs ys p e h i = i ∙ sym (put_is x xs ∙ ap (λ q. cond (has_at xs q x) xs (insert xs q x)) (sym e) ∙ ap (λ b. cond b xs (insert xs p x)) h)

pub too_many : (x : ℕ) (xs : List ℕ) (p : ℕ) → p ≡ position_or_len (is_from x) xs → has_at xs p x ≡ false → length xs ≡ 16 → 16 < length (put x xs)
too_many x xs p e h full = let l = put_longer x xs (subst (λ q. has_at xs q x ≡ false) e h) in omega (arith, l, full)

-- once there are too many, there stay too many
pub next_ends : (xs : List ℕ) (t : List Linear) (i : ℕ) (d : Linear) → i < length t → (all : List ℕ) → put_ends xs (drop i t) ≡ all → 16 < length (put (end_of (get_or t i d)) xs) → 16 < length all
next_ends xs t i d h all e big =
    let same : all ≡ put_ends (put (end_of (get_or t i d)) xs) (drop (suc i) t) = sym e ∙ ap (put_ends xs) (drop-cons t i d h) in
    let g = ends_grow (put (end_of (get_or t i d)) xs) (drop (suc i) t) in
    omega (arith, ap length same, g, big)

pub next_all : (xs : List ℕ) (t : List Linear) (ts all : List (List Linear)) (total : List ℕ) → ts ≡ t ∷ all → put_all xs ts ≡ total → 16 < length (put_ends xs t) → 16 < length total
next_all xs t ts all total e f big =
    let same : total ≡ put_all (put_ends xs t) all = sym f ∙ ap (put_all xs) e in
    let g = all_grow (put_ends xs t) all in
    omega (arith, ap length same, g, big)
