-- How many pairs of groups may be joined, and what a group that comes or goes changes of it.
use Rattle.std.proofs.Common.{◌≡◌, ℕ, zero, suc, ◌+◌, ◌-◌, ◌*◌, ◌^◌, ◌<◌, ◌≤◌, Bool, true, false, eqb, List, [], ◌∷◌, ◌++◌, length, get_or, set, refl, sym, ap, ◌∙◌, subst, ⊎_elim, arith, eq-eqb, length-append}
use Rattle.std.specs.Prelude.{if◌then◌else◌}
use Rattle.std.specs.List.{filter, flat_map, insert}
use Rattle.std.proofs.lemmas.Bool.{cases_Bool, cases_lt, ne_eqb}
use Rattle.std.proofs.lemmas.List.{get_or-set_same, length-set}
use Rattle.merge_queue.specs.declared.limits.Limits.{Limits}
use Rattle.merge_queue.specs.Groups.{Group, size, may_follow, may_join, group_in, numbers, followers, pairs, pairs_below, without, joined}
use Rattle.merge_queue.specs.Index.{total}
use Rattle.merge_queue.specs.Counts.{leaders, links, AreWithin, Counted}
use Rattle.merge_queue.proofs.Lists.{total-without, all-insert, all-set, all-gone}
use Rattle.merge_queue.proofs.Joins.{row, length-row, pairs-more, one-or-none}

-- ---- sums

pub total-each : {A : Type 0} (f g : A → ℕ) (xs : List A) → ((x : A) → f x ≡ g x) → total f xs ≡ total g xs
total-each f g [] h = refl
total-each f g (x ∷ xs) h = let a = h x in let b = total-each f g xs h in omega arith

total-plus : {A : Type 0} (f g : A → ℕ) (xs : List A) → total (λ x. f x + g x) xs ≡ total f xs + total g xs
total-plus f g [] = refl
total-plus f g (x ∷ xs) = let a = total-plus f g xs in omega arith

-- ---- counts of numbers that pass

pub filter-first : (t : ℕ → Bool) (k : ℕ) (ks : List ℕ) → length (filter t (k ∷ ks)) ≡ (if t k then 1 else 0) + length (filter t ks)
filter-first t k ks = ⊎_elim (λ (e : t k ≡ true). rw e (omega arith)) (λ (e : t k ≡ false). rw e (omega arith)) (cases_Bool (t k))

-- none for a test that fails
fails : (b : Bool) → b ≡ false → (if b then 1 else 0) + 0 ≡ 0
fails b e = rw e (omega arith)

count-passed : {A : Type 0} (t : ℕ → Bool) (f : A → ℕ) (xs : List A) (k : ℕ) (d : A) → ((j m : ℕ) → m ≡ k + j → j < length xs → (if t m then 1 else 0) ≡ f (get_or xs j d)) →
    length (filter t (numbers k (length xs))) ≡ total f xs
count-passed t f [] k d h = refl
count-passed t f (x ∷ xs) k d h =
    let a = filter-first t k (numbers (suc k) (length xs)) in
    let b : (if t k then 1 else 0) ≡ f x = h 0 k (omega arith) (omega arith) in
    let c = count-passed t f xs (suc k) d (λ j m e l. h (suc j) m (omega arith) (omega arith)) in
    omega arith

-- .. where all but number i pass by what stands there
count-others : {A : Type 0} (t : ℕ → Bool) (f : A → ℕ) (xs : List A) (k i : ℕ) (d : A) → i < length xs → ((m : ℕ) → m ≡ k + i → t m ≡ false) →
    ((j m : ℕ) → m ≡ k + j → j < length xs → (j ≡ i → ⊥) → (if t m then 1 else 0) ≡ f (get_or xs j d)) →
    length (filter t (numbers k (length xs))) + f (get_or xs i d) ≡ total f xs
count-others t f [] k i d l n h = absurd (omega arith)
count-others t f (x ∷ xs) k zero d l n h =
    let a = filter-first t k (numbers (suc k) (length xs)) in
    let b = fails (t k) (n k (omega arith)) in
    let c = count-passed t f xs (suc k) d (λ j m e l. h (suc j) m (omega arith) (omega arith) (λ q. omega arith)) in
    omega arith
count-others t f (x ∷ xs) k (suc i) d l n h =
    let a = filter-first t k (numbers (suc k) (length xs)) in
    let b : (if t k then 1 else 0) ≡ f x = h 0 k (omega arith) (omega arith) (λ q. omega arith) in
    let c = count-others t f xs (suc k) i d (omega arith) (λ m e. n m (omega arith)) (λ j m e l ne. h (suc j) m (omega arith) (omega arith) (λ q. ne (omega arith))) in
    omega arith

-- ---- pairs

-- one for a group that may follow another
abbrev pub may : Limits → Group → Group → ℕ
may lim g h = if may_follow lim g h then 1 else 0

-- how many of these groups may follow a group
abbrev pub after : Limits → Group → List Group → ℕ
after lim g q = total (λ h. may lim g h) q

-- how many of them it may follow
abbrev pub ahead : Limits → Group → List Group → ℕ
ahead lim g q = total (λ h. may lim h g) q

-- how many of them may follow themselves
abbrev pub alone : Limits → List Group → ℕ
alone lim q = total (λ g. may lim g g) q

pub same-never : (lim : Limits) (q : List Group) (i j : ℕ) → i ≡ j → may_join lim q i j ≡ false
same-never lim q i j e = let f : eqb i j ≡ true = eq-eqb i j e in rw f refl

other-may : (lim : Limits) (q : List Group) (i j : ℕ) → (i ≡ j → ⊥) → (if may_join lim q i j then 1 else 0) ≡ may lim (group_in q i) (group_in q j)
other-may lim q i j ne = let f : eqb i j ≡ false = ne_eqb i j ne in rw f refl

followers-count : (lim : Limits) (q : List Group) (i : ℕ) → i < length q → length (followers lim q i) + may lim (group_in q i) (group_in q i) ≡ after lim (group_in q i) q
followers-count lim q i l =
    count-others (may_join lim q i) (λ h. may lim (group_in q i) h) q 0 i [] l
    (λ m e. same-never lim q i m (omega arith))
    (λ j m e k ne. (let z : m ≡ j = omega arith in rw z (other-may lim q i j (λ p. ne (sym p)))))

leaders-count : (lim : Limits) (q : List Group) (i : ℕ) → i < length q → length (leaders lim q i) + may lim (group_in q i) (group_in q i) ≡ ahead lim (group_in q i) q
leaders-count lim q i l =
    count-others (λ j. may_join lim q j i) (λ h. may lim h (group_in q i)) q 0 i [] l
    (λ m e. same-never lim q m i (omega arith))
    (λ j m e k ne. (let z : m ≡ j = omega arith in rw z (other-may lim q j i ne)))

rows-count : (lim : Limits) (q xs : List Group) (k : ℕ) → ((j m : ℕ) → m ≡ k + j → j < length xs → (m < length q) × (group_in q m ≡ get_or xs j [])) →
    length (flat_map (row lim q) (numbers k (length xs))) + alone lim xs ≡ total (λ g. after lim g q) xs
rows-count lim q [] k h = refl
rows-count lim q (x ∷ xs) k h =
    let a = h 0 k (omega arith) (omega arith) in
    let b = followers-count lim q k a.0 in
    let x-is : group_in q k ≡ x = a.1 in
    let c : length (followers lim q k) + may lim x x ≡ after lim x q = subst (λ g. length (followers lim q k) + may lim g g ≡ after lim g q) x-is b in
    let d = length-append (row lim q k) (flat_map (row lim q) (numbers (suc k) (length xs))) in
    let e = length-row lim q k in
    let f = rows-count lim q xs (suc k) (λ j m e l. h (suc j) m (omega arith) (omega arith)) in
    omega arith

pairs-count : (lim : Limits) (q : List Group) → length (pairs lim q) + alone lim q ≡ total (λ g. after lim g q) q
pairs-count lim q = rows-count lim q q 0 (λ j m e l. (let z : m ≡ j = omega arith in (omega arith, ap (group_in q) z)))

-- a group that goes takes its pairs with it
pub pairs-gone : (lim : Limits) (q : List Group) (i : ℕ) → i < length q → length (pairs lim (without i q)) + links lim q i ≡ length (pairs lim q)
pairs-gone lim q i l =
    let g = group_in q i in
    let ys = without i q in
    let a : total (λ h. after lim h q) ys + after lim g q ≡ total (λ h. after lim h q) q = total-without (λ h. after lim h q) q i [] l in
    let b : alone lim ys + may lim g g ≡ alone lim q = total-without (λ h. may lim h h) q i [] l in
    let c : ahead lim g ys + may lim g g ≡ ahead lim g q = total-without (λ h. may lim h g) q i [] l in
    let d : (h : Group) → after lim h q ≡ after lim h ys + may lim h g = (λ h. sym (total-without (λ y. may lim h y) q i [] l)) in
    let e : total (λ h. after lim h q) ys ≡ total (λ h. after lim h ys) ys + ahead lim g ys =
    total-each (λ h. after lim h q) (λ h. after lim h ys + may lim h g) ys d ∙ total-plus (λ h. after lim h ys) (λ h. may lim h g) ys in
    let p = pairs-count lim q in
    let p' = pairs-count lim ys in
    let f = followers-count lim q i l in
    let m = leaders-count lim q i l in
    omega arith

-- ---- what comes and goes

pub length-without : {A : Type 0} (xs : List A) (i : ℕ) → i < length xs → suc (length (without i xs)) ≡ length xs
length-without [] i l = absurd (omega arith)
length-without (x ∷ xs) zero l = refl
length-without (x ∷ xs) (suc i) l = let e = length-without xs i (omega arith) in omega arith

pub insert-long : {A : Type 0} (xs : List A) (at : ℕ) (y : A) → at ≤ length xs → at < length (insert xs at y)
insert-long [] zero y l = omega arith
insert-long [] (suc at) y l = absurd (omega arith)
insert-long (x ∷ xs) zero y l = omega arith
insert-long (x ∷ xs) (suc at) y l = let e = insert-long xs at y (omega arith) in omega arith

pub without-insert : {A : Type 0} (xs : List A) (at : ℕ) (y : A) → at ≤ length xs → without at (insert xs at y) ≡ xs
without-insert [] zero y l = refl
without-insert [] (suc at) y l = absurd (omega arith)
without-insert (x ∷ xs) zero y l = refl
without-insert (x ∷ xs) (suc at) y l = ap (λ z. x ∷ z) (without-insert xs at y (omega arith))

without-set : {A : Type 0} (xs : List A) (i : ℕ) (y : A) → without i (set xs i y) ≡ without i xs
without-set [] i y = refl
without-set (x ∷ xs) zero y = refl
without-set (x ∷ xs) (suc i) y = ap (λ z. x ∷ z) (without-set xs i y)

-- where element i is once element j has gone
pub record IsLeft (i j k : ℕ) : Type 0 where
  pub other : i ≡ j → ⊥
  pub before : i < j → k ≡ i
  pub behind : j < i → k + 1 ≡ i

less-left : (i j k : ℕ) → IsLeft (suc i) (suc j) (suc k) → IsLeft i j k
less-left i j k h = record { other = λ e. h.other (ap suc e); before = λ l. (let a = h.before (omega arith) in omega arith); behind = λ l. (let a = h.behind (omega arith) in omega arith) }

not-first : (i j : ℕ) → IsLeft (suc i) (suc j) 0 → ⊥
not-first i j h =
    ⊎_elim
    (λ (x : suc i < suc j). let a = h.before x in omega arith)
    (λ (x : suc j ≤ suc i).
    ⊎_elim
    (λ (y : suc j < suc i). let a = h.behind y in omega arith)
    (λ (y : suc i ≤ suc j). let z : suc i ≡ suc j = omega arith in h.other z)
    (cases_lt (suc j) (suc i)))
    (cases_lt (suc i) (suc j))

pub left-there : {A : Type 0} (xs : List A) (i j k : ℕ) (d : A) → IsLeft i j k → get_or (without j xs) k d ≡ get_or xs i d
left-there [] i j k d h = refl
left-there (x ∷ xs) zero zero k d h = absurd (h.other refl)
left-there (x ∷ xs) zero (suc j) zero d h = refl
left-there (x ∷ xs) zero (suc j) (suc k) d h = absurd (let a = h.before (omega arith) in omega arith)
left-there (x ∷ xs) (suc i) zero k d h = let e : k ≡ i = (let a = h.behind (omega arith) in omega arith) in rw e refl
left-there (x ∷ xs) (suc i) (suc j) zero d h = absurd (not-first i j h)
left-there (x ∷ xs) (suc i) (suc j) (suc k) d h = left-there xs i j k d (less-left i j k h)

pub left-without : {A : Type 0} (xs : List A) (i j k : ℕ) (y : A) → IsLeft i j k → without k (without j (set xs i y)) ≡ without k (without j xs)
left-without [] i j k y h = refl
left-without (x ∷ xs) zero zero k y h = absurd (h.other refl)
left-without (x ∷ xs) zero (suc j) zero y h = refl
left-without (x ∷ xs) zero (suc j) (suc k) y h = absurd (let a = h.before (omega arith) in omega arith)
left-without (x ∷ xs) (suc i) zero k y h = let e : k ≡ i = (let a = h.behind (omega arith) in omega arith) in rw e (without-set xs i y)
left-without (x ∷ xs) (suc i) (suc j) zero y h = absurd (not-first i j h)
left-without (x ∷ xs) (suc i) (suc j) (suc k) y h = ap (λ z. x ∷ z) (left-without xs i j k y (less-left i j k h))

-- the pairs of a group once another has gone
links-left : (lim : Limits) (q : List Group) (i j k : ℕ) → i < length q → j < length q → k < length (without j q) → IsLeft i j k →
    links lim (without j q) k + ((if may_join lim q i j then 1 else 0) + (if may_join lim q j i then 1 else 0)) ≡ links lim q i
links-left lim q i j k l m n h =
    let g = group_in q i in
    let y = group_in q j in
    let there : group_in (without j q) k ≡ g = left-there q i j k [] h in
    let a = followers-count lim q i l in
    let b = leaders-count lim q i l in
    let c : length (followers lim (without j q) k) + may lim g g ≡ after lim g (without j q) = subst (λ z. length (followers lim (without j q) k) + may lim z z ≡ after lim z (without j q)) there (followers-count lim (without j q) k n) in
    let d : length (leaders lim (without j q) k) + may lim g g ≡ ahead lim g (without j q) = subst (λ z. length (leaders lim (without j q) k) + may lim z z ≡ ahead lim z (without j q)) there (leaders-count lim (without j q) k n) in
    let e : after lim g (without j q) + may lim g y ≡ after lim g q = total-without (λ z. may lim g z) q j [] m in
    let f : ahead lim g (without j q) + may lim y g ≡ ahead lim g q = total-without (λ z. may lim z g) q j [] m in
    let o = other-may lim q i j h.other in
    let p = other-may lim q j i (λ z. h.other (sym z)) in
    omega arith

-- the pairs that two groups make are among those of the first
pub pair-within : (lim : Limits) (q : List Group) (i j : ℕ) → i < length q → j < length q → (i ≡ j → ⊥) →
    (if may_join lim q i j then 1 else 0) + (if may_join lim q j i then 1 else 0) ≤ links lim q i
pair-within lim q i j l m ne =
    let w = length-without q j m in
    ⊎_elim
    (λ (h : i < j). let e = links-left lim q i j i l m (omega arith) (record { other = ne; before = λ x. refl; behind = λ x. absurd (omega arith) }) in omega arith)
    (λ (h : j ≤ i).
    (let o : j ≡ i → ⊥ = (λ z. ne (sym z)) in
    let k : i - 1 + 1 ≡ i = omega arith in
    let e = links-left lim q i j (i - 1) l m (omega arith) (record { other = ne; before = λ x. absurd (omega arith); behind = λ x. k }) in omega arith))
    (cases_lt i j)

-- ---- the moves of a queue

-- .. a group that comes brings its pairs
pub pairs-came : (lim : Limits) (q : List Group) (at : ℕ) (g : Group) → at ≤ length q → length (pairs lim (insert q at g)) ≡ length (pairs lim q) + links lim (insert q at g) at
pairs-came lim q at g l =
    let a = pairs-gone lim (insert q at g) at (insert-long q at g l) in
    let b = ap (λ z. length (pairs lim z)) (without-insert q at g l) in
    omega arith

-- .. and two that become one have together the pairs of the one and what is lost
pub pairs-joined : (lim : Limits) (q : List Group) (i j k lost : ℕ) → i < length q → j < length q → IsLeft i j k →
    lost + ((if may_join lim q i j then 1 else 0) + (if may_join lim q j i then 1 else 0)) ≡ links lim q i + links lim q j →
    (length (pairs lim (joined q i j)) + lost ≡ length (pairs lim q) + links lim (joined q i j) k) × (k < length (joined q i j)) × (lost ≤ length (pairs lim q))
pairs-joined lim q i j k lost l m h e =
    let y = group_in q i ++ group_in q j in
    let long = length-set q i y in
    let lw = length-without q j m in
    let lz = length-without (set q i y) j (omega arith) in
    let o = h.other in
    let b = h.before in
    let c = h.behind in
    let n : k < length (without j q) = kept i j k (length q) h l m (length (without j q)) lw in
    let n' : k < length (joined q i j) = omega arith in
    let a = pairs-gone lim q j m in
    let d = pairs-gone lim (without j q) k n in
    let f = pairs-gone lim (joined q i j) k n' in
    let g = ap (λ z. length (pairs lim z)) (left-without q i j k y h) in
    let u = links-left lim q i j k l m n h in
    (omega arith, n', omega arith)
  where
    kept : (i j k n : ℕ) → IsLeft i j k → i < n → j < n → (m : ℕ) → suc m ≡ n → k < m
    kept i j k n h l m w e =
        ⊎_elim
        (λ (x : i < j). let a = h.before x in omega arith)
        (λ (x : j ≤ i). ⊎_elim (λ (y : j < i). let a = h.behind y in omega arith) (λ (y : i ≤ j). let z : i ≡ j = omega arith in absurd (h.other z)) (cases_lt j i))
        (cases_lt i j)

-- ---- bounds

filter-few : (t : ℕ → Bool) (k n : ℕ) → length (filter t (numbers k n)) ≤ n
filter-few t k zero = omega arith
filter-few t k (suc n) = let a = filter-first t k (numbers (suc k) n) in let b = filter-few t (suc k) n in let c = one-or-none (t k) in omega arith

below-few : (lim : Limits) (q : List Group) (n : ℕ) → length q < 2 ^ 32 → length (pairs_below lim q n) ≤ n * 4294967295
below-few lim q zero h = omega arith
below-few lim q (suc n) h =
    let e : suc n ≡ n + 1 = omega arith in
    let a = pairs-more lim q n in
    let b = below-few lim q n h in
    let c = filter-few (may_join lim q n) 0 (length q) in
    let d = ap (λ k. length (pairs_below lim q k)) e in
    omega arith

-- a count of 64 bits holds all pairs
pub few-pairs : (lim : Limits) (q : List Group) → length q < 2 ^ 32 → length (pairs lim q) < 2 ^ 64
few-pairs lim q h = let a = below-few lim q (length q) h in omega arith

wider : (most more : ℕ) (q : List Group) → most ≤ more → AreWithin most q → AreWithin more q
wider most more q h w k d l = let a = w k d l in omega arith

pub within-came : (most more : ℕ) (q : List Group) (at : ℕ) (g : Group) → most ≤ more → size g ≤ more → AreWithin most q → AreWithin more (insert q at g)
within-came most more q at g h s w = all-insert (λ (x : Group). size x ≤ more) q at g s (wider most more q h w)

pub within-gone : (most : ℕ) (q : List Group) (i : ℕ) → AreWithin most q → AreWithin most (without i q)
within-gone most q i w = all-gone (λ (x : Group). size x ≤ most) q i (λ k d l ne. w k d l)

-- what stands at the place of the new group
pub come-there : (q : List Group) (at : ℕ) (g : Group) → at ≤ length q → group_in (insert q at g) at ≡ g
come-there [] zero g l = refl
come-there [] (suc at) g l = absurd (omega arith)
come-there (x ∷ xs) zero g l = refl
come-there (x ∷ xs) (suc at) g l = come-there xs at g (omega arith)

pub joined-there : (q : List Group) (i j k : ℕ) → i < length q → IsLeft i j k → group_in (joined q i j) k ≡ group_in q i ++ group_in q j
joined-there q i j k l h =
    let y = group_in q i ++ group_in q j in
    left-there (set q i y) i j k [] h ∙ get_or-set_same q i y [] l

pub within-joined : (most more : ℕ) (q : List Group) (i j : ℕ) → most ≤ more → size (group_in q i ++ group_in q j) ≤ more → AreWithin most q → AreWithin more (joined q i j)
within-joined most more q i j h s w =
    let y = group_in q i ++ group_in q j in
    within-gone more (set q i y) j (all-set (λ (x : Group). size x ≤ more) q i y s (λ k d l ne. wider most more q h w k d l))

-- ---- what is kept

pub kept-came : (lim : Limits) (q q' : List Group) (kept longest more at new : ℕ) (g : Group) → Counted q lim kept longest → at ≤ length q → q' ≡ insert q at g → longest ≤ more → size (group_in q' at) ≤ more →
    new ≡ links lim q' at → length q' < 2 ^ 32 → (kept + new < 2 ^ 64) × Counted q' lim (kept + new) more
kept-came lim q q' kept longest more at new g h l e m s n few =
    let a = pairs-came lim q at g l in
    let b = ap (λ z. length (pairs lim z)) e in
    let c = ap (λ z. links lim z at) e in
    let k = h.count in
    let f = few-pairs lim q' few in
    let there : size g ≤ more = (let d = ap (λ z. size (group_in z at)) e in let t = ap size (come-there q at g l) in omega arith) in
    (omega arith, record { count = omega arith; within = subst (AreWithin more) (sym e) (within-came longest more q at g m there h.within) })

pub kept-gone : (lim : Limits) (q q' : List Group) (kept longest i old : ℕ) → Counted q lim kept longest → i < length q → q' ≡ without i q → old ≡ links lim q i → (old ≤ kept) × Counted q' lim (kept - old) longest
kept-gone lim q q' kept longest i old h l e o =
    let a = pairs-gone lim q i l in
    let b = ap (λ z. length (pairs lim z)) e in
    let k = h.count in
    (omega arith, record { count = omega arith; within = subst (AreWithin longest) (sym e) (within-gone longest q i h.within) })

pub joined-within : (q q' : List Group) (longest more i j k : ℕ) → i < length q → IsLeft i j k → q' ≡ joined q i j → longest ≤ more → size (group_in q' k) ≤ more → AreWithin longest q → AreWithin more q'
joined-within q q' longest more i j k l h e m s w =
    let there : size (group_in q i ++ group_in q j) ≤ more = (let d = ap (λ z. size (group_in z k)) e in let t = ap size (joined-there q i j k l h) in omega arith) in
    subst (AreWithin more) (sym e) (within-joined longest more q i j m there w)

-- where the joined group stands
pub joined-long : (lim : Limits) (q q' : List Group) (i j k lost : ℕ) → i < length q → j < length q → IsLeft i j k → q' ≡ joined q i j →
    lost + ((if may_join lim q i j then 1 else 0) + (if may_join lim q j i then 1 else 0)) ≡ links lim q i + links lim q j → k < length q'
joined-long lim q q' i j k lost l m w e o =
    let a = (pairs-joined lim q i j k lost l m w o).1 in
    let c = ap length e in
    omega arith

pub kept-joined : (lim : Limits) (q q' : List Group) (kept longest more i j k lost new : ℕ) → Counted q lim kept longest → i < length q → j < length q → IsLeft i j k → q' ≡ joined q i j →
    lost + ((if may_join lim q i j then 1 else 0) + (if may_join lim q j i then 1 else 0)) ≡ links lim q i + links lim q j → AreWithin more q' →
    new ≡ links lim q' k → length q' < 2 ^ 32 → (kept - lost + new < 2 ^ 64) × Counted q' lim (kept - lost + new) more
kept-joined lim q q' kept longest more i j k lost new h l m w e o v n few =
    let a = pairs-joined lim q i j k lost l m w o in
    let a₀ = a.0 in
    let d = a.2 in
    let b = ap (λ z. length (pairs lim z)) e in
    let c = ap (λ z. links lim z k) e in
    let g = h.count in
    let f = few-pairs lim q' few in
    (omega arith, record { count = omega arith; within = v })

-- two groups' pairs are among all
pub two-within : (lim : Limits) (q : List Group) (i j lost : ℕ) → i < length q → j < length q → (i ≡ j → ⊥) →
    lost + ((if may_join lim q i j then 1 else 0) + (if may_join lim q j i then 1 else 0)) ≡ links lim q i + links lim q j → lost ≤ length (pairs lim q)
two-within lim q i j lost l m ne e =
    ⊎_elim
    (λ (h : i < j). (let a = pairs-joined lim q i j i lost l m (record { other = ne; before = λ x. refl; behind = λ x. absurd (omega arith) }) e in a.2))
    (λ (h : j ≤ i).
    (let o : j ≡ i → ⊥ = (λ z. ne (sym z)) in
    let k : i - 1 + 1 ≡ i = omega arith in
    let a = pairs-joined lim q i j (i - 1) lost l m (record { other = ne; before = λ x. absurd (omega arith); behind = λ x. k }) e in a.2))
    (cases_lt i j)
