-- What is settled of a command and what goes back are its blocks.
use Rattle.std.proofs.Common.{◌≡◌, ℕ, zero, suc, ◌+◌, ◌-◌, ◌<◌, ◌≤◌, true, false, eqb, List, [], ◌∷◌, ◌++◌, length, get_or, take, drop, map, refl, sym, ap, ◌∙◌, ⊎_elim, arith, drop-cons, length-drop}
use Rattle.std.proofs.lemmas.Bool.{cases_Bool, leb-true, leb-false, eqb-true, eq-eqb}
use Rattle.std.proofs.lemmas.List.{drop_all, length-take, take-append-le}
use Rattle.std.specs.List.{All}
use Rattle.std.proofs.lemmas.List.Elements.{All-nil, All-cons, All-tail, All-map, All-weaker}
use Rattle.stack_laws.specs.Sound.{HasBlocks}
use Rattle.std.specs.Prelude.{if◌then◌else◌, nat_le}
use Rattle.merge_queue.specs.Passed.{Bio, Fate, Good, Bad, Untouched}
use Rattle.stack_laws.specs.Blocks.{place_of, BlockId, run_of, blocks, settled_of, settled_count}
use Rattle.merge_queue.specs.Groups.{size, Group}
use Rattle.merge_queue.specs.Index.{total}
use Rattle.merge_queue.proofs.Counts.{total-each}
use Rattle.stack_laws.specs.Plan.{Plan}
use Rattle.stack_laws.specs.Rests.{Run, front, behind, with_place, untouched_runs, rests}
use Rattle.stack_laws.proofs.Counts.{length-run_of, length-blocks}

-- ---- front and behind as blocks

take-run : (i k n m : ℕ) → n ≤ m → take n (run_of i k m) ≡ run_of i k n
take-run i k zero m h = refl
take-run i k (suc n) zero h = absurd (omega arith)
take-run i k (suc n) (suc m) h = ap (λ l. record { op = i; k = k } ∷ l) (take-run i (suc k) n m (omega arith))

drop-run : (i k n m : ℕ) → n ≤ m → drop n (run_of i k m) ≡ run_of i (k + n) (m - n)
drop-run i k zero m h = let e : m - 0 ≡ m = omega arith in let f : k + 0 ≡ k = omega arith in rw (e, f) refl
drop-run i k (suc n) zero h = absurd (omega arith)
drop-run i k (suc n) (suc m) h =
    drop-run i (suc k) n m (omega arith) ∙ ap (λ a. run_of i a (m - n)) e ∙ ap (λ b. run_of i (k + suc n) b) f
  where
    e : suc k + n ≡ k + suc n
    e = omega arith

    f : m - n ≡ suc m - suc n
    f = omega arith

pub take_past : {A : Type 0} (n m : ℕ) (xs ys : List A) → length xs ≡ m → m ≤ n → take n (xs ++ ys) ≡ xs ++ take (n - m) ys
take_past n m [] ys e h = let f : n - m ≡ n = omega arith in rw f refl
take_past zero m (x ∷ xs) ys e h = absurd (omega arith)
take_past (suc n) zero (x ∷ xs) ys e h = absurd (omega arith)
take_past (suc n) (suc m) (x ∷ xs) ys e h =
    let f : n - m ≡ suc n - suc m = omega arith in
    ap (λ l. x ∷ l) (take_past n m xs ys (omega arith) (omega arith) ∙ ap (λ a. xs ++ take a ys) f)

pub drop_within : {A : Type 0} (n : ℕ) (xs ys : List A) → n ≤ length xs → drop n (xs ++ ys) ≡ drop n xs ++ ys
drop_within zero xs ys h = refl
drop_within (suc n) [] ys h = absurd (omega arith)
drop_within (suc n) (x ∷ xs) ys h = drop_within n xs ys (omega arith)

pub drop_past : {A : Type 0} (n m : ℕ) (xs ys : List A) → length xs ≡ m → m ≤ n → drop n (xs ++ ys) ≡ drop (n - m) ys
drop_past n m [] ys e h = let f : n - m ≡ n = omega arith in rw f refl
drop_past zero m (x ∷ xs) ys e h = absurd (omega arith)
drop_past (suc n) zero (x ∷ xs) ys e h = absurd (omega arith)
drop_past (suc n) (suc m) (x ∷ xs) ys e h =
    let f : n - m ≡ suc n - suc m = omega arith in
    drop_past n m xs ys (omega arith) (omega arith) ∙ ap (λ a. drop a ys) f

append-none : {A : Type 0} (xs : List A) → xs ++ [] ≡ xs
append-none [] = refl
append-none (x ∷ xs) = ap (λ l. x ∷ l) (append-none xs)

pub blocks-front : (p : Plan) (n : ℕ) (bs : List Bio) → blocks (front p n bs) ≡ take n (blocks bs)
blocks-front p zero [] = refl
blocks-front p (suc n) [] = refl
blocks-front p n (b ∷ bs) =
    let l = length-run_of (place_of b.op) b.k b.count in
    ⊎_elim
    (λ (e : nat_le b.count n ≡ true).
    let h = leb-true b.count n e in
    rw e (ap (λ x. run_of (place_of b.op) b.k b.count ++ x) (blocks-front p (n - b.count) bs) ∙ sym (take_past n b.count (run_of (place_of b.op) b.k b.count) (blocks bs) l h)))
    (λ (e : nat_le b.count n ≡ false).
    let h = leb-false b.count n e in
    ⊎_elim
    (λ (z : eqb n 0 ≡ true). let g = eqb-true n 0 z in rw (e, z) (ap (λ m. take m (run_of (place_of b.op) b.k b.count ++ blocks bs)) (sym g)))
    (λ (z : eqb n 0 ≡ false).
    let f : b.k + 0 ≡ b.k = omega arith in
    rw (e, z) (append-none (run_of (place_of b.op) (b.k + 0) n) ∙ ap (λ k. run_of (place_of b.op) k n) f
    ∙ sym (take-append-le n (run_of (place_of b.op) b.k b.count) (blocks bs) (omega arith) ∙ take-run (place_of b.op) b.k n b.count (omega arith))))
    (cases_Bool (eqb n 0)))
    (cases_Bool (nat_le b.count n))

pub blocks-behind : (p : Plan) (n : ℕ) (bs : List Bio) → blocks (behind p n bs) ≡ drop n (blocks bs)
blocks-behind p zero [] = refl
blocks-behind p (suc n) [] = refl
blocks-behind p n (b ∷ bs) =
    let l = length-run_of (place_of b.op) b.k b.count in
    ⊎_elim
    (λ (e : nat_le b.count n ≡ true).
    let h = leb-true b.count n e in
    rw e (blocks-behind p (n - b.count) bs ∙ sym (drop_past n b.count (run_of (place_of b.op) b.k b.count) (blocks bs) l h)))
    (λ (e : nat_le b.count n ≡ false).
    let h = leb-false b.count n e in
    ⊎_elim
    (λ (z : eqb n 0 ≡ true). let g = eqb-true n 0 z in rw (e, z) (ap (λ m. drop m (run_of (place_of b.op) b.k b.count ++ blocks bs)) (sym g)))
    (λ (z : eqb n 0 ≡ false).
    rw (e, z) (sym (drop_within n (run_of (place_of b.op) b.k b.count) (blocks bs) (omega arith)
    ∙ ap (λ x. x ++ blocks bs) (drop-run (place_of b.op) b.k n b.count (omega arith)))))
    (cases_Bool (eqb n 0)))
    (cases_Bool (nat_le b.count n))

-- ---- runs of places over a list of blocks

-- the weight of what a run of places has
abbrev pub over_run : (BlockId → ℕ) → List BlockId → Run → ℕ
over_run w xs r = total w (take r.count (drop r.at xs))

total-with_place : (w : BlockId → ℕ) (xs : List BlockId) (at : ℕ) (d : BlockId) (rs : List Run) → at < length xs →
    total (over_run w xs) (with_place at rs) ≡ w (get_or xs at d) + total (over_run w xs) rs
total-with_place w xs at d [] h = let e = drop-cons xs at d h in rw e (omega arith)
total-with_place w xs at d (r ∷ rs) h =
    let e = drop-cons xs at d h in
    ⊎_elim
    (λ (z : eqb r.at (suc at) ≡ true). let g = eqb-true r.at (suc at) z in rw (z, e, g) (omega arith))
    (λ (z : eqb r.at (suc at) ≡ false). rw (z, e) (omega arith))
    (cases_Bool (eqb r.at (suc at)))

pub runs_and_settled : (w : BlockId → ℕ) (xs : List BlockId) (d : BlockId) (at : ℕ) (fs : List Fate) → length xs ≡ at + length fs →
    total (over_run w xs) (untouched_runs at fs) + total w (settled_of (drop at xs) fs) ≡ total w (drop at xs)
runs_and_settled w xs d at [] h = let e = drop_all at xs (omega arith) in rw e refl
runs_and_settled w xs d at (Good ∷ fs) h =
    let r = runs_and_settled w xs d (suc at) fs (omega arith) in
    let e = drop-cons xs at d (omega arith) in rw e (omega arith)
runs_and_settled w xs d at ((Bad why) ∷ fs) h =
    let r = runs_and_settled w xs d (suc at) fs (omega arith) in
    let e = drop-cons xs at d (omega arith) in rw e (omega arith)
runs_and_settled w xs d at (Untouched ∷ fs) h =
    let r = runs_and_settled w xs d (suc at) fs (omega arith) in
    let t = total-with_place w xs at d (untouched_runs (suc at) fs) (omega arith) in
    let e = drop-cons xs at d (omega arith) in rw e (omega arith)

-- ---- what goes back

total-map : {A B : Type 0} (f : B → ℕ) (h : A → B) (xs : List A) → total f (map h xs) ≡ total (λ x. f (h x)) xs
total-map f h [] = refl
total-map f h (x ∷ xs) = ap (λ n. f (h x) + n) (total-map f h xs)

abbrev rest : Plan → List Bio → Run → Group
rest p bs r = front p r.count (behind p r.at bs)

blocks-rest : (p : Plan) (bs : List Bio) (r : Run) → blocks (rest p bs r) ≡ take r.count (drop r.at (blocks bs))
blocks-rest p bs r = blocks-front p r.count (behind p r.at bs) ∙ ap (take r.count) (blocks-behind p r.at bs)

total-rests : (w : BlockId → ℕ) (p : Plan) (bs : List Bio) (fs : List Fate) → total (λ g. total w (blocks g)) (rests p bs fs) ≡ total (over_run w (blocks bs)) (untouched_runs 0 fs)
total-rests w p bs fs =
    total-map (λ g. total w (blocks g)) (rest p bs) (untouched_runs 0 fs)
    ∙ total-each (λ r. total w (blocks (rest p bs r))) (over_run w (blocks bs)) (untouched_runs 0 fs) (λ r. ap (total w) (blocks-rest p bs r))

-- a block of the command is settled or goes back
pub rests-times : (w : BlockId → ℕ) (p : Plan) (bs : List Bio) (fs : List Fate) → length fs ≡ size bs →
    total (λ g. total w (blocks g)) (rests p bs fs) + total w (settled_of (blocks bs) fs) ≡ total w (blocks bs)
rests-times w p bs fs h =
    let e = total-rests w p bs fs in
    let l = length-blocks bs in
    let r = runs_and_settled w (blocks bs) (record { op = 0; k = 0 }) 0 fs (omega arith) in
    omega arith

total-ones : {A : Type 0} (xs : List A) → total (λ x. 1) xs ≡ length xs
total-ones [] = refl
total-ones (x ∷ xs) = let e = total-ones xs in omega arith

pub length-settled : (xs : List BlockId) (fs : List Fate) → length fs ≡ length xs → length (settled_of xs fs) ≡ settled_count fs
length-settled [] [] h = refl
length-settled [] (f ∷ fs) h = absurd (omega arith)
length-settled (x ∷ xs) [] h = absurd (omega arith)
length-settled (x ∷ xs) (Good ∷ fs) h = let e = length-settled xs fs (omega arith) in omega arith
length-settled (x ∷ xs) ((Bad why) ∷ fs) h = let e = length-settled xs fs (omega arith) in omega arith
length-settled (x ∷ xs) (Untouched ∷ fs) h = let e = length-settled xs fs (omega arith) in omega arith

pub rests-size : (p : Plan) (bs : List Bio) (fs : List Fate) → length fs ≡ size bs → total size (rests p bs fs) + settled_count fs ≡ size bs
rests-size p bs fs h =
    let e = rests-times (λ b. 1) p bs fs h in
    let a = total-each size (λ g. total (λ b. 1) (blocks g)) (rests p bs fs) (λ g. sym (total-ones (blocks g) ∙ length-blocks g)) in
    let b = total-ones (settled_of (blocks bs) fs) in
    let c = total-ones (blocks bs) in
    let l = length-blocks bs in
    let d = length-settled (blocks bs) fs (omega arith) in
    omega arith

pub length-map : {A B : Type 0} (f : A → B) (xs : List A) → length (map f xs) ≡ length xs
length-map f [] = refl
length-map f (x ∷ xs) = ap suc (length-map f xs)

pub rests-length : (p : Plan) (bs : List Bio) (fs : List Fate) → length (rests p bs fs) ≡ length (untouched_runs 0 fs)
rests-length p bs fs = length-map (rest p bs) (untouched_runs 0 fs)

-- there is at most one run more than settled blocks
abbrev begins : ℕ → List Run → ℕ
begins at [] = 0
begins at (r ∷ rs) = if eqb r.at at then 1 else 0

begins-few : (at : ℕ) (rs : List Run) → begins at rs ≤ 1
begins-few at [] = omega arith
begins-few at (r ∷ rs) =
    ⊎_elim (λ (z : eqb r.at at ≡ true). rw z (omega arith)) (λ (z : eqb r.at at ≡ false). rw z (omega arith)) (cases_Bool (eqb r.at at))

length-with_place : (at : ℕ) (rs : List Run) → length (with_place at rs) + begins (suc at) rs ≡ length rs + 1
length-with_place at [] = refl
length-with_place at (r ∷ rs) =
    ⊎_elim (λ (z : eqb r.at (suc at) ≡ true). rw z (omega arith)) (λ (z : eqb r.at (suc at) ≡ false). rw z (omega arith)) (cases_Bool (eqb r.at (suc at)))

begins-with_place : (at : ℕ) (rs : List Run) → begins at (with_place at rs) ≡ 1
begins-with_place at [] = let e : eqb at at ≡ true = eq-eqb at at refl in rw e refl
begins-with_place at (r ∷ rs) =
    let e : eqb at at ≡ true = eq-eqb at at refl in
    ⊎_elim (λ (z : eqb r.at (suc at) ≡ true). rw (z, e) refl) (λ (z : eqb r.at (suc at) ≡ false). rw (z, e) refl) (cases_Bool (eqb r.at (suc at)))

runs_and_begin : (at : ℕ) (fs : List Fate) → length (untouched_runs at fs) + 1 ≤ settled_count fs + 1 + begins at (untouched_runs at fs)
runs_and_begin at [] = omega arith
runs_and_begin at (Good ∷ fs) =
    let e = runs_and_begin (suc at) fs in let b = begins-few (suc at) (untouched_runs (suc at) fs) in omega arith
runs_and_begin at ((Bad why) ∷ fs) =
    let e = runs_and_begin (suc at) fs in let b = begins-few (suc at) (untouched_runs (suc at) fs) in omega arith
runs_and_begin at (Untouched ∷ fs) =
    let e = runs_and_begin (suc at) fs in
    let l = length-with_place at (untouched_runs (suc at) fs) in
    let b = begins-with_place at (untouched_runs (suc at) fs) in
    omega arith

pub runs_few : (fs : List Fate) → length (untouched_runs 0 fs) ≤ settled_count fs + 1
runs_few fs = let e = runs_and_begin 0 fs in let b = begins-few 0 (untouched_runs 0 fs) in omega arith

-- each group that goes back has blocks
record Within (n : ℕ) (r : Run) : Type 0 where
  pub some : 0 < r.count
  pub starts : r.at < n

within-with_place : (n at : ℕ) (rs : List Run) → at < n → All (Within n) rs → All (Within n) (with_place at rs)
within-with_place n at [] h a = All-cons (Within n) _ [] (record { some = omega arith; starts = h }) a
within-with_place n at (r ∷ rs) h a =
    ⊎_elim
    (λ (z : eqb r.at (suc at) ≡ true). rw z (All-cons (Within n) _ rs (record { some = omega arith; starts = h }) (All-tail (Within n) r rs a)))
    (λ (z : eqb r.at (suc at) ≡ false). rw z (All-cons (Within n) _ (r ∷ rs) (record { some = omega arith; starts = h }) a))
    (cases_Bool (eqb r.at (suc at)))

within-runs : (n at : ℕ) (fs : List Fate) → at + length fs ≡ n → All (Within n) (untouched_runs at fs)
within-runs n at [] h = All-nil (Within n)
within-runs n at (Good ∷ fs) h = within-runs n (suc at) fs (omega arith)
within-runs n at ((Bad why) ∷ fs) h = within-runs n (suc at) fs (omega arith)
within-runs n at (Untouched ∷ fs) h = within-with_place n at (untouched_runs (suc at) fs) (omega arith) (within-runs n (suc at) fs (omega arith))

rest-has : (p : Plan) (bs : List Bio) (r : Run) → Within (size bs) r → HasBlocks (rest p bs r)
rest-has p bs r w =
    let a = length-blocks (rest p bs r) in
    let b = ap length (blocks-rest p bs r) in
    let c = length-take r.count (drop r.at (blocks bs)) in
    let d = length-drop r.at (blocks bs) in
    let e = length-blocks bs in
    let f = w.some in
    let g = w.starts in
    omega arith

pub rests-have : (p : Plan) (bs : List Bio) (fs : List Fate) → length fs ≡ size bs → All HasBlocks (rests p bs fs)
rests-have p bs fs h = All-map HasBlocks (rest p bs) (untouched_runs 0 fs) (All-weaker (Within (size bs)) (λ r. HasBlocks (rest p bs r)) (λ r w. rest-has p bs r w) (untouched_runs 0 fs) (within-runs (size bs) 0 fs (omega arith)))
