-- What settling a command's blocks leaves of the counts.
use Rattle.std.proofs.Common.{◌≡◌, ◌<◌, ◌≤◌, ℕ, zero, suc, ◌+◌, ◌-◌, List, [], ◌∷◌, ◌++◌, length, map, take, drop, get_or, set, refl, sym, ap, ◌∙◌, arith, length-drop}
use Rattle.std.specs.Prelude.{if◌then◌else◌}
use Rattle.std.specs.List.{All}
use Rattle.std.proofs.lemmas.List.{length-set, get_or-set_same, map-set, length-take, length-map, get_or-map}
use Rattle.std.proofs.lemmas.List.Elements.{All-head, All-tail}
use Rattle.bio_core.specs.declared.bio.Bio.{Bio}
use Rattle.bio_core.specs.declared.fate.Fate.{Fate}
use Rattle.bio_core.specs.declared.fate.Fate.TheVariants.{Good, Bad, Untouched}
use Rattle.stack_laws.specs.Blocks.{BlockId, place_of, run_of, blocks, times, is_block, is_settled, settled_of, settled_count}
use Rattle.merge_queue.specs.Groups.{size}
use Rattle.stack_laws.specs.View.{OpView, no_op}
use Rattle.stack_laws.specs.Steps.{settle}
use Rattle.stack_laws.specs.Sound.{is_marked}
use Rattle.merge_queue.proofs.Lists.{total-append}
use Rattle.stack_laws.proofs.Counts.{length-run_of}
use Rattle.stack_laws.proofs.Ops.{room, after_block, mark, this-block, marks-block, room-grows, grows-block, grows-settle, room-there, not-marked, unmarked-set, marks-settle, length-settle}
use Rattle.stack_steps.specs.declared.state.OpState.{OpState}
use Rattle.stack_steps.specs.State.{state_of, no_state, OpIsIn, lowered, settle_bios}

pub settled-more : (k from : ℕ) (fs : List Fate) (d : Fate) → from + k < length fs →
    settled_count (take (k + 1) (drop from fs)) ≡ settled_count (take k (drop from fs)) + (if is_settled (get_or fs (from + k) d) then 1 else 0)
settled-more k zero [] d h = absurd (omega arith)
settled-more zero zero (f ∷ fs) d h = omega arith
settled-more (suc k) zero (f ∷ fs) d h =
    let e = settled-more k zero fs d (omega arith) in
    let a : suc k + 1 ≡ suc (k + 1) = omega arith in
    let b : 0 + suc k ≡ suc k = omega arith in
    let c : 0 + k ≡ k = omega arith in
    let g = rw c at e in
    rw (a, b) (omega arith)
settled-more k (suc from) [] d h = absurd (omega arith)
settled-more k (suc from) (f ∷ fs) d h =
    let a : suc from + k ≡ suc (from + k) = omega arith in
    rw a (settled-more k from fs d (omega arith))

set_own : {A : Type 0} (xs : List A) (i : ℕ) (d : A) → i < length xs → set xs i (get_or xs i d) ≡ xs
set_own [] i d h = refl
set_own (x ∷ xs) zero d h = refl
set_own (x ∷ xs) (suc i) d h = ap (λ l. x ∷ l) (set_own xs i d (omega arith))

set_twice : {A : Type 0} (xs : List A) (i : ℕ) (a b : A) → set (set xs i a) i b ≡ set xs i b
set_twice [] i a b = refl
set_twice (x ∷ xs) zero a b = refl
set_twice (x ∷ xs) (suc i) a b = ap (λ l. x ∷ l) (set_twice xs i a b)

none-lowered : (M : List OpState) (i : ℕ) → i < length M → set M i (lowered M i 0) ≡ M
none-lowered M i h =
    let e : (get_or M i no_state).left - 0 ≡ (get_or M i no_state).left = omega arith in
    ap (λ n. set M i (record (get_or M i no_state) { left = n })) e ∙ set_own M i no_state h

lowered-twice : (M : List OpState) (i a b : ℕ) → i < length M → set (set M i (lowered M i a)) i (lowered (set M i (lowered M i a)) i b) ≡ set M i (lowered M i (a + b))
lowered-twice M i a b h =
    let g = get_or-set_same M i (lowered M i a) no_state h in
    let e : ((get_or M i no_state).left - a) - b ≡ (get_or M i no_state).left - (a + b) = omega arith in
    set_twice M i (lowered M i a) (lowered (set M i (lowered M i a)) i b)
    ∙ ap (λ (s : OpState). set M i (record s { left = s.left - b })) g
    ∙ ap (λ n. set M i (record (get_or M i no_state) { left = n })) e

abbrev pub Roomy : List OpView → List BlockId → Type 0
Roomy ops bs = (i k : ℕ) → is_marked (get_or ops i no_op) k + times i k bs ≤ room (get_or ops i no_op) k

roomy-here : (ops : List OpView) (b : BlockId) (bs : List BlockId) → Roomy ops (b ∷ bs) → is_marked (get_or ops b.op no_op) b.k + 1 ≤ room (get_or ops b.op no_op) b.k
roomy-here ops b bs h = let t = h b.op b.k in let u = this-block b.op b.k b refl refl in omega arith

roomy-more : (ops : List OpView) (b : BlockId) (bs : List BlockId) → Roomy ops (b ∷ bs) → Roomy (after_block ops b) bs
roomy-more ops b bs h i k =
    let here = roomy-here ops b bs h in
    let t = h i k in
    let m = marks-block ops b i k here in
    let g = room-grows (get_or ops i no_op) (get_or (after_block ops b) i no_op) k (grows-block ops b i) in omega arith

-- one block is settled
one-lower : (ops : List OpView) (b : BlockId) → b.op < length ops → (is_marked (get_or ops b.op no_op) b.k + 1 ≤ room (get_or ops b.op no_op) b.k) →
    map state_of (after_block ops b) ≡ set (map state_of ops) b.op (lowered (map state_of ops) b.op 1)
one-lower ops b l h =
    let r = room-there (get_or ops b.op no_op) b.k (omega arith) in
    let u = r.1 in
    let n = not-marked (get_or ops b.op no_op) b.k (omega arith) in
    let s = unmarked-set (get_or ops b.op no_op).settled b.k r.0 n in
    let g = get_or-map state_of ops b.op no_op no_state l in
    let e : (state_of (mark (get_or ops b.op no_op) b.k)).left ≡ (state_of (get_or ops b.op no_op)).left - 1 = omega arith in
    map-set state_of ops b.op (mark (get_or ops b.op no_op) b.k)
    ∙ ap (λ n. set (map state_of ops) b.op (record (state_of (get_or ops b.op no_op)) { left = n })) e
    ∙ ap (λ (s : OpState). set (map state_of ops) b.op (record s { left = s.left - 1 })) (sym g)

one-more : (i k n : ℕ) (fs : List Fate) (ops : List OpView) → i < length ops → Roomy ops (record { op = i; k = k } ∷ settled_of (run_of i (suc k) n) fs) →
    map state_of (settle (settled_of (run_of i (suc k) n) fs) (after_block ops (record { op = i; k = k })))
    ≡ set (map state_of (after_block ops (record { op = i; k = k }))) i (lowered (map state_of (after_block ops (record { op = i; k = k }))) i (settled_count fs)) →
    map state_of (settle (settled_of (run_of i (suc k) n) fs) (after_block ops (record { op = i; k = k }))) ≡ set (map state_of ops) i (lowered (map state_of ops) i (1 + settled_count fs))
one-more i k n fs ops l h r =
    let o = one-lower ops (record { op = i; k = k }) l (roomy-here ops (record { op = i; k = k }) (settled_of (run_of i (suc k) n) fs) h) in
    r ∙ ap (λ (M : List OpState). set M i (lowered M i (settled_count fs))) o
    ∙ lowered-twice (map state_of ops) i 1 (settled_count fs) (omega (arith, length-map ops state_of))

run-lowers : (i k n : ℕ) (fs : List Fate) (ops : List OpView) → length fs ≡ n → i < length ops → Roomy ops (settled_of (run_of i k n) fs) →
    map state_of (settle (settled_of (run_of i k n) fs) ops) ≡ set (map state_of ops) i (lowered (map state_of ops) i (settled_count fs))
run-lowers i k zero [] ops e l h = sym (none-lowered (map state_of ops) i (omega (arith, length-map ops state_of)))
run-lowers i k zero (f ∷ fs) ops e l h = absurd (omega arith)
run-lowers i k (suc n) [] ops e l h = absurd (omega arith)
run-lowers i k (suc n) (Good ∷ fs) ops e l h = one-more i k n fs ops l h (run-lowers i (suc k) n fs (after_block ops (record { op = i; k = k })) (omega arith) (omega (arith, length-set ops i (mark (get_or ops i no_op) k))) (roomy-more ops (record { op = i; k = k }) (settled_of (run_of i (suc k) n) fs) h))
run-lowers i k (suc n) ((Bad why) ∷ fs) ops e l h = one-more i k n fs ops l h (run-lowers i (suc k) n fs (after_block ops (record { op = i; k = k })) (omega arith) (omega (arith, length-set ops i (mark (get_or ops i no_op) k))) (roomy-more ops (record { op = i; k = k }) (settled_of (run_of i (suc k) n) fs) h))
run-lowers i k (suc n) (Untouched ∷ fs) ops e l h = let z : 0 + settled_count fs ≡ settled_count fs = omega arith in rw z (run-lowers i (suc k) n fs ops (omega arith) l h)

settle-append : (xs ys : List BlockId) (ops : List OpView) → settle (xs ++ ys) ops ≡ settle ys (settle xs ops)
settle-append [] ys ops = refl
settle-append (x ∷ xs) ys ops = settle-append xs ys (after_block ops x)

settled-append : (n : ℕ) (xs ys : List BlockId) (fs : List Fate) → length xs ≡ n → settled_of (xs ++ ys) fs ≡ settled_of xs (take n fs) ++ settled_of ys (drop n fs)
settled-append zero [] ys fs e = refl
settled-append (suc n) [] ys fs e = absurd (omega arith)
settled-append zero (x ∷ xs) ys fs e = absurd (omega arith)
settled-append (suc n) (x ∷ xs) [] [] e = refl
settled-append (suc n) (x ∷ xs) (y ∷ ys) [] e = refl
settled-append (suc n) (x ∷ xs) ys (Good ∷ fs) e = ap (λ l. x ∷ l) (settled-append n xs ys fs (omega arith))
settled-append (suc n) (x ∷ xs) ys ((Bad why) ∷ fs) e = ap (λ l. x ∷ l) (settled-append n xs ys fs (omega arith))
settled-append (suc n) (x ∷ xs) ys (Untouched ∷ fs) e = settled-append n xs ys fs (omega arith)

roomy-front : (ops : List OpView) (xs ys : List BlockId) → Roomy ops (xs ++ ys) → Roomy ops xs
roomy-front ops xs ys h i k = let t = h i k in let a = total-append (is_block i k) xs ys in omega arith

roomy-back : (ops : List OpView) (xs ys : List BlockId) → Roomy ops (xs ++ ys) → Roomy (settle xs ops) ys
roomy-back ops xs ys h i k =
    let t = h i k in
    let a = total-append (is_block i k) xs ys in
    let m = marks-settle xs ops (roomy-front ops xs ys h) i k in
    let g = room-grows (get_or ops i no_op) (get_or (settle xs ops) i no_op) k (grows-settle xs ops i) in omega arith

pub settles : (bs : List Bio) (fs : List Fate) (ops : List OpView) → length fs ≡ size bs → All (OpIsIn (length ops)) bs → Roomy ops (settled_of (blocks bs) fs) →
    map state_of (settle (settled_of (blocks bs) fs) ops) ≡ settle_bios bs fs (map state_of ops)
settles [] fs ops e a h = refl
settles (b ∷ bs) fs ops e a h =
    let s = settled-append b.count (run_of (place_of b.op) b.k b.count) (blocks bs) fs (length-run_of (place_of b.op) b.k b.count) in
    let y : Roomy ops (settled_of (run_of (place_of b.op) b.k b.count) (take b.count fs) ++ settled_of (blocks bs) (drop b.count fs)) = rw s at h in
    let t = length-take b.count fs in
    let u = length-drop b.count fs in
    let l = length-settle (settled_of (run_of (place_of b.op) b.k b.count) (take b.count fs)) ops in
    let a₀ = All-tail (OpIsIn (length ops)) b bs a in
    let first = run-lowers (place_of b.op) b.k b.count (take b.count fs) ops (omega arith) (All-head (OpIsIn (length ops)) b bs a) (roomy-front ops (settled_of (run_of (place_of b.op) b.k b.count) (take b.count fs)) (settled_of (blocks bs) (drop b.count fs)) y) in
    let next = settles bs (drop b.count fs) (settle (settled_of (run_of (place_of b.op) b.k b.count) (take b.count fs)) ops) (omega arith) (rw l a₀) (roomy-back ops (settled_of (run_of (place_of b.op) b.k b.count) (take b.count fs)) (settled_of (blocks bs) (drop b.count fs)) y) in
    ap (λ z. map state_of (settle z ops)) s
    ∙ ap (map state_of) (settle-append (settled_of (run_of (place_of b.op) b.k b.count) (take b.count fs)) (settled_of (blocks bs) (drop b.count fs)) ops)
    ∙ next
    ∙ ap (settle_bios bs (drop b.count fs)) first
