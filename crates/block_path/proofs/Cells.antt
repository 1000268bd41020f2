-- Reading and setting cells that lie apart.
use Rattle.std.proofs.Common.{◌≡◌, ◌<◌, ◌≤◌, ℕ, suc, Bool, false, true, eqb, ◌||◌, List, [], ◌∷◌, ◌++◌, length, drop, get_or, set, refl, sym, ap, ◌∙◌, arith}
use Rattle.std.specs.Prelude.{nat_eq}
use Rattle.std.specs.List.{All, AllByRecursion, IsDistinct}
use Rattle.std.proofs.lemmas.List.{get_or-set_other, get_or-set_same, set_comm, set-set, length-set}
use Rattle.std.proofs.lemmas.Bool.{eqb-false, eq-eqb, eqb-true, or_from, or_parts, or_right}
use Rattle.range_gate.specs.Passed.{gather, scatter, is_in, share_a_cell}
use Rattle.range_gate.specs.Cells.{Cells, cells_clash}

pub get_past : {X : Type 0} (i : ℕ) (none : X) (at : List ℕ) (values cells : List X) → is_in i at ≡ false → get_or (scatter at values cells) i none ≡ get_or cells i none
get_past i none [] values cells h = refl
get_past i none (j ∷ at) [] cells h = refl
get_past i none (j ∷ at) (v ∷ values) cells h =
    let k = or_parts (eqb i j) (is_in i at) h in
    get_past i none at values (set cells j v) k.1 ∙ get_or-set_other cells j i v none (eqb-false i j k.0)

pub gather_past : {X : Type 0} (none : X) (from at : List ℕ) (values cells : List X) → share_a_cell from at ≡ false → gather none from (scatter at values cells) ≡ gather none from cells
gather_past none [] at values cells h = refl
gather_past none (i ∷ from) at values cells h =
    let k = or_parts (is_in i at) (share_a_cell from at) h in
    let first = get_past i none at values cells k.0 in
    let rest = gather_past none from at values cells k.1 in
    cc

set_past : {X : Type 0} (i : ℕ) (u : X) (at : List ℕ) (values cells : List X) → is_in i at ≡ false → set (scatter at values cells) i u ≡ scatter at values (set cells i u)
set_past i u [] values cells h = refl
set_past i u (j ∷ at) [] cells h = refl
set_past i u (j ∷ at) (v ∷ values) cells h =
    let k = or_parts (eqb i j) (is_in i at) h in
    set_past i u at values (set cells j v) k.1 ∙ ap (scatter at values) (sym (set_comm cells i j u v (eqb-false i j k.0)))

pub scatter_past : {X : Type 0} (to at : List ℕ) (us values cells : List X) → share_a_cell to at ≡ false → scatter to us (scatter at values cells) ≡ scatter at values (scatter to us cells)
scatter_past [] at us values cells h = refl
scatter_past (i ∷ to) at [] values cells h = refl
scatter_past (i ∷ to) at (u ∷ us) values cells h =
    let k = or_parts (is_in i at) (share_a_cell to at) h in
    ap (scatter to us) (set_past i u at values cells k.0) ∙ scatter_past to at us values (set cells i u) k.1

-- what the cells of two acts that don't clash don't share
pub record Apart (f g : Cells) : Type 0 where
  pub one : share_a_cell f.reads g.writes ≡ false
  pub other : share_a_cell g.reads f.writes ≡ false
  pub writes : share_a_cell f.writes g.writes ≡ false

pub no_clash : (f g : Cells) → cells_clash f g ≡ false → Apart f g
no_clash f g h =
    let p = or_parts (share_a_cell f.reads g.writes) (share_a_cell g.reads f.writes || share_a_cell f.writes g.writes) h in
    let q = or_parts (share_a_cell g.reads f.writes) (share_a_cell f.writes g.writes) p.1 in
    record { one = p.0; other = q.0; writes = q.1 }

no_true : (p : Bool) → (p ≡ true → false ≡ true) → p ≡ false
no_true false h = refl
no_true true h = sym (h refl)

pub head_or_tail : (c q r : Bool) → (c ≡ true → r ≡ false) → (q ≡ true → r ≡ false) → (c || q) ≡ true → r ≡ false
head_or_tail true q r h k e = h refl
head_or_tail false q r h k e = k e

-- what is in one isn't in the other
pub apart_at : (xs ys : List ℕ) (i : ℕ) → share_a_cell xs ys ≡ false → is_in i xs ≡ true → is_in i ys ≡ false
apart_at [] ys i h k = grind (arith, k)
apart_at (x ∷ xs) ys i h k =
    let p = or_parts (is_in x ys) (share_a_cell xs ys) h in
    head_or_tail (eqb i x) (is_in i xs) (is_in i ys) (λ e. rw (eqb-true i x e) p.0) (apart_at xs ys i p.1) k

pub in_head : (x : ℕ) (xs : List ℕ) → is_in x (x ∷ xs) ≡ true
in_head x xs = let e : eqb x x ≡ true = eq-eqb x x refl in rw e refl

pub share_by : (xs ys : List ℕ) → ((i : ℕ) → is_in i xs ≡ true → is_in i ys ≡ false) → share_a_cell xs ys ≡ false
share_by [] ys h = refl
share_by (x ∷ xs) ys h = or_from (is_in x ys) (share_a_cell xs ys) (h x (in_head x xs)) (share_by xs ys (λ i e. h i (or_right (eqb i x) (is_in i xs) e)))

pub share_back : (xs ys : List ℕ) → share_a_cell xs ys ≡ false → share_a_cell ys xs ≡ false
share_back xs ys h = share_by ys xs (λ i e. no_true (is_in i xs) (λ k. sym (apart_at xs ys i h k) ∙ e))

pub clash_back : (f g : Cells) → cells_clash f g ≡ false → cells_clash g f ≡ false
clash_back f g h =
    let k = no_clash f g h in
    or_from (share_a_cell g.reads f.writes) (share_a_cell f.reads g.writes || share_a_cell g.writes f.writes) k.other
    (or_from (share_a_cell f.reads g.writes) (share_a_cell g.writes f.writes) k.one (share_back f.writes g.writes k.writes))

-- no value, no write
pub scatter_none : {X : Type 0} (at : List ℕ) (cells : List X) → scatter at [] cells ≡ cells
scatter_none [] cells = refl
scatter_none (i ∷ at) cells = refl

pub gather_length : {X : Type 0} (none : X) (at : List ℕ) (cells : List X) → length (gather none at cells) ≡ length at
gather_length none [] cells = refl
gather_length none (i ∷ at) cells = ap suc (gather_length none at cells)

pub gather_append : {X : Type 0} (none : X) (xs ys : List ℕ) (cells : List X) → gather none (xs ++ ys) cells ≡ gather none xs cells ++ gather none ys cells
gather_append none [] ys cells = refl
gather_append none (x ∷ xs) ys cells = ap (λ rest. get_or cells x none ∷ rest) (gather_append none xs ys cells)

pub scatter_append : {X : Type 0} (xs ys : List ℕ) (vs cells : List X) → scatter (xs ++ ys) vs cells ≡ scatter ys (drop (length xs) vs) (scatter xs vs cells)
scatter_append [] ys vs cells = refl
scatter_append (x ∷ xs) ys [] cells = sym (scatter_none ys cells)
scatter_append (x ∷ xs) ys (v ∷ vs) cells = scatter_append xs ys vs (set cells x v)

-- no cell is there twice, by what is in the rest
abbrev pub Distinct : List ℕ → Type 0
Distinct [] = Unit {0}
Distinct (i ∷ is) = (is_in i is ≡ false) × Distinct is

not_in : (i : ℕ) (is : List ℕ) → AllByRecursion (λ j. nat_eq i j ≡ false) is → is_in i is ≡ false
not_in i [] h = refl
not_in i (j ∷ is) h = or_from (eqb i j) (is_in i is) h.0 (not_in i is h.1)

pub distinct : (is : List ℕ) → IsDistinct nat_eq is → Distinct is
unfolding IsDistinct
distinct [] h = tt
distinct (i ∷ is) h = (not_in i is h.0, distinct is h.1)

-- each is below the end, one after another
abbrev pub AllBelow : ℕ → List ℕ → Type 0
AllBelow n [] = Unit {0}
AllBelow n (i ∷ is) = (i < n) × AllBelow n is

pub below : (n : ℕ) (is : List ℕ) → All (λ i. i < n) is → AllBelow n is
below n [] h = tt
below n (i ∷ is) h = (h 0 0 (omega arith), below n is (λ k d l. h (suc k) d (omega arith)))

-- the later values count
pub scatter_twice : {X : Type 0} (at : List ℕ) (us vs cells : List X) → Distinct at → length us ≤ length vs → scatter at vs (scatter at us cells) ≡ scatter at vs cells
scatter_twice [] us vs cells d l = refl
scatter_twice (i ∷ at) [] vs cells d l = refl
scatter_twice (i ∷ at) (u ∷ us) [] cells d l = absurd (omega (arith, l))
scatter_twice (i ∷ at) (u ∷ us) (v ∷ vs) cells d l =
    ap (scatter at vs) (set_past i v at us (set cells i u) d.0 ∙ ap (scatter at us) (set-set cells i u v))
    ∙ scatter_twice at us vs (set cells i v) d.1 (omega (arith, l))

below_set : (at cells : List ℕ) (i v : ℕ) → AllBelow (length cells) at → AllBelow (length (set cells i v)) at
below_set at cells i v h = rw (length-set cells i v) h

-- what was written is what is read
pub gather_back : (at values cells : List ℕ) → Distinct at → AllBelow (length cells) at → length values ≡ length at → gather 0 at (scatter at values cells) ≡ values
gather_back [] [] cells d b l = refl
gather_back [] (v ∷ values) cells d b l = absurd (omega (arith, l))
gather_back (i ∷ at) [] cells d b l = absurd (omega (arith, l))
gather_back (i ∷ at) (v ∷ values) cells d b l =
    let first : get_or (scatter at values (set cells i v)) i 0 ≡ v = get_past i 0 at values (set cells i v) d.0 ∙ get_or-set_same cells i v 0 b.0 in
    let rest = gather_back at values (set cells i v) d.1 (below_set at cells i v b.1) (omega (arith, l)) in
    cc
