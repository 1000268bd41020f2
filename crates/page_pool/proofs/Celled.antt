-- Pages as one row of cells: a byte of a page is the cell at its place.
use Rattle.std.proofs.Common.{◌≡◌, ℕ, zero, suc, ◌+◌, ◌*◌, ◌<◌, List, [], ◌∷◌, ◌++◌, length, map, get_or, refl, sym, ap, ◌∙◌, subst, ◌⊎◌, inl, inr, ◌%◌, ◌/◌, set, eqb, false, arith}
use Rattle.std.proofs.lemmas.List.{same_lists, get_or_default, get_or-set_same, get_or-set_other, length-set, length-append, get_or_append_left}
use Rattle.std.proofs.lemmas.Bool.Decides.{eqb_tells}
use Rattle.std.specs.List.{All, AllByRecursion, IsDistinct}
use Rattle.page_pool.specs.Places.{PageByte, IsAmong, NoneTwice, Apart}
use Rattle.page_pool.specs.Walking.{AllStandIn}
use Rattle.page_pool.specs.Pages.{page_of, byte_at, bytes_at, AreWhole, OthersStay, Wrote}
use Rattle.page_pool.specs.Cells.{flat, cell, gather, scatter, is_in, share_a_cell}

-- where no byte changed, the pool is as before
pub same-pool : (old new : List (List ℕ)) → OthersStay old new [] → new ≡ old
same-pool old new h = same_lists new old h.pages
    (λ k d l. let m : k < length old = omega (arith, h.pages) in
    get_or_default new k d [] l ∙ (same_lists (page_of new k) (page_of old k) (h.sizes k) (λ i e o. let q : i < length (page_of old k) = omega (arith, h.sizes k) in get_or_default (page_of new k) i e 0 o ∙ (h.others (record { page = k; off = i }) (λ n. n) ∙ get_or_default (page_of old k) i 0 e q)) ∙ get_or_default old k [] d m))

pub whole-rest : (q : List ℕ) (qs : List (List ℕ)) → AreWhole (q ∷ qs) → AreWhole qs
whole-rest q qs h = record { size = λ n l. h.size (suc n) (omega arith) }

get_or-behind : (a b : List ℕ) (i : ℕ) → get_or (a ++ b) (length a + i) 0 ≡ get_or b i 0
get_or-behind [] b i = ap (λ n. get_or b n 0) (let e : 0 + i ≡ i = omega arith in e)
get_or-behind (x ∷ a) b i = ap (λ n. get_or (x ∷ (a ++ b)) n 0) (let e : suc (length a) + i ≡ suc (length a + i) = omega arith in e) ∙ get_or-behind a b i

-- what a cell holds
pub cell-holds : (pool : List (List ℕ)) (page off : ℕ) → AreWhole pool → page < length pool → off < 4096 → get_or (flat pool) (4096 * page + off) 0 ≡ get_or (page_of pool page) off 0
cell-holds [] page off h l m = absurd (omega arith)
cell-holds (q ∷ qs) zero off h l m =
    let z = h.size 0 (omega arith) in
    let k : off < length q = omega arith in
    let e : 4096 * 0 + off ≡ off = omega arith in
    ap (λ n. get_or (q ++ flat qs) n 0) e ∙ get_or_append_left q (flat qs) 0 off k
cell-holds (q ∷ qs) (suc n) off h l m =
    let z : length q ≡ 4096 = h.size 0 (omega arith) in
    let e : 4096 * suc n + off ≡ length q + (4096 * n + off) = omega arith in
    ap (λ v. get_or (q ++ flat qs) v 0) e ∙ (get_or-behind q (flat qs) (4096 * n + off) ∙ cell-holds qs n off (whole-rest q qs h) (omega arith) m)

pub read-cells : (pool : List (List ℕ)) (ps : List PageByte) → AreWhole pool → AllStandIn (length pool) ps → bytes_at pool ps ≡ gather 0 (map cell ps) (flat pool)
read-cells pool [] h k = refl
read-cells pool (p ∷ ps) h k =
    ap (λ b. b ∷ bytes_at pool ps) (sym (cell-holds pool p.page p.off h k.0.in_pool k.0.in_page)) ∙ ap (λ l. get_or (flat pool) (cell p) 0 ∷ l) (read-cells pool ps h k.1)

-- the cell of one of these places
abbrev pub InCells : ℕ → List PageByte → Type 0
InCells i [] = ⊥
InCells i (p ∷ ps) = (i ≡ cell p) ⊎ InCells i ps

-- the cells of these places hold the pool's bytes
abbrev pub Shown : List ℕ → List (List ℕ) → List PageByte → Type 0
Shown target new [] = Unit {0}
Shown target new (p ∷ ps) = (cell p < length target) × (get_or target (cell p) 0 ≡ byte_at new p) × Shown target new ps

filled : (target cells : List ℕ) (c v i : ℕ) (R : Type 0) → c < length cells → get_or target c 0 ≡ v → (get_or cells i 0 ≡ get_or target i 0) ⊎ ((i ≡ c) ⊎ R) → (get_or (set cells c v) i 0 ≡ get_or target i 0) ⊎ R
filled target cells c v i R l e h = elim (eqb_tells i c) [
  | inl same ↦ inl (ap (λ n. get_or (set cells c v) n 0) same.1 ∙ (get_or-set_same cells c v 0 l ∙ (sym e ∙ ap (λ n. get_or target n 0) (sym same.1))))
  | inr other ↦ elim h [
    | inl k ↦ inl (get_or-set_other cells c i v 0 other.1 ∙ k)
    | inr k ↦ elim k [ inl s ↦ absurd (other.1 s) | inr r ↦ inr r ]
  ]
]

-- cells that differ from others only at these places are those, once these bytes are set
pub fills : (target : List ℕ) (new : List (List ℕ)) (ps : List PageByte) (cells : List ℕ) → length cells ≡ length target → Shown target new ps → ((i : ℕ) → i < length cells → (get_or cells i 0 ≡ get_or target i 0) ⊎ InCells i ps) →
    scatter (map cell ps) (map (byte_at new) ps) cells ≡ target
fills target new [] cells l s h = same_lists cells target l (λ k d o. let q : k < length target = omega (arith, l) in
    get_or_default cells k d 0 o ∙ (elim (h k o) [ inl e ↦ e | inr n ↦ absurd n ] ∙ get_or_default target k 0 d q))
fills target new (p ∷ ps) cells l s h =
    let c : cell p < length cells = (let a = s.0 in omega (arith, l)) in
    let m = length-set cells (cell p) (byte_at new p) in
    fills target new ps (set cells (cell p) (byte_at new p)) (m ∙ l) s.2
    (λ i o. filled target cells (cell p) (byte_at new p) i (InCells i ps) c s.1 (h i (omega (arith, m))))

pub length-flat : (pool : List (List ℕ)) → AreWhole pool → length (flat pool) ≡ 4096 * length pool
length-flat [] h = refl
length-flat (q ∷ qs) h =
    let z : length q ≡ 4096 = h.size 0 (omega arith) in
    let r = length-flat qs (whole-rest q qs h) in
    length-append q (flat qs) ∙ omega arith

one_of : (q p : PageByte) → (p ≡ q) ⊎ ¬ (p ≡ q)
one_of q p = elim (eqb_tells p.page q.page) [
  | inr n ↦ inr (λ e. n.1 (ap (λ (v : PageByte). v.page) e))
  | inl s ↦ elim (eqb_tells p.off q.off) [
    | inr n ↦ inr (λ e. n.1 (ap (λ (v : PageByte). v.off) e))
    | inl t ↦ inl (ap (λ n. record { page = n; off = p.off }) s.1 ∙ ap (λ n. record { page = q.page; off = n }) t.1)
  ]
]

pub among_or : (ps : List PageByte) (p : PageByte) → InCells (cell p) ps ⊎ ¬ IsAmong ps p
among_or [] p = inr (λ n. n)
among_or (q ∷ qs) p = elim (one_of q p) [
  | inl e ↦ inl (inl (ap cell e))
  | inr n ↦ elim (among_or qs p) [
    | inl k ↦ inl (inr k)
    | inr k ↦ inr (λ m. elim m [ inl e ↦ n e | inr o ↦ k o ])
  ]
]

shown : (new : List (List ℕ)) (ps : List PageByte) → AreWhole new → AllStandIn (length new) ps → Shown (flat new) new ps
shown new [] h k = tt
shown new (p ∷ ps) h k =
    let a = k.0.in_pool in let b = k.0.in_page in
    let l = length-flat new h in
    (omega arith, cell-holds new p.page p.off h a b, shown new ps h k.1)

pub whole_stays : (old new : List (List ℕ)) (ps : List PageByte) → OthersStay old new ps → AreWhole old → AreWhole new
whole_stays old new ps o h = record { size = λ n l. o.sizes n ∙ h.size n (let e = o.pages in omega arith) }

at_cell : (old new : List (List ℕ)) (ps : List PageByte) (page off i : ℕ) → AreWhole old → AreWhole new → OthersStay old new ps → length new ≡ length old → page < length old → off < 4096 → i ≡ 4096 * page + off →
    (get_or (flat old) i 0 ≡ get_or (flat new) i 0) ⊎ InCells i ps
at_cell old new ps page off i h k o n l m e = elim (among_or ps (record { page = page; off = off })) [
  | inl c ↦ inr (subst (λ v. InCells v ps) (sym e) c)
  | inr c ↦ inl (ap (λ v. get_or (flat old) v 0) e ∙ (cell-holds old page off h l m ∙ (sym (o.others (record { page = page; off = off }) c) ∙ (sym (cell-holds new page off k (omega arith) m) ∙ ap (λ v. get_or (flat new) v 0) (sym e)))))
]

pub wrote-cells : (old new : List (List ℕ)) (ps : List PageByte) (bytes : List ℕ) → AreWhole old → AllStandIn (length old) ps → Wrote old new ps bytes → flat new ≡ scatter (map cell ps) bytes (flat old)
wrote-cells old new ps bytes h k w =
    let n = w.others.pages in
    let hn = whole_stays old new ps w.others h in
    let lo = length-flat old h in
    let ln = length-flat new hn in
    let st = subst (λ v. AllStandIn v ps) (sym n) k in
    sym (ap (λ b. scatter (map cell ps) b (flat old)) (sym w.written)
    ∙ fills (flat new) new ps (flat old) (lo ∙ (ap (λ v. 4096 * v) (sym n) ∙ sym ln)) (shown new ps hn st)
    (λ i o. at_cell old new ps (i / 4096) (i % 4096) i h hn w.others n (omega arith) (omega arith) (omega arith)))

-- cells of several places

pub below-cells : (pages : ℕ) (ps : List PageByte) → AllStandIn pages ps → All (λ i. i < 4096 * pages) (map cell ps)
below-cells pages [] h k d l = absurd (omega arith)
below-cells pages (p ∷ ps) h zero d l = let a = h.0.in_pool in let b = h.0.in_page in omega arith
below-cells pages (p ∷ ps) h (suc k) d l = below-cells pages ps h.1 k d (omega arith)

pub same_cell : (p q : PageByte) → p.off < 4096 → q.off < 4096 → cell p ≡ cell q → p ≡ q
same_cell p q h k e =
    let a : p.page ≡ q.page = omega arith in
    let b : p.off ≡ q.off = omega arith in
    ap (λ n. record { page = n; off = p.off }) a ∙ ap (λ n. record { page = q.page; off = n }) b

other_cell : (p q : PageByte) → p.off < 4096 → q.off < 4096 → ¬ (p ≡ q) → eqb (cell p) (cell q) ≡ false
other_cell p q h k n = elim (eqb_tells (cell p) (cell q)) [ inl e ↦ absurd (n (same_cell p q h k e.1)) | inr e ↦ e.0 ]

other_cells : (pages : ℕ) (p : PageByte) (qs : List PageByte) → p.off < 4096 → AllStandIn pages qs → ¬ IsAmong qs p → is_in (cell p) (map cell qs) ≡ false
other_cells pages p [] h k n = refl
other_cells pages p (q ∷ qs) h k n =
    let here = other_cell p q h k.0.in_page (λ e. n (inl e)) in
    rw here (other_cells pages p qs h k.1 (λ m. n (inr m)))

pub apart-cells : (pages : ℕ) (ps qs : List PageByte) → AllStandIn pages ps → AllStandIn pages qs → Apart ps qs → share_a_cell (map cell ps) (map cell qs) ≡ false
apart-cells pages [] qs h k a = refl
apart-cells pages (p ∷ ps) qs h k a =
    let here = other_cells pages p qs h.0.in_page k (a p (inl refl)) in
    rw here (apart-cells pages ps qs h.1 k (λ q m. a q (inr m)))

each_other : (pages : ℕ) (p : PageByte) (qs : List PageByte) → p.off < 4096 → AllStandIn pages qs → ¬ IsAmong qs p → AllByRecursion (λ i. eqb (cell p) i ≡ false) (map cell qs)
each_other pages p [] h k n = tt
each_other pages p (q ∷ qs) h k n = (other_cell p q h k.0.in_page (λ e. n (inl e)), each_other pages p qs h k.1 (λ m. n (inr m)))

pub distinct-cells : (pages : ℕ) (ps : List PageByte) → AllStandIn pages ps → NoneTwice ps → IsDistinct eqb (map cell ps)
unfolding IsDistinct
distinct-cells pages [] h k = tt
distinct-cells pages (p ∷ ps) h k = (each_other pages p ps h.0.in_page h.1 k.0, distinct-cells pages ps h.1 k.1)

-- one list of cells after another

pub gather-append : (none : ℕ) (a b cells : List ℕ) → gather none (a ++ b) cells ≡ gather none a cells ++ gather none b cells
gather-append none [] b cells = refl
gather-append none (i ∷ a) b cells = ap (λ l. get_or cells i none ∷ l) (gather-append none a b cells)

pub scatter-append : (a b v w cells : List ℕ) → length v ≡ length a → scatter (a ++ b) (v ++ w) cells ≡ scatter b w (scatter a v cells)
scatter-append [] b [] w cells h = refl
scatter-append [] b (x ∷ v) w cells h = absurd (omega arith)
scatter-append (i ∷ a) b [] w cells h = absurd (omega arith)
scatter-append (i ∷ a) b (x ∷ v) w cells h = scatter-append a b v w (set cells i x) (omega arith)
