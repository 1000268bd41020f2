-- Segments inside the pages, by the cells of their bytes; and segments without a common byte.
use Rattle.std.proofs.Common.{◌≡◌, ◌<◌, ℕ, ◌+◌, ◌*◌, Bool, true, false, ◌&&◌, List, [], ◌∷◌, ◌++◌, length, replicate, refl, sym, ◌∙◌, subst, inl, inr, arith}
use Rattle.std.specs.Prelude.{nat_eq, nat_le, nat_lt}
use Rattle.std.specs.List.{All, IsDistinct, list_any}
use Rattle.std.proofs.lemmas.Bool.{and_parts, leb-true, ltb-true, or_parts}
use Rattle.std.proofs.lemmas.List.{length-replicate, map-append}
use Rattle.page_pool.specs.Cells.{cell}
use Rattle.page_pool.specs.Pages.{AllLieIn, LiesIn}
use Rattle.page_pool.specs.Places.{Apart, NoneTwice, places_in, places_of, shares}
use Rattle.page_pool.specs.Walking.{AllStandIn}
use Rattle.page_pool.specs.declared.segs.Seg.{Seg}
use Rattle.page_pool.proofs.Celled.{below-cells, distinct-cells}
use Rattle.page_pool.proofs.Placing.{among-append, in_pages, once-front, segments_stand, stand-append, stand-back, stand-front}
use Rattle.page_pool.proofs.Separate.{once-append, run-once}
use Rattle.page_pool.proofs.Sharing.{exact}
use Rattle.range_gate.specs.Cells.{AllInPages, cells_of}
use Rattle.range_gate.specs.declared.footprint.Touch.{Touch}
use Rattle.run_laws.specs.Passed.{touches}
use Rattle.run_laws.proofs.Passed.{places-append}
use Rattle.script_laws.specs.Passed.{any_share, are_inside, do_overlap, is_inside}

-- ---- inside the pages

pub lies : (pages : ℕ) (pool : List (List ℕ)) (s : Seg) → length pool ≡ pages → is_inside pages s ≡ true → LiesIn pool s
lies pages pool s e h =
    let a = and_parts (nat_lt s.page pages) (nat_lt 0 s.len && nat_le (s.off + s.len) 4096) h in
    let b = and_parts (nat_lt 0 s.len) (nat_le (s.off + s.len) 4096) a.1 in
    let p = ltb-true s.page pages a.0 in
    record { in_pool = omega arith; in_page = leb-true (s.off + s.len) 4096 b.1 }

pub all-lie : (pages : ℕ) (pool : List (List ℕ)) (segs : List Seg) → length pool ≡ pages → are_inside pages segs ≡ true → AllLieIn pool segs
all-lie pages pool [] e h = tt
all-lie pages pool (s ∷ ss) e h =
    let a = and_parts (is_inside pages s) (are_inside pages ss) h in
    (lies pages pool s e a.0, all-lie pages pool ss e a.1)

pub stands : (pages : ℕ) (segs : List Seg) → are_inside pages segs ≡ true → AllStandIn pages (places_in segs)
stands pages segs h =
    let pool : List (List ℕ) = replicate pages [] in
    let long : length pool ≡ pages = length-replicate pages [] in
    subst (λ (n : ℕ). AllStandIn n (places_in segs)) long (segments_stand pool segs (all-lie pages pool segs long h))

and-so : (b : Bool) → b ≡ true → b && true ≡ true
and-so true h = refl
and-so false h = absurd cc

pub one-stands : (pages : ℕ) (s : Seg) → is_inside pages s ≡ true → AllStandIn pages (places_in (s ∷ []))
one-stands pages s h = stands pages (s ∷ []) (and-so (is_inside pages s) h)

pub cells-below : (pages : ℕ) (segs : List Seg) → AllStandIn pages (places_in segs) → All (λ i. i < 4096 * pages) (cells_of segs)
cells-below pages segs h = below-cells pages (places_in segs) h

pub none-below : (n : ℕ) → All (λ i. i < n) []
none-below n k d l = absurd (omega arith)

pub touched-in-pages : (pages : ℕ) (writes : Bool) (segs : List Seg) → AllStandIn pages (places_in segs) → AllInPages (touches writes segs)
touched-in-pages pages writes [] h = tt
touched-in-pages pages writes (s ∷ ss) h =
    let here = stand-append pages (places_of s) [] (stand-front pages (places_of s) (places_in ss) h) tt in
    (in_pages pages (places_of s ++ []) here, touched-in-pages pages writes ss (stand-back pages (places_of s) (places_in ss) h))

pub pages-append : (xs ys : List Touch) → AllInPages xs → AllInPages ys → AllInPages (xs ++ ys)
pages-append [] ys a b = b
pages-append (x ∷ xs) ys a b = (a.0, pages-append xs ys a.1 b)

-- ---- without a common byte

apart-one : (s t : Seg) → shares s t ≡ false → Apart (places_of s) (places_of t)
apart-one s t h p k l = let x : true ≡ false = sym ((exact s t (shares s t) refl).1 (p, k, l)) ∙ h in absurd cc

apart-all : (s : Seg) (ts : List Seg) → list_any (shares s) ts ≡ false → Apart (places_of s) (places_in ts)
apart-all s [] h p k l = l
apart-all s (t ∷ ts) h p k l =
    let n = or_parts (shares s t) (list_any (shares s) ts) h in
    elim (among-append (places_of t) (places_in ts) p l) [ inl m ↦ apart-one s t n.0 p k m | inr m ↦ apart-all s ts n.1 p k m ]

once-all : (ss : List Seg) → any_share ss ≡ false → NoneTwice (places_in ss)
once-all [] h = tt
once-all (s ∷ ss) h =
    let n = or_parts (list_any (shares s) ss) (any_share ss) h in
    once-append (places_of s) (places_in ss) (run-once s.page s.off s.len) (once-all ss n.1) (apart-all s ss n.0)

pub once-both : (body tuples : List Seg) → do_overlap body tuples ≡ false → NoneTwice (places_in body ++ places_in tuples)
once-both body tuples h = subst NoneTwice (places-append body tuples) (once-all (body ++ tuples) h)

-- the cells of data, and of data and tuples, are there once each
pub distinct-body : (pages : ℕ) (body : List Seg) → AllStandIn pages (places_in body) → do_overlap body [] ≡ false → IsDistinct nat_eq (cells_of body)
distinct-body pages body b h = distinct-cells pages (places_in body) b (once-front (places_in body) [] (once-both body [] h))

pub distinct-both : (pages : ℕ) (body tuples : List Seg) → AllStandIn pages (places_in body) → AllStandIn pages (places_in tuples) → do_overlap body tuples ≡ false → IsDistinct nat_eq (cells_of body ++ cells_of tuples)
distinct-both pages body tuples b t h =
    subst (λ (is : List ℕ). IsDistinct nat_eq is) (map-append cell (places_in body) (places_in tuples))
    (distinct-cells pages (places_in body ++ places_in tuples) (stand-append pages (places_in body) (places_in tuples) b t) (once-both body tuples h))
