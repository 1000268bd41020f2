-- the bytes at a run of places are a part of the page
use Rattle.std.proofs.Common.{◌≡◌, ℕ, ◌+◌, ◌-◌, ◌≤◌, ◌<◌, List, [], ◌++◌, length, take, drop, get_or, set, sym, ap, ◌∙◌, ◌⊎◌, ◌≢◌, inl, inr, arith}
use Rattle.std.proofs.lemmas.List.{places, same_lists, length-take, length-drop, length-append, length-map, length-set, get_or-map, get_or-set_same, get_or-set_other, get_or_past, set_past, map-set, take-append-le}
use Rattle.std.proofs.lemmas.Bool.{cases_lt, cases_eq}
use Rattle.std.specs.Vec.{with_items_from}
use Rattle.std.specs.declared.alloc.Global.{Global}
use Rattle.std.specs.declared.vec.Vec.{Vec}
use Rattle.page_pool.specs.declared.segs.Seg.{Seg}
use Rattle.page_pool.specs.Places.{PageByte, run, places_of, IsAmong}
use Rattle.page_pool.specs.Pages.{contents, page_of, byte_at, bytes_at, AreWhole, LiesIn, part, with_bytes, with_part, OthersStay, Wrote}
use Rattle.page_pool.proofs.Placing.{length-run, get_or-run, at_place}

pub bytes-run : (pool : List (List ℕ)) (page off n : ℕ) → off + n ≤ length (page_of pool page) → bytes_at pool (run page off n) ≡ take n (drop off (page_of pool page))
bytes-run pool page off n h =
    let long : length (bytes_at pool (run page off n)) ≡ n = length-map (run page off n) (byte_at pool) ∙ length-run page off n in
    same_lists _ _ (long ∙ simp (length-take, length-drop) (omega arith))
    (λ k d l. let m : k < length (run page off n) = omega (arith, length-map (run page off n) (byte_at pool)) in
    let q : PageByte = record { page = page; off = off } in
    let s : k < n = omega (arith, length-run page off n) in
    let e = get_or-map (byte_at pool) (run page off n) k q d m in
    let f : byte_at pool (get_or (run page off n) k q) ≡ byte_at pool (record { page = page; off = off + k }) = ap (byte_at pool) (get_or-run page off n k q s) in
    e ∙ (f ∙ grind (arith, places)))

pub part-is : (pool : List (List ℕ)) (s : Seg) → AreWhole pool → LiesIn pool s → part pool s ≡ bytes_at pool (places_of s)
part-is pool s w h = let size = w.size s.page h.in_pool in let k = h.in_page in sym (bytes-run pool s.page s.off s.len (omega arith))

-- bytes written into a page

pub length-with_bytes : (page : List ℕ) (off : ℕ) (w : List ℕ) → length (with_bytes page off w) ≡ length page
length-with_bytes page off w = simp (length-take, length-append, length-drop) (omega arith)

pub outside : (page : List ℕ) (off : ℕ) (w : List ℕ) (j : ℕ) → off + length w ≤ length page → j < length page → (j < off) ⊎ (off + length w ≤ j) → get_or (with_bytes page off w) j 0 ≡ get_or page j 0
outside page off w j h k (inl l) = grind (arith, places)
outside page off w j h k (inr l) = grind (arith, places)

pub past : (page : List ℕ) (off : ℕ) (w : List ℕ) (j : ℕ) → length page ≤ j → get_or (with_bytes page off w) j 0 ≡ get_or page j 0
past page off w j h = get_or_past (with_bytes page off w) j 0 (omega (arith, length-with_bytes page off w)) ∙ sym (get_or_past page j 0 h)

pub page-same : (pool : List (List ℕ)) (s : Seg) (w : List ℕ) → s.page < length pool → page_of (with_part pool s w) s.page ≡ with_bytes (page_of pool s.page) s.off w
page-same pool s w h = get_or-set_same pool s.page (with_bytes (page_of pool s.page) s.off w) [] h

pub page-other : (pool : List (List ℕ)) (s : Seg) (w : List ℕ) (n : ℕ) → n ≢ s.page → page_of (with_part pool s w) n ≡ page_of pool n
page-other pool s w n h = get_or-set_other pool s.page n (with_bytes (page_of pool s.page) s.off w) [] h

pub sizes-with_part : (pool : List (List ℕ)) (s : Seg) (w : List ℕ) (n : ℕ) → length (page_of (with_part pool s w) n) ≡ length (page_of pool n)
sizes-with_part pool s w n = elim (cases_eq n s.page) [
  | inl e ↦ elim (cases_lt s.page (length pool)) [
    | inl l ↦ rw e (ap length (page-same pool s w l) ∙ length-with_bytes (page_of pool s.page) s.off w)
    | inr l ↦ ap (λ p. length (page_of p n)) (set_past pool s.page (with_bytes (page_of pool s.page) s.off w) l)
  ]
  | inr e ↦ ap length (page-other pool s w n e)
]

pub whole-with_part : (pool : List (List ℕ)) (s : Seg) (w : List ℕ) → AreWhole pool → AreWhole (with_part pool s w)
whole-with_part pool s w h = record {
  size = λ n l. let k : n < length pool = omega (arith, length-set pool s.page (with_bytes (page_of pool s.page) s.off w)) in sizes-with_part pool s w n ∙ h.size n k;
}

-- what was written is a part, and all other bytes are as before

other_in_page : (pool : List (List ℕ)) (s : Seg) (w : List ℕ) (p : PageByte) → LiesIn pool s → AreWhole pool → length w ≡ s.len → p.page ≡ s.page → ¬ IsAmong (places_of s) p →
    get_or (with_bytes (page_of pool s.page) s.off w) p.off 0 ≡ get_or (page_of pool s.page) p.off 0
other_in_page pool s w p h whole l e free =
    let size = whole.size s.page h.in_pool in
    let fits = h.in_page in
    elim (cases_lt p.off (length (page_of pool s.page))) [
      | inr far ↦ past (page_of pool s.page) s.off w p.off far
      | inl near ↦ elim (cases_lt p.off s.off) [
        | inl before ↦ outside (page_of pool s.page) s.off w p.off (omega arith) near (inl before)
        | inr from ↦ elim (cases_lt p.off (s.off + s.len)) [
          | inl within ↦ absurd (free (at_place s p e from within))
          | inr behind ↦ outside (page_of pool s.page) s.off w p.off (omega arith) near (inr (omega arith))
        ]
      ]
    ]

pub others-with_part : (pool : List (List ℕ)) (s : Seg) (w : List ℕ) → LiesIn pool s → AreWhole pool → length w ≡ s.len → OthersStay pool (with_part pool s w) (places_of s)
others-with_part pool s w h whole l = record {
  pages = length-set pool s.page (with_bytes (page_of pool s.page) s.off w);
  sizes = sizes-with_part pool s w;
  others = λ p free. elim (cases_eq p.page s.page) [
    | inl e ↦ ap (λ n. get_or (page_of (with_part pool s w) n) p.off 0) e
        ∙ (ap (λ q. get_or q p.off 0) (page-same pool s w h.in_pool)
        ∙ (other_in_page pool s w p h whole l e free ∙ ap (λ n. get_or (page_of pool n) p.off 0) (sym e)))
    | inr e ↦ ap (λ q. get_or q p.off 0) (page-other pool s w p.page e)
  ];
}

part-with_bytes : (page : List ℕ) (off : ℕ) (w : List ℕ) → off + length w ≤ length page → take (length w) (drop off (with_bytes page off w)) ≡ w
part-with_bytes page off w h = same_lists _ _ (simp (length-take, length-drop, length-append) (omega arith)) (λ k d l. grind (arith, places))

pub wrote-with_part : (pool : List (List ℕ)) (s : Seg) (w : List ℕ) → LiesIn pool s → AreWhole pool → length w ≡ s.len → Wrote pool (with_part pool s w) (places_of s) w
wrote-with_part pool s w h whole l =
    let size = whole.size s.page h.in_pool in
    let fits = h.in_page in
    let long : length (page_of (with_part pool s w) s.page) ≡ 4096 = sizes-with_part pool s w s.page ∙ size in
    record {
      written = bytes-run (with_part pool s w) s.page s.off s.len (omega arith)
          ∙ (ap (λ q. take s.len (drop s.off q)) (page-same pool s w h.in_pool)
          ∙ (ap (λ n. take n (drop s.off (with_bytes (page_of pool s.page) s.off w))) (sym l) ∙ part-with_bytes (page_of pool s.page) s.off w (omega arith)));
      others = others-with_part pool s w h whole l;
    }

-- the pages in memory

pub page-is : (vs : List (Vec ℕ Global)) (n : ℕ) (v : Vec ℕ Global) → n < length vs → v ≡ get_or vs n v → page_of (contents vs) n ≡ v.items
page-is vs n v h e = get_or-map (λ (u : Vec ℕ Global). u.items) vs n v [] h ∙ ap (λ (u : Vec ℕ Global). u.items) (sym e)

pub many-pages : (vs : List (Vec ℕ Global)) → length (contents vs) ≡ length vs
many-pages vs = length-map vs (λ (u : Vec ℕ Global). u.items)

-- the page of a segment that lies in the pool
pub record PageOf (pool : List (List ℕ)) (s : Seg) (page : List ℕ) : Type 0 where
  pub same : page_of pool s.page ≡ page
  pub size : length page ≡ 4096

pub page_of-segment : (pool : List (List ℕ)) (vs : List (Vec ℕ Global)) (s : Seg) (v : Vec ℕ Global) → pool ≡ contents vs → AreWhole (contents vs) → LiesIn pool s → v ≡ get_or vs s.page v → PageOf pool s v.items
page_of-segment pool vs s v e whole h f =
    let many : length pool ≡ length vs = ap length e ∙ many-pages vs in
    let k = h.in_pool in
    let same : page_of pool s.page ≡ v.items = ap (λ p. page_of p s.page) e ∙ page-is vs s.page v (omega arith) f in
    record { same = same; size = sym (ap length same) ∙ (ap (λ p. length (page_of p s.page)) e ∙ whole.size s.page (omega (arith, many-pages vs))) }

pub range_is : (pool : List (List ℕ)) (s : Seg) (page : List ℕ) → PageOf pool s page → take (s.off + s.len - s.off) (drop s.off page) ≡ part pool s
range_is pool s page h =
    let e : s.off + s.len - s.off ≡ s.len = omega arith in
    ap (λ n. take n (drop s.off page)) e ∙ ap (λ l. take s.len (drop s.off l)) (sym h.same)

pub length-part : (pool : List (List ℕ)) (s : Seg) (page : List ℕ) → PageOf pool s page → LiesIn pool s → length (part pool s) ≡ s.len
length-part pool s page p h =
    let size = ap length p.same in
    let long = p.size in
    let fits = h.in_page in
    simp (length-take, length-drop) (omega arith)

cut_off : (n off : ℕ) (page w y : List ℕ) → n ≡ length page → off ≤ n →
    take n (take off page ++ (w ++ drop (length w) (drop off page)) ++ y) ≡ with_bytes page off w
cut_off n off page w y e h =
    let l : n ≤ length (take off page ++ (w ++ drop (length w) (drop off page))) = simp (length-append, length-take, length-drop) (omega arith) in
    take-append-le n (take off page ++ (w ++ drop (length w) (drop off page))) y l ∙ ap (λ v. take v (take off page ++ (w ++ drop (length w) (drop off page)))) e

pub lent-is : (pool : List (List ℕ)) (vs : List (Vec ℕ Global)) (s : Seg) (v : Vec ℕ Global) (w : List ℕ) → pool ≡ contents vs → LiesIn pool s → PageOf pool s v.items → v.len ≡ length v.items →
    contents (set vs s.page (with_items_from v s.off w)) ≡ with_part pool s w
lent-is pool vs s v w e h p l =
    let k = h.in_page in
    let size = p.size in
    let cut : (with_items_from v s.off w).items ≡ with_bytes v.items s.off w = cut_off v.len s.off v.items w _ l (omega arith) in
    map-set (λ (u : Vec ℕ Global). u.items) vs s.page (with_items_from v s.off w)
    ∙ (ap (λ q. set (contents vs) s.page q) (cut ∙ ap (λ q. with_bytes q s.off w) (sym p.same)) ∙ ap (λ q. set q s.page (with_bytes (page_of pool s.page) s.off w)) (sym e))
