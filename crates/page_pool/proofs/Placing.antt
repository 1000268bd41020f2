-- The places of segments: how many, and which stand among them.
use Rattle.std.proofs.Common.{◌≡◌, ℕ, zero, suc, ◌+◌, ◌-◌, ◌≤◌, ◌<◌, List, [], ◌∷◌, ◌++◌, length, take, drop, get_or, refl, sym, ap, ◌∙◌, subst, ◌⊎◌, inl, inr, arith, append_assoc}
use Rattle.std.proofs.lemmas.List.{length-append, drop-drop, drop_at}
use Rattle.page_pool.specs.declared.segs.Seg.{Seg}
use Rattle.page_pool.specs.Places.{PageByte, run, places_of, places_in, total, IsAmong, NoneTwice, Apart}
use Rattle.page_pool.specs.Walking.{AllStandIn, InPages}
use Rattle.page_pool.specs.Pages.{LiesIn, AllLieIn}

pub length-run : (page off n : ℕ) → length (run page off n) ≡ n
unfolding run
length-run page off zero = refl
length-run page off (suc n) = ap suc (length-run page (off + 1) n)

pub length-places_in : (ss : List Seg) → length (places_in ss) ≡ total ss
length-places_in [] = refl
length-places_in (s ∷ ss) = length-append (places_of s) (places_in ss) ∙ (ap (λ n. n + length (places_in ss)) (length-run s.page s.off s.len) ∙ ap (λ n. s.len + n) (length-places_in ss))

pub run-append : (page off a b : ℕ) → run page off (a + b) ≡ run page off a ++ run page (off + a) b
unfolding run
run-append page off zero b = ap (λ n. run page off n) (let e : 0 + b ≡ b = omega arith in e) ∙ ap (λ n. run page n b) (let e : off ≡ off + 0 = omega arith in e)
run-append page off (suc a) b =
    ap (λ n. run page off n) (let e : suc a + b ≡ suc (a + b) = omega arith in e)
    ∙ ap (λ t. record { page = page; off = off } ∷ t) (run-append page (off + 1) a b ∙ ap (λ n. run page (off + 1) a ++ run page n b) (let e : off + 1 + a ≡ off + suc a = omega arith in e))

pub get_or-run : (page off n i : ℕ) (d : PageByte) → i < n → get_or (run page off n) i d ≡ record { page = page; off = off + i }
unfolding run
get_or-run page off zero i d h = absurd (omega arith)
get_or-run page off (suc n) zero d h = ap (λ k. record { page = page; off = k }) (let e : off ≡ off + 0 = omega arith in e)
get_or-run page off (suc n) (suc i) d h = get_or-run page (off + 1) n i d (omega arith) ∙ ap (λ k. record { page = page; off = k }) (let e : off + 1 + i ≡ off + suc i = omega arith in e)

-- membership

pub among-front : (a b : List PageByte) (p : PageByte) → IsAmong a p → IsAmong (a ++ b) p
among-front [] b p h = absurd h
among-front (q ∷ a) b p (inl e) = inl e
among-front (q ∷ a) b p (inr h) = inr (among-front a b p h)

pub among-back : (a b : List PageByte) (p : PageByte) → IsAmong b p → IsAmong (a ++ b) p
among-back [] b p h = h
among-back (q ∷ a) b p h = inr (among-back a b p h)

pub among-append : (a b : List PageByte) (p : PageByte) → IsAmong (a ++ b) p → IsAmong a p ⊎ IsAmong b p
among-append [] b p h = inr h
among-append (q ∷ a) b p (inl e) = inl (inl e)
among-append (q ∷ a) b p (inr h) = elim (among-append a b p h) [ inl k ↦ inl (inr k) | inr k ↦ inr k ]

pub among-run : (page off n i : ℕ) → i < n → IsAmong (run page off n) (record { page = page; off = off + i })
unfolding run
among-run page off zero i h = absurd (omega arith)
among-run page off (suc n) zero h = inl (ap (λ k. record { page = page; off = k }) (let e : off + 0 ≡ off = omega arith in e))
among-run page off (suc n) (suc i) h =
    inr (subst (λ k. IsAmong (run page (off + 1) n) (record { page = page; off = k })) (let e : off + 1 + i ≡ off + suc i = omega arith in e) (among-run page (off + 1) n i (omega arith)))

abbrev byte_of : ℕ → ℕ → PageByte
byte_of page off = record { page = page; off = off }

same_place : (a b c d : ℕ) → a ≡ c → b ≡ d → byte_of a b ≡ byte_of c d
same_place a b c d e f = ap (λ n. byte_of n b) e ∙ ap (byte_of c) f

-- what is in a segment's page and between its ends is in the segment
pub at_place : (s : Seg) (p : PageByte) → p.page ≡ s.page → s.off ≤ p.off → p.off < s.off + s.len → IsAmong (places_of s) p
at_place s p e h k =
    let off : s.off + (p.off - s.off) ≡ p.off = omega arith in
    let here = same_place s.page (s.off + (p.off - s.off)) p.page p.off (sym e) off in
    subst (λ v. IsAmong (places_of s) v) here (among-run s.page s.off s.len (p.off - s.off) (omega arith))

pub once-back : (a b : List PageByte) → NoneTwice (a ++ b) → NoneTwice b
once-back [] b h = h
once-back (p ∷ a) b h = once-back a b h.1

pub once-front : (a b : List PageByte) → NoneTwice (a ++ b) → NoneTwice a
once-front [] b h = tt
once-front (p ∷ a) b h = (λ k. h.0 (among-front a b p k), once-front a b h.1)

pub once-apart : (a b : List PageByte) → NoneTwice (a ++ b) → Apart a b
once-apart [] b h p k l = k
once-apart (q ∷ a) b h p (inl e) l = h.0 (among-back a b q (subst (λ v. IsAmong b v) e l))
once-apart (q ∷ a) b h p (inr k) l = once-apart a b h.1 p k l

-- places in the pool

pub stand-front : (pages : ℕ) (a b : List PageByte) → AllStandIn pages (a ++ b) → AllStandIn pages a
stand-front pages [] b h = tt
stand-front pages (p ∷ a) b h = (h.0, stand-front pages a b h.1)

pub stand-back : (pages : ℕ) (a b : List PageByte) → AllStandIn pages (a ++ b) → AllStandIn pages b
stand-back pages [] b h = h
stand-back pages (p ∷ a) b h = stand-back pages a b h.1

pub stand-append : (pages : ℕ) (a b : List PageByte) → AllStandIn pages a → AllStandIn pages b → AllStandIn pages (a ++ b)
stand-append pages [] b h k = k
stand-append pages (p ∷ a) b h k = (h.0, stand-append pages a b h.1 k)

pub stand-drop : (pages n : ℕ) (a : List PageByte) → AllStandIn pages a → AllStandIn pages (drop n a)
stand-drop pages zero [] h = tt
stand-drop pages (suc n) [] h = tt
stand-drop pages zero (p ∷ a) h = h
stand-drop pages (suc n) (p ∷ a) h = stand-drop pages n a h.1

pub stand-take : (pages n : ℕ) (a : List PageByte) → AllStandIn pages a → AllStandIn pages (take n a)
stand-take pages zero [] h = tt
stand-take pages (suc n) [] h = tt
stand-take pages zero (p ∷ a) h = tt
stand-take pages (suc n) (p ∷ a) h = (h.0, stand-take pages n a h.1)

pub in_pages : (pages : ℕ) (a : List PageByte) → AllStandIn pages a → InPages a
in_pages pages [] h = tt
in_pages pages (p ∷ a) h = (h.0.in_page, in_pages pages a h.1)

pub in_pages-drop : (n : ℕ) (a : List PageByte) → InPages a → InPages (drop n a)
in_pages-drop zero [] h = tt
in_pages-drop (suc n) [] h = tt
in_pages-drop zero (p ∷ a) h = h
in_pages-drop (suc n) (p ∷ a) h = in_pages-drop n a h.1

run-stands : (pages page off n : ℕ) → page < pages → off + n ≤ 4096 → AllStandIn pages (run page off n)
unfolding run
run-stands pages page off zero h k = tt
run-stands pages page off (suc n) h k = (record { in_pool = h; in_page = omega arith }, run-stands pages page (off + 1) n h (omega arith))

-- a list whose segments lie in the pool names places there
pub segments_stand : (pool : List (List ℕ)) (ss : List Seg) → AllLieIn pool ss → AllStandIn (length pool) (places_in ss)
segments_stand pool [] h = tt
segments_stand pool (s ∷ ss) h =
    stand-append (length pool) (places_of s) (places_in ss) (run-stands (length pool) s.page s.off s.len h.0.in_pool h.0.in_page) (segments_stand pool ss h.1)

end_of : (pages page off n : ℕ) → AllStandIn pages (run page off (suc n)) → (page < pages) × (off + suc n ≤ 4096)
unfolding run
end_of pages page off zero h = (h.0.in_pool, let k = h.0.in_page in omega arith)
end_of pages page off (suc n) h = let k = end_of pages page (off + 1) n h.1 in (k.0, let m = k.1 in omega arith)

-- a segment that names places of the pool, and not none, lies in it
pub lies : (pool : List (List ℕ)) (s : Seg) → 0 < s.len → AllStandIn (length pool) (places_of s) → LiesIn pool s
lies pool s h k =
    let more : s.len ≡ suc (s.len - 1) = omega arith in
    let e = end_of (length pool) s.page s.off (s.len - 1) (subst (λ n. AllStandIn (length pool) (run s.page s.off n)) more k) in
    record { in_pool = e.0; in_page = let m = e.1 in omega arith }

-- walks

pub drop-past : {X : Type 0} (a b : List X) (n : ℕ) → length a ≤ n → drop n (a ++ b) ≡ drop (n - length a) b
drop-past a b n h =
    let e : length a + (n - length a) ≡ n = omega arith in
    sym (ap (λ k. drop k (a ++ b)) e) ∙ (sym (drop-drop (n - length a) (length a) (a ++ b)) ∙ ap (λ l. drop (n - length a) l) (drop_at a b (length a) refl))

pub step_over : (s : Seg) (ss : List Seg) (at : ℕ) → s.len ≤ at → drop (at - s.len) (places_in ss) ≡ drop at (places_in (s ∷ ss))
step_over s ss at h =
    let long = length-run s.page s.off s.len in
    sym (drop-past (places_of s) (places_in ss) at (omega arith) ∙ ap (λ n. drop (at - n) (places_in ss)) long)

pub takes : (page off n at len : ℕ) (b : List PageByte) → at + len ≤ n → drop at (run page off n ++ b) ≡ run page (off + at) len ++ drop (at + len) (run page off n ++ b)
takes page off n at len b h =
    let e : n ≡ at + (len + (n - (at + len))) = omega arith in
    let front = run page off at in
    let mid = run page (off + at) len in
    let rest = run page (off + at + len) (n - (at + len)) in
    let cut : run page off n ≡ front ++ (mid ++ rest) =
    ap (run page off) e ∙ (run-append page off at (len + (n - (at + len))) ∙ ap (λ l. front ++ l) (run-append page (off + at) len (n - (at + len)))) in
    let whole : run page off n ++ b ≡ front ++ (mid ++ (rest ++ b)) = ap (λ l. l ++ b) cut ∙ (append_assoc front (mid ++ rest) b ∙ ap (λ l. front ++ l) (append_assoc mid rest b)) in
    let again : run page off n ++ b ≡ (front ++ mid) ++ (rest ++ b) = whole ∙ sym (append_assoc front mid (rest ++ b)) in
    let long : length (front ++ mid) ≡ at + len = length-append front mid ∙ (ap (λ k. k + length mid) (length-run page off at) ∙ ap (λ k. at + k) (length-run page (off + at) len)) in
    let behind : drop (at + len) (run page off n ++ b) ≡ rest ++ b = ap (λ l. drop (at + len) l) again ∙ drop_at (front ++ mid) (rest ++ b) (at + len) long in
    ap (λ l. drop at l) whole ∙ (drop_at front (mid ++ (rest ++ b)) at (length-run page off at) ∙ ap (λ l. mid ++ l) (sym behind))

one_in_page : (page off : ℕ) (b : List PageByte) → InPages (run page off 1 ++ b) → off < 4096
unfolding run
one_in_page page off b k = k.0

-- the first byte ahead is in its page
pub first_in_page : (page off n at : ℕ) (b : List PageByte) → at < n → InPages (drop at (run page off n ++ b)) → off + at < 4096
first_in_page page off n at b h k =
    one_in_page page (off + at) (drop (at + 1) (run page off n ++ b)) (subst (λ l. InPages l) (takes page off n at 1 b (omega arith)) k)

-- a list lies in every pool of as many pages
pub all_lie-same : (old new : List (List ℕ)) (ss : List Seg) → length new ≡ length old → AllLieIn old ss → AllLieIn new ss
all_lie-same old new [] e h = tt
all_lie-same old new (s ∷ ss) e h = let k = h.0.in_pool in (record { in_pool = omega arith; in_page = h.0.in_page }, all_lie-same old new ss e h.1)
