-- The pages in which the tuples of the block layer lie.
use Rattle.std.proofs.Common.{◌≡◌, ◌<◌, ◌≤◌, ℕ, zero, suc, ◌+◌, ◌-◌, ◌*◌, ◌%◌, min, inl, inr, List, [], ◌∷◌, length, map, ap, ◌∙◌, arith}
use Rattle.page_pool.specs.declared.segs.Seg.{Seg}
use Rattle.page_pool.specs.Pages.{AllLieIn}
use Rattle.page_pool.specs.Places.{Apart, IsAmong, NoneTwice, PageByte, places_in, places_of, total}
use Rattle.page_pool.specs.Walking.{AllStandIn}
use Rattle.page_pool.proofs.Placing.{among-append, segments_stand}
use Rattle.page_pool.proofs.Separate.{once-append, run-once, within}
use Rattle.integrity_payload.specs.Payloads.{AreWholeTuples}
use Rattle.stack_laws.specs.Passed.{numbers}
use Rattle.stack_walk_laws.specs.Requests.{pages_for, private_tuples, tuple_page}

-- the tuples of the pages k to k + m - 1
abbrev pub tuples_from : (page count k m : ℕ) → List Seg
tuples_from page count k m = map (tuple_page page count) (numbers k m)

one-more : (count k m : ℕ) → min (8 * (count - 512 * k)) 4096 + min (8 * (count - 512 * suc k)) (4096 * m) ≡ min (8 * (count - 512 * k)) (4096 * suc m)
one-more count k m = omega arith

total-from : (page count k m : ℕ) → total (tuples_from page count k m) ≡ min (8 * (count - 512 * k)) (4096 * m)
total-from page count k zero = omega arith
total-from page count k (suc m) = ap (λ n. min (8 * (count - 512 * k)) 4096 + n) (total-from page count (suc k) m) ∙ one-more count k m

-- eight bytes for each block
pub total-private : (page count : ℕ) → total (private_tuples page count) ≡ 8 * count
total-private page count = let e = total-from page count 0 (pages_for count) in omega arith

eighths : (n : ℕ) → min (8 * n) 4096 % 8 ≡ 0
eighths n = omega arith

whole-from : (page count k m : ℕ) → AreWholeTuples (tuples_from page count k m)
whole-from page count k zero = tt
whole-from page count k (suc m) = (eighths (count - 512 * k), whole-from page count (suc k) m)

pub whole-private : (page count : ℕ) → AreWholeTuples (private_tuples page count)
whole-private page count = whole-from page count 0 (pages_for count)

-- none of them lies on an earlier page
page-from : (page count k m : ℕ) (p : PageByte) → IsAmong (places_in (tuples_from page count k m)) p → page + k ≤ p.page
page-from page count k zero p h = absurd h
page-from page count k (suc m) p h =
    elim (among-append (places_of (tuple_page page count k)) (places_in (tuples_from page count (suc k) m)) p h) [
      | inl l ↦ let e = (within (page + k) 0 (min (8 * (count - 512 * k)) 4096) p l).same in omega arith
      | inr l ↦ let e = page-from page count (suc k) m p l in omega arith
    ]

once-from : (page count k m : ℕ) → NoneTwice (places_in (tuples_from page count k m))
once-from page count k zero = tt
once-from page count k (suc m) =
    once-append (places_of (tuple_page page count k)) (places_in (tuples_from page count (suc k) m))
    (run-once (page + k) 0 (min (8 * (count - 512 * k)) 4096))
    (once-from page count (suc k) m)
    (λ p a b. (let e = (within (page + k) 0 (min (8 * (count - 512 * k)) 4096) p a).same in let f = page-from page count (suc k) m p b in omega arith))

pub once-private : (page count : ℕ) → NoneTwice (places_in (private_tuples page count))
once-private page count = once-from page count 0 (pages_for count)

lie-from : (pool : List (List ℕ)) (page count k m : ℕ) → page + k + m ≤ length pool → AllLieIn pool (tuples_from page count k m)
lie-from pool page count k zero h = tt
lie-from pool page count k (suc m) h = (record { in_pool = omega arith; in_page = omega arith }, lie-from pool page count (suc k) m (omega arith))

pub lie-private : (pool : List (List ℕ)) (page count : ℕ) → page + pages_for count ≤ length pool → AllLieIn pool (private_tuples page count)
lie-private pool page count h = lie-from pool page count 0 (pages_for count) (omega arith)

page-below : (pages : ℕ) (ps : List PageByte) (p : PageByte) → AllStandIn pages ps → IsAmong ps p → p.page < pages
page-below pages [] p h m = absurd m
page-below pages (q ∷ ps) p h (inl e) = let l = h.0.in_pool in let s = ap (λ (b : PageByte). b.page) e in omega arith
page-below pages (q ∷ ps) p h (inr m) = page-below pages ps p h.1 m

-- data of the script's pages share no byte with them
pub apart-private : (pool : List (List ℕ)) (body : List Seg) (page count : ℕ) → length pool ≤ page → AllLieIn pool body → Apart (places_in body) (places_in (private_tuples page count))
apart-private pool body page count h l = λ p a b.
    (let x = page-below (length pool) (places_in body) p (segments_stand pool body l) a in
    let y = page-from page count 0 (pages_for count) p b in
    omega arith)
