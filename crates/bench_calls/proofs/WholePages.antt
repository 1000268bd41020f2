-- Lists of whole pages.
use Rattle.std.proofs.Common.{◌≡◌, ℕ, zero, suc, ◌+◌, ◌*◌, ◌≤◌, ◌<◌, List, [], ◌∷◌, ◌++◌, length, refl, sym, ap, ◌∙◌, subst, inl, inr, add-one, arith}
use Rattle.page_pool.specs.declared.segs.Seg.{Seg}
use Rattle.page_pool.specs.Places.{PageByte, places_of, places_in, total, IsAmong, NoneTwice, Apart}
use Rattle.page_pool.specs.Pages.{AllLieIn}
use Rattle.page_pool.proofs.Placing.{among-append}
use Rattle.page_pool.proofs.Separate.{once-append, run-once, within}
use Rattle.integrity_payload.specs.Payloads.{AreWholeTuples, IsPayload}
use Rattle.bench_calls.specs.declared.payloads.Request.{Request}
use Rattle.bench_calls.specs.Requests.{IsRequest, whole_pages}

abbrev page_at : ℕ → Seg
page_at n = record { page = n; off = 0; len = 4096 }

longer : (first n : ℕ) → whole_pages first n ++ page_at (first + n) ∷ [] ≡ whole_pages first (suc n)
unfolding whole_pages
longer first zero = let e : first + 0 ≡ first = omega arith in ap (λ i. page_at i ∷ []) e
longer first (suc n) =
    let e : first + suc n ≡ suc first + n = omega arith in
    ap (λ l. page_at first ∷ l) (ap (λ i. whole_pages (suc first) n ++ page_at i ∷ []) e ∙ longer (suc first) n)

pub one_more : (first n : ℕ) → whole_pages first n ++ page_at (first + n) ∷ [] ≡ whole_pages first (n + 1)
one_more first n = longer first n ∙ ap (whole_pages first) (sym (add-one n))

pub none : (first : ℕ) → [] ≡ whole_pages first 0
unfolding whole_pages
none first = refl

pub total-whole : (first n : ℕ) → total (whole_pages first n) ≡ 4096 * n
unfolding whole_pages
total-whole first zero = refl
total-whole first (suc n) = let e = total-whole (suc first) n in omega arith

pub all_lie : (pool : List (List ℕ)) (first n : ℕ) → first + n ≤ length pool → AllLieIn pool (whole_pages first n)
unfolding whole_pages
all_lie pool first zero h = tt
all_lie pool first (suc n) h = (record { in_pool = omega arith; in_page = omega arith }, all_lie pool (suc first) n (omega arith))

pub are_tuples : (first n : ℕ) → AreWholeTuples (whole_pages first n)
unfolding whole_pages
are_tuples first zero = tt
are_tuples first (suc n) = (refl, are_tuples (suc first) n)

pub among : (first n : ℕ) (p : PageByte) → IsAmong (places_in (whole_pages first n)) p → (first ≤ p.page) × (p.page < first + n)
unfolding whole_pages
among first zero p h = absurd h
among first (suc n) p h = elim (among-append (places_of (record { page = first; off = 0; len = 4096 })) (places_in (whole_pages (suc first) n)) p h) [
  | inl l ↦ let e = (within first 0 4096 p l).same in (omega arith, omega arith)
  | inr l ↦ let e = among (suc first) n p l in (omega (arith, e.0), omega (arith, e.1))
]

pub once : (first n : ℕ) → NoneTwice (places_in (whole_pages first n))
unfolding whole_pages
once first zero = tt
once first (suc n) = once-append (places_of (record { page = first; off = 0; len = 4096 })) (places_in (whole_pages (suc first) n)) (run-once first 0 4096) (once (suc first) n)
    (λ p l m. let a = (within first 0 4096 p l).same in let b = (among (suc first) n p m).0 in omega arith)

pub apart : (first n next m : ℕ) → first + n ≤ next → Apart (places_in (whole_pages first n)) (places_in (whole_pages next m))
apart first n next m h p k l = let a = (among first n p k).1 in let b = (among next m p l).0 in omega arith

pub is_payload : (r : Request) → IsRequest r → IsPayload r.payload
is_payload r h = record {
  whole = subst (λ l. AreWholeTuples l) (sym h.tuples) (are_tuples 256 4);
  long = ap total h.tuples ∙ (total-whole 256 4 ∙ ap (λ k. 8 * k) (sym h.count));
}

pub tuples_lie : (r : Request) → IsRequest r → AllLieIn r.pool r.payload.tuples
tuples_lie r h = let e = h.pages in subst (λ l. AllLieIn r.pool l) (sym h.tuples) (all_lie r.pool 256 4 (omega arith))

pub body_lies : (r : Request) → IsRequest r → AllLieIn r.pool r.body
body_lies r h = let e = h.pages in subst (λ l. AllLieIn r.pool l) (sym h.body) (all_lie r.pool 0 256 (omega arith))

pub tuples_once : (r : Request) → IsRequest r → NoneTwice (places_in r.payload.tuples)
tuples_once r h = subst (λ l. NoneTwice (places_in l)) (sym h.tuples) (once 256 4)

no_tuple : (r : Request) → IsRequest r → (p : PageByte) → IsAmong (places_in (whole_pages 0 256)) p → IsAmong (places_in r.payload.tuples) p → ⊥
no_tuple r h p a b = apart 0 256 256 4 (omega arith) p a (subst (λ l. IsAmong (places_in l) p) h.tuples b)

pub are_apart : (r : Request) → IsRequest r → Apart (places_in r.body) (places_in r.payload.tuples)
are_apart r h p a b = no_tuple r h p (subst (λ l. IsAmong (places_in l) p) h.body a) b

-- the request with another pool
abbrev pub with_pool : Request → List (List ℕ) → Request
with_pool r new = record { pool = new; body = r.body; payload = r.payload }

pub still_request : (r : Request) (new : List (List ℕ)) → IsRequest r → length new ≡ length r.pool → IsRequest (with_pool r new)
still_request r new h stay = record {
  seed = h.seed;
  count = h.count;
  tuples = h.tuples;
  body = h.body;
  pages = stay ∙ h.pages;
}
