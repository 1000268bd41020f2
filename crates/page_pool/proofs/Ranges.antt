-- The places of a range are among those of the segments; ranges that don't overlap share none.
use Rattle.std.proofs.Common.{◌≡◌, ℕ, zero, suc, ◌+◌, ◌*◌, ◌≤◌, List, ◌++◌, take, drop, refl, sym, ap, ◌∙◌, subst, arith}
use Rattle.std.proofs.lemmas.List.{take-append-drop, drop-drop, drop-take, take-take}
use Rattle.page_pool.specs.declared.segs.Seg.{Seg}
use Rattle.page_pool.specs.Cells.{joined}
use Rattle.page_pool.specs.Places.{PageByte, places_in, range_of, IsAmong, NoneTwice, Apart}
use Rattle.page_pool.proofs.Placing.{among-front, among-back, once-apart}

pub among-take : (n : ℕ) (a : List PageByte) (p : PageByte) → IsAmong (take n a) p → IsAmong a p
among-take n a p h = subst (λ l. IsAmong l p) (take-append-drop n a) (among-front (take n a) (drop n a) p h)

pub among-drop : (n : ℕ) (a : List PageByte) (p : PageByte) → IsAmong (drop n a) p → IsAmong a p
among-drop n a p h = subst (λ l. IsAmong l p) (take-append-drop n a) (among-back (take n a) (drop n a) p h)

pub among-range : (ss : List Seg) (at len : ℕ) (p : PageByte) → IsAmong (range_of ss at len) p → IsAmong (places_in ss) p
among-range ss at len p h = among-drop at (places_in ss) p (among-take len (drop at (places_in ss)) p h)

-- a range before place n is among the first n
pub among-early : (at len n : ℕ) (a : List PageByte) (p : PageByte) → at + len ≤ n → IsAmong (take len (drop at a)) p → IsAmong (take n a) p
among-early at len n a p h k =
    let m = among-drop at (take (at + len) a) p (subst (λ l. IsAmong l p) (sym (drop-take at len a)) k) in
    among-take (at + len) (take n a) p (subst (λ l. IsAmong l p) (sym (take-take (at + len) n a h)) m)

-- one range behind another shares no byte with it, where the list has none twice
pub apart-ranges : (ss : List Seg) (at len from more : ℕ) → NoneTwice (places_in ss) → at + len ≤ from → Apart (range_of ss at len) (range_of ss from more)
apart-ranges ss at len from more once h p a b =
    let all = places_in ss in
    once-apart (take from all) (drop from all) (subst (λ l. NoneTwice l) (sym (take-append-drop from all)) once) p (among-early at len from all p h a) (among-take more (drop from all) p b)

-- neither do ranges of lists that share none
pub apart-lists : (ss ts : List Seg) (at len from more : ℕ) → Apart (places_in ss) (places_in ts) → Apart (range_of ss at len) (range_of ts from more)
apart-lists ss ts at len from more h p a b = h p (among-range ss at len p a) (among-range ts from more p b)

pub take-sum : {X : Type 0} (a b : ℕ) (xs : List X) → take (a + b) xs ≡ take a xs ++ take b (drop a xs)
take-sum a b xs =
    sym (take-append-drop a (take (a + b) xs)) ∙ (ap (λ l. l ++ drop a (take (a + b) xs)) (take-take a (a + b) xs (omega arith)) ∙ ap (λ l. take a xs ++ l) (drop-take a b xs))

pub range-sum : (segs : List Seg) (at a b : ℕ) → range_of segs at (a + b) ≡ range_of segs at a ++ range_of segs (at + a) b
range-sum segs at a b =
    let e : a + at ≡ at + a = omega arith in
    take-sum a b (drop at (places_in segs)) ∙ ap (λ l. take a (drop at (places_in segs)) ++ take b l) (drop-drop a at (places_in segs) ∙ ap (λ n. drop n (places_in segs)) (omega arith))

pub tuples-joined : (segs : List Seg) (k n : ℕ) → joined (λ i. range_of segs (8 * (k + i)) 8) n ≡ range_of segs (8 * k) (8 * n)
tuples-joined segs k zero = refl
tuples-joined segs k (suc n) =
    let e : 8 * (k + n) ≡ 8 * k + 8 * n = omega arith in
    let f : 8 * n + 8 ≡ 8 * suc n = omega arith in
    ap (λ l. l ++ range_of segs (8 * (k + n)) 8) (tuples-joined segs k n) ∙ (ap (λ m. range_of segs (8 * k) (8 * n) ++ range_of segs m 8) e ∙ (sym (range-sum segs (8 * k) (8 * n) 8) ∙ ap (range_of segs (8 * k)) f))
