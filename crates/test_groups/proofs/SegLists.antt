-- One more of a list.
use Rattle.std.proofs.Common.{◌≡◌, ◌<◌, ℕ, zero, suc, ◌+◌, List, [], ◌∷◌, ◌++◌, length, take, drop, get_or, refl, sym, ap, subst, ◌∙◌, arith, inl, inr, append_assoc}
use Rattle.std.specs.Prelude.{◌%◌, ◌⊎◌}
use Rattle.page_pool.specs.declared.segs.Seg.{Seg}
use Rattle.page_pool.specs.Pages.{AllLieIn, LiesIn}
use Rattle.page_pool.specs.Places.{Apart, IsAmong, NoneTwice, Overlap, PageByte, places_in, places_of, total}
use Rattle.std.proofs.lemmas.List.{append-nil}
use Rattle.page_pool.proofs.Placing.{among-append, among-back, among-front}
use Rattle.page_pool.proofs.Separate.{once-append, run-once}
use Rattle.integrity_payload.specs.Payloads.{AreWholeTuples}

abbrev pub no_seg : Seg
no_seg = record { page = 0; off = 0; len = 0 }

pub take-more : {X : Type 0} (xs : List X) (i : ℕ) (d : X) → i < length xs → take (i + 1) xs ≡ take i xs ++ (get_or xs i d ∷ [])
take-more [] i d h = absurd (omega arith)
take-more (x ∷ xs) zero d h = refl
take-more (x ∷ xs) (suc i) d h = let s : suc i + 1 ≡ suc (i + 1) = omega arith in ap (λ k. take k (x ∷ xs)) s ∙ ap (λ z. x ∷ z) (take-more xs i d (omega arith))

lie-append : (pool : List (List ℕ)) (xs : List Seg) (s : Seg) → AllLieIn pool xs → LiesIn pool s → AllLieIn pool (xs ++ (s ∷ []))
lie-append pool [] s h l = (l, tt)
lie-append pool (x ∷ xs) s h l = (h.0, lie-append pool xs s h.1 l)

pub lie-more : (pool : List (List ℕ)) (xs : List Seg) (i : ℕ) (d : Seg) → i < length xs → AllLieIn pool (take i xs) → LiesIn pool (get_or xs i d) → AllLieIn pool (take (i + 1) xs)
lie-more pool xs i d h a l = subst (AllLieIn pool) (sym (take-more xs i d h)) (lie-append pool (take i xs) (get_or xs i d) a l)

whole-append : (xs : List Seg) (s : Seg) → AreWholeTuples xs → s.len % 8 ≡ 0 → AreWholeTuples (xs ++ (s ∷ []))
whole-append [] s h l = (l, tt)
whole-append (x ∷ xs) s h l = (h.0, whole-append xs s h.1 l)

pub whole-more : (xs : List Seg) (i : ℕ) (d : Seg) → i < length xs → AreWholeTuples (take i xs) → (get_or xs i d).len % 8 ≡ 0 → AreWholeTuples (take (i + 1) xs)
whole-more xs i d h a l = subst AreWholeTuples (sym (take-more xs i d h)) (whole-append (take i xs) (get_or xs i d) a l)

places-append : (xs : List Seg) (s : Seg) (p : PageByte) → IsAmong (places_in (xs ++ (s ∷ []))) p → IsAmong (places_in xs) p ⊎ IsAmong (places_of s) p
places-append [] s p h = last (among-append (places_of s) [] p h)
  where
    last : (IsAmong (places_of s) p ⊎ IsAmong [] p) → IsAmong (places_in []) p ⊎ IsAmong (places_of s) p
    last (inl l) = inr l
    last (inr l) = absurd l
places-append (x ∷ xs) s p h = by (among-append (places_of x) (places_in (xs ++ (s ∷ []))) p h) (places-append xs s p)
  where
    front : (IsAmong (places_in xs) p ⊎ IsAmong (places_of s) p) → IsAmong (places_in (x ∷ xs)) p ⊎ IsAmong (places_of s) p
    front (inl l) = inl (among-back (places_of x) (places_in xs) p l)
    front (inr l) = inr l

    by : (IsAmong (places_of x) p ⊎ IsAmong (places_in (xs ++ (s ∷ []))) p) → (IsAmong (places_in (xs ++ (s ∷ []))) p → IsAmong (places_in xs) p ⊎ IsAmong (places_of s) p) → IsAmong (places_in (x ∷ xs)) p ⊎ IsAmong (places_of s) p
    by (inl l) more = inl (among-front (places_of x) (places_in xs) p l)
    by (inr l) more = front (more l)

pub apart-more : (xs : List Seg) (i : ℕ) (d s : Seg) → i < length xs → Apart (places_in (take i xs)) (places_of s) → (Overlap (get_or xs i d) s → ⊥) → Apart (places_in (take (i + 1) xs)) (places_of s)
apart-more xs i d s h a n = λ p k l. by p (places-append (take i xs) (get_or xs i d) p (subst (λ z. IsAmong (places_in z) p) (take-more xs i d h) k)) l
  where
    by : (p : PageByte) → (IsAmong (places_in (take i xs)) p ⊎ IsAmong (places_of (get_or xs i d)) p) → IsAmong (places_of s) p → ⊥
    by p (inl k) l = a p k l
    by p (inr k) l = n (p, k, l)

pub apart-all-more : (ps : List PageByte) (xs : List Seg) (i : ℕ) (d : Seg) → i < length xs → Apart ps (places_in (take i xs)) → Apart ps (places_of (get_or xs i d)) → Apart ps (places_in (take (i + 1) xs))
apart-all-more ps xs i d h a n = λ p k l. by p k (places-append (take i xs) (get_or xs i d) p (subst (λ z. IsAmong (places_in z) p) (take-more xs i d h) l))
  where
    by : (p : PageByte) → IsAmong ps p → (IsAmong (places_in (take i xs)) p ⊎ IsAmong (places_of (get_or xs i d)) p) → ⊥
    by p k (inl l) = a p k l
    by p k (inr l) = n p k l

places-more : (xs : List Seg) (s : Seg) → places_in (xs ++ (s ∷ [])) ≡ places_in xs ++ places_of s
places-more [] s = append-nil (places_of s)
places-more (x ∷ xs) s = ap (λ z. places_of x ++ z) (places-more xs s) ∙ sym (append_assoc (places_of x) (places_in xs) (places_of s))

pub once-more : (xs : List Seg) (i : ℕ) (d : Seg) → i < length xs → NoneTwice (places_in (take i xs)) → Apart (places_in (take i xs)) (places_of (get_or xs i d)) → NoneTwice (places_in (take (i + 1) xs))
once-more xs i d h a n =
    subst (λ z. NoneTwice (places_in z)) (sym (take-more xs i d h))
    (subst NoneTwice (sym (places-more (take i xs) (get_or xs i d)))
    (once-append (places_in (take i xs)) (places_of (get_or xs i d)) a (run-once (get_or xs i d).page (get_or xs i d).off (get_or xs i d).len) n))

-- ---- what is left of a list

pub lie-at : (pool : List (List ℕ)) (xs : List Seg) (i : ℕ) (d : Seg) → i < length xs → AllLieIn pool xs → LiesIn pool (get_or xs i d)
lie-at pool [] i d h a = absurd (omega arith)
lie-at pool (x ∷ xs) zero d h a = a.0
lie-at pool (x ∷ xs) (suc i) d h a = lie-at pool xs i d (omega arith) a.1

pub total-drop : (xs : List Seg) (i : ℕ) (d : Seg) → i < length xs → total (drop i xs) ≡ (get_or xs i d).len + total (drop (i + 1) xs)
total-drop [] i d h = absurd (omega arith)
total-drop (x ∷ xs) zero d h = refl
total-drop (x ∷ xs) (suc i) d h = let s : suc i + 1 ≡ suc (i + 1) = omega arith in total-drop xs i d (omega arith) ∙ ap (λ k. (get_or xs i d).len + total (drop k (x ∷ xs))) (sym s)

pub places-drop : (xs : List Seg) (i : ℕ) (d : Seg) → i < length xs → places_in (drop i xs) ≡ places_of (get_or xs i d) ++ places_in (drop (i + 1) xs)
places-drop [] i d h = absurd (omega arith)
places-drop (x ∷ xs) zero d h = refl
places-drop (x ∷ xs) (suc i) d h = let s : suc i + 1 ≡ suc (i + 1) = omega arith in places-drop xs i d (omega arith) ∙ ap (λ k. places_of (get_or xs i d) ++ places_in (drop k (x ∷ xs))) (sym s)
