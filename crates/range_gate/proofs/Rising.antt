-- Segments that a sort left by page and offset.
use Rattle.std.proofs.Common.{suc, ◌<◌, ◌≤◌, inl, inr, List, [], ◌∷◌, arith, ⊎_elim}
use Rattle.std.proofs.lemmas.Bool.{cases_lt}
use Rattle.std.specs.List.{All}
use Rattle.std.specs.List.Sorted.{IsNonDecreasingBy}
use Rattle.page_pool.specs.declared.segs.Seg.{Seg}
use Rattle.range_gate.specs.Prints.{IsSound, Leads, NotAfter, Rises, begins}

not_after : (s t : Seg) → s.off < 4294967296 → t.off < 4294967296 → begins s ≤ begins t → NotAfter s t
not_after s t a b h =
    ⊎_elim
    (λ (l : s.page < t.page). inl l)
    (λ (l : t.page ≤ s.page). inr (omega arith, omega arith))
    (cases_lt s.page t.page)

leads : (s : Seg) (ss : List Seg) → All IsSound (s ∷ ss) → IsNonDecreasingBy begins (s ∷ ss) → Leads s ss
leads s [] a r = tt
leads s (t ∷ ts) a r = not_after s t (a 0 s (omega arith)).1 (a 1 s (omega arith)).1 (r 0 1 s (omega arith) (omega arith))

rest_sound : (s : Seg) (ss : List Seg) → All IsSound (s ∷ ss) → All IsSound ss
rest_sound s ss a = λ k d l. a (suc k) d (omega arith)

pub rises : (ss : List Seg) → All IsSound ss → IsNonDecreasingBy begins ss → Rises ss
rises [] a r = tt
rises (s ∷ ss) a r = ((a 0 s (omega arith)).0, leads s ss a r, rises ss (rest_sound s ss a) (λ i k d l m. r (suc i) (suc k) d (omega arith) (omega arith)))
