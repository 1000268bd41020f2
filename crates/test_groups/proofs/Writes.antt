-- One more segment that is written.
use Rattle.std.proofs.Common.{◌≡◌, ◌<◌, ◌≤◌, ℕ, ◌+◌, List, [], ◌∷◌, ◌++◌, length, take, drop, get_or, sym, ap, subst, ◌∙◌}
use Rattle.std.specs.Prelude.{map}
use Rattle.std.proofs.lemmas.List.{length-map, length-take-le, map-append, take-append-drop}
use Rattle.page_pool.specs.declared.segs.Seg.{Seg}
use Rattle.page_pool.specs.Cells.{cell, flat, scatter}
use Rattle.page_pool.specs.Pages.{AreWhole, LiesIn, Wrote}
use Rattle.page_pool.specs.Places.{PageByte, places_in, places_of}
use Rattle.page_pool.specs.Walking.{AllStandIn}
use Rattle.page_pool.proofs.Celled.{scatter-append, wrote-cells}
use Rattle.page_pool.proofs.Placing.{length-run, segments_stand}
use Rattle.std.proofs.lemmas.List.{append-nil}
use Rattle.test_groups.proofs.SegLists.{no_seg, places-drop}

segment-stands : (pool : List (List ℕ)) (s : Seg) → LiesIn pool s → AllStandIn (length pool) (places_of s)
segment-stands pool s l = let P : List PageByte → Type 0 = AllStandIn (length pool) in subst P (append-nil (places_of s)) (segments_stand pool (s ∷ []) (l, tt))

one-written : (pool pool' : List (List ℕ)) (s : Seg) (more : List PageByte) (rest front back : List ℕ) → AreWhole pool → LiesIn pool s → s.len ≤ length rest
    → front ≡ take s.len rest → back ≡ drop s.len rest → Wrote pool pool' (places_of s) front
    → scatter (map cell (places_of s ++ more)) rest (flat pool) ≡ scatter (map cell more) back (flat pool')
one-written pool pool' s more rest front back w l h f b wrote =
    let joined : rest ≡ front ++ back = sym (take-append-drop s.len rest) ∙ ap (λ z. z ++ drop s.len rest) (sym f) ∙ ap (λ z. front ++ z) (sym b) in
    let long : length front ≡ length (map cell (places_of s)) = ap length f ∙ (length-take-le s.len rest h ∙ sym (length-map (places_of s) cell ∙ length-run s.page s.off s.len)) in
    ap (λ z. scatter (map cell (places_of s ++ more)) z (flat pool)) joined
    ∙ ap (λ z. scatter z (front ++ back) (flat pool)) (map-append cell (places_of s) more)
    ∙ scatter-append (map cell (places_of s)) (map cell more) front back (flat pool) long
    ∙ ap (λ z. scatter (map cell more) back z) (sym (wrote-cells pool pool' (places_of s) front w (segment-stands pool s l) wrote))

pub wrote-more : (pool pool' : List (List ℕ)) (segs : List Seg) (i : ℕ) (rest front back : List ℕ) → i < length segs → AreWhole pool → LiesIn pool (get_or segs i no_seg)
    → (get_or segs i no_seg).len ≤ length rest → front ≡ take (get_or segs i no_seg).len rest → back ≡ drop (get_or segs i no_seg).len rest
    → Wrote pool pool' (places_of (get_or segs i no_seg)) front
    → scatter (map cell (places_in (drop (i + 1) segs))) back (flat pool') ≡ scatter (map cell (places_in (drop i segs))) rest (flat pool)
wrote-more pool pool' segs i rest front back h w l r f b wrote =
    sym (ap (λ z. scatter (map cell z) rest (flat pool)) (places-drop segs i no_seg h)
    ∙ one-written pool pool' (get_or segs i no_seg) (places_in (drop (i + 1) segs)) rest front back w l r f b wrote)
