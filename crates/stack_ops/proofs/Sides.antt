-- The cells of a footprint's bytes.
use Rattle.std.proofs.Common.{◌≡◌, Bool, true, false, List, [], ◌∷◌, ◌++◌, map, refl, sym, ap, ◌∙◌, append_assoc, append-nil}
use Rattle.std.specs.Prelude.{if◌then◌else◌}
use Rattle.std.proofs.lemmas.List.{map-append}
use Rattle.page_pool.specs.declared.segs.Seg.{Seg}
use Rattle.page_pool.specs.Places.{places_in, places_of}
use Rattle.range_gate.specs.declared.footprint.Touch.{Touch}
use Rattle.range_gate.specs.Prints.{is_same}
use Rattle.page_pool.specs.Cells.{cell}
use Rattle.range_gate.specs.Cells.{byte_cells, cells_of, segs_that}
use Rattle.stack_ops.specs.declared.op.Op.{Op}
use Rattle.stack_ops.specs.declared.op.Op.TheVariants.{Fill, Put, Show, Seal, Write, Fetch, WritePi, FetchPi, Overwrite, Wait}
use Rattle.stack_ops.specs.Footprints.{bytes_of, cells_touched, touches}

of_side : (v : Bool) (ss : List Seg) → segs_that v (touches v ss) ≡ ss
of_side true [] = refl
of_side true (s ∷ ss) = ap (λ z. s ∷ z) (of_side true ss)
of_side false [] = refl
of_side false (s ∷ ss) = ap (λ z. s ∷ z) (of_side false ss)

read_none : (ss : List Seg) → segs_that true (touches false ss) ≡ []
read_none [] = refl
read_none (s ∷ ss) = read_none ss

written_none : (ss : List Seg) → segs_that false (touches true ss) ≡ []
written_none [] = refl
written_none (s ∷ ss) = written_none ss

split_by : (b : Bool) (s : Seg) (xs ys : List Seg) → (if b then s ∷ (xs ++ ys) else xs ++ ys) ≡ (if b then s ∷ xs else xs) ++ ys
split_by true s xs ys = refl
split_by false s xs ys = refl

segs_that-append : (w : Bool) (ts us : List Touch) → segs_that w (ts ++ us) ≡ segs_that w ts ++ segs_that w us
segs_that-append w [] us = refl
segs_that-append w (t ∷ ts) us =
    ap (λ z. if is_same t.writes w then t.seg ∷ z else z) (segs_that-append w ts us) ∙ split_by (is_same t.writes w) t.seg (segs_that w ts) (segs_that w us)

pub places-append : (xs ys : List Seg) → places_in (xs ++ ys) ≡ places_in xs ++ places_in ys
places-append [] ys = refl
places-append (x ∷ xs) ys = ap (λ z. places_of x ++ z) (places-append xs ys) ∙ sym (append_assoc (places_of x) (places_in xs) (places_in ys))

cells-append : (xs ys : List Seg) → cells_of (xs ++ ys) ≡ cells_of xs ++ cells_of ys
cells-append xs ys = ap (map cell) (places-append xs ys) ∙ map-append cell (places_in xs) (places_in ys)

both : (ts us : List Touch) (r q s v : List Seg) → segs_that false ts ≡ r → segs_that false us ≡ q → segs_that true ts ≡ s → segs_that true us ≡ v →
    byte_cells (ts ++ us) ≡ record { reads = cells_of r ++ cells_of q; writes = cells_of s ++ cells_of v }
both ts us r q s v a b c d =
    let e : segs_that false (ts ++ us) ≡ r ++ q = segs_that-append false ts us ∙ ap (λ z. z ++ segs_that false us) a ∙ ap (λ z. r ++ z) b in
    let f : segs_that true (ts ++ us) ≡ s ++ v = segs_that-append true ts us ∙ ap (λ z. z ++ segs_that true us) c ∙ ap (λ z. s ++ z) d in
    ap (λ z. record { reads = z; writes = cells_of (segs_that true (ts ++ us)) }) (ap cells_of e ∙ cells-append r q)
    ∙ ap (λ z. record { reads = cells_of r ++ cells_of q; writes = z }) (ap cells_of f ∙ cells-append s v)

one : (ts : List Touch) (r s : List Seg) → segs_that false ts ≡ r → segs_that true ts ≡ s → byte_cells ts ≡ record { reads = cells_of r; writes = cells_of s }
one ts r s a b = ap (λ z. record { reads = cells_of z; writes = cells_of (segs_that true ts) }) a ∙ ap (λ z. record { reads = cells_of r; writes = cells_of z }) b

sealed : (body tuples : List Seg) → byte_cells (touches false body ++ touches true tuples) ≡ record { reads = cells_of body; writes = cells_of tuples }
sealed body tuples =
    both (touches false body) (touches true tuples) body [] [] tuples (of_side false body) (written_none tuples) (read_none body) (of_side true tuples)
    ∙ ap (λ z. record { reads = z; writes = cells_of tuples }) (append-nil (cells_of body))

pub cells_are : (op : Op) → byte_cells (bytes_of op) ≡ cells_touched op
cells_are (Fill seg byte) = refl
cells_are (Put page off bytes) = refl
cells_are (Show seg) = refl
cells_are (Seal n body tuples app rtag) = sealed body tuples
cells_are (Write v n body app) = one (touches false body) body [] (of_side false body) (read_none body)
cells_are (Fetch v n body) = one (touches true body) [] body (written_none body) (of_side true body)
cells_are (WritePi v n body tuples) = sealed body tuples
cells_are (FetchPi v n body tuples) = both (touches true body) (touches true tuples) [] [] body tuples (written_none body) (written_none tuples) (of_side true body) (of_side true tuples)
cells_are (Overwrite dev lba change) = refl
cells_are Wait = refl
