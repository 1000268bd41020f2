-- Cells in turn: those of the pages of a request, what they hold, and what they get.
use Rattle.std.proofs.Common.{◌≡◌, ◌<◌, ◌≤◌, ℕ, zero, suc, ◌+◌, ◌-◌, ◌*◌, List, [], ◌∷◌, ◌++◌, length, map, get_or, take, drop, refl, sym, ap, ◌∙◌, arith, append_assoc, drop-cons, length-append}
use Rattle.std.specs.Prelude.{min}
use Rattle.std.proofs.lemmas.List.{map-append}
use Rattle.std.proofs.Math.Seq.{set-append_seam}
use Rattle.page_pool.specs.Cells.{cell, gather, scatter}
use Rattle.page_pool.specs.Places.{places_in, run}
use Rattle.range_gate.specs.Cells.{cells_of, in_turn}
use Rattle.range_gate.proofs.Turns.{take_turn, run_cells}
use Rattle.walk_laws.specs.Steps.{body_of}
use Rattle.run_laws.proofs.Parts.{body_part}
use Rattle.mirror_volume.specs.Inner.{page_segs}

-- ---- parts of cells in turn

turn_append : (v a b : ℕ) → in_turn v a ++ in_turn (v + a) b ≡ in_turn v (a + b)
turn_append v zero b =
    let e : v + 0 ≡ v = omega arith in
    let z : b ≡ 0 + b = omega arith in
    ap (λ x. in_turn x b) e ∙ ap (in_turn v) z
turn_append v (suc a) b =
    let e : v + suc a ≡ suc v + a = omega arith in
    let z : suc (a + b) ≡ suc a + b = omega arith in
    ap (λ l. v ∷ l) (ap (λ x. in_turn (suc v) a ++ in_turn x b) e ∙ turn_append (suc v) a b) ∙ ap (in_turn v) z

pub turn_part : (v n at len : ℕ) → at + len ≤ n → take len (drop at (in_turn v n)) ≡ in_turn (v + at) len
turn_part v n zero len l = let e : v ≡ v + 0 = omega arith in take_turn v n len (omega arith) ∙ ap (λ x. in_turn x len) e
turn_part v zero (suc at) len l = absurd (omega arith)
turn_part v (suc n) (suc at) len l =
    let e : suc v + at ≡ v + suc at = omega arith in
    turn_part (suc v) n at len (omega arith) ∙ ap (λ x. in_turn x len) e

-- ---- the cells of pages

-- the cells of one page and of those behind it
segs_then : (page q bytes len : ℕ) → len ≡ min 4096 bytes → map cell (run page 0 (min 4096 bytes) ++ places_in (page_segs (suc page) q (bytes - 4096))) ≡ in_turn (4096 * page) len ++ cells_of (page_segs (suc page) q (bytes - 4096))
segs_then page q bytes len e =
    let z : 4096 * page + 0 ≡ 4096 * page = omega arith in
    map-append cell (run page 0 (min 4096 bytes)) (places_in (page_segs (suc page) q (bytes - 4096)))
    ∙ ap (λ l. l ++ cells_of (page_segs (suc page) q (bytes - 4096))) (run_cells page 0 (min 4096 bytes) ∙ ap (λ v. in_turn v (min 4096 bytes)) z ∙ ap (in_turn (4096 * page)) (sym e))

pub segs_cells : (page pages bytes : ℕ) → bytes ≤ 4096 * pages → 4096 * pages < bytes + 4096 → cells_of (page_segs page pages bytes) ≡ in_turn (4096 * page) bytes
segs_cells page zero bytes l g = let e : 0 ≡ bytes = omega arith in ap (in_turn (4096 * page)) e
segs_cells page (suc zero) bytes l g =
    let e : bytes + 0 ≡ bytes = omega arith in
    segs_then page 0 bytes bytes (omega arith) ∙ turn_append (4096 * page) bytes 0 ∙ ap (in_turn (4096 * page)) e
segs_cells page (suc (suc q)) bytes l g =
    let e : 4096 * suc page ≡ 4096 * page + 4096 = omega arith in
    let z : 4096 + (bytes - 4096) ≡ bytes = omega arith in
    segs_then page (suc q) bytes 4096 (omega arith)
    ∙ ap (λ t. in_turn (4096 * page) 4096 ++ t) (segs_cells (suc page) (suc q) (bytes - 4096) (omega arith) (omega arith) ∙ ap (λ v. in_turn v (bytes - 4096)) e)
    ∙ turn_append (4096 * page) 4096 (bytes - 4096) ∙ ap (in_turn (4096 * page)) z

-- the cells of block k
pub body_cells : (size pages bytes k : ℕ) → bytes ≤ 4096 * pages → 4096 * pages < bytes + 4096 → k * size + size ≤ bytes → body_of size (page_segs 0 pages bytes) k ≡ in_turn (k * size) size
body_cells size pages bytes k l g h =
    let e : 0 + k * size ≡ k * size = omega arith in
    body_part size (page_segs 0 pages bytes) k
    ∙ ap (λ cells. take size (drop (k * size) cells)) (segs_cells 0 pages bytes l g)
    ∙ turn_part 0 bytes (k * size) size h ∙ ap (λ v. in_turn v size) e

-- ---- what cells in turn hold, and what they get

pub gathered : (v n : ℕ) (cells : List ℕ) → v + n ≤ length cells → gather 0 (in_turn v n) cells ≡ take n (drop v cells)
gathered v zero cells l = refl
gathered v (suc n) cells l = ap (λ t. get_or cells v 0 ∷ t) (gathered (suc v) n cells (omega arith)) ∙ sym (ap (take (suc n)) (drop-cons cells v 0 (omega arith)))

pub scattered : (pre xs old : List ℕ) (n : ℕ) → n ≤ length xs → n ≤ length old → scatter (in_turn (length pre) n) xs (pre ++ old) ≡ pre ++ (take n xs ++ drop n old)
scattered pre xs old zero l g = refl
scattered pre [] old (suc n) l g = absurd (omega arith)
scattered pre (x ∷ xs) [] (suc n) l g = absurd (omega arith)
scattered pre (x ∷ xs) (o ∷ old) (suc n) l g =
    let a = length-append pre (x ∷ []) in
    let e : suc (length pre) ≡ length (pre ++ (x ∷ [])) = omega arith in
    ap (scatter (in_turn (suc (length pre)) n) xs) (set-append_seam pre o old x ∙ sym (append_assoc pre (x ∷ []) old))
    ∙ ap (λ v. scatter (in_turn v n) xs ((pre ++ (x ∷ [])) ++ old)) e
    ∙ scattered (pre ++ (x ∷ [])) xs old n (omega arith) (omega arith)
    ∙ append_assoc pre (x ∷ []) (take n xs ++ drop n old)
