-- Segments inside the pages: few bytes, and each place in a page.
use Rattle.std.proofs.Common.{ℕ, zero, suc, ◌≡◌, ◌+◌, ◌*◌, ◌≤◌, true, List, [], ◌∷◌, ◌++◌, length, arith}
use Rattle.std.proofs.lemmas.Bool.Decides.{nat_tests}
use Rattle.page_pool.specs.declared.segs.Seg.{Seg}
use Rattle.page_pool.specs.Places.{PageByte, places_in, run, total}
use Rattle.page_pool.specs.Walking.{InPages}
use Rattle.script_text.specs.Segments.{are_inside, is_inside}
use Rattle.small_laws.proofs.Tests.{and_first, and_second}

ends_inside : (pages : ℕ) (s : Seg) → is_inside pages s ≡ true → s.off + s.len ≤ 4096
ends_inside pages s h = grind (arith, nat_tests)

-- each segment has at most 4,096 bytes
pub small_total : (pages : ℕ) (segs : List Seg) → are_inside pages segs ≡ true → total segs ≤ 4096 * length segs
small_total pages [] h = omega arith
small_total pages (s ∷ segs) h =
    let a = ends_inside pages s (and_first (is_inside pages s) (are_inside pages segs) h) in
    let b = small_total pages segs (and_second (is_inside pages s) (are_inside pages segs) h) in
    omega (arith, a, b)

run_in_pages : (page off n : ℕ) (rest : List PageByte) → off + n ≤ 4096 → InPages rest → InPages (run page off n ++ rest)
unfolding run
run_in_pages page off zero rest h r = r
run_in_pages page off (suc n) rest h r = (omega (arith, h), run_in_pages page (off + 1) n rest (omega (arith, h)) r)

pub in_pages : (pages : ℕ) (segs : List Seg) → are_inside pages segs ≡ true → InPages (places_in segs)
in_pages pages [] h = tt
in_pages pages (s ∷ segs) h = run_in_pages s.page s.off s.len (places_in segs) (ends_inside pages s (and_first (is_inside pages s) (are_inside pages segs) h)) (in_pages pages segs (and_second (is_inside pages s) (are_inside pages segs) h))
