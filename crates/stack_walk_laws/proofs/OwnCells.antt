-- The cells of the private tuples of a request are those of its private pages, in turn.
use Rattle.std.proofs.Common.{◌≡◌, ◌<◌, ◌≤◌, ℕ, zero, suc, ◌+◌, ◌-◌, ◌*◌, min, ◌∷◌, ◌++◌, map, take, drop, refl, sym, ap, ◌∙◌, arith, ⊎_elim}
use Rattle.std.proofs.lemmas.Bool.{cases_lt}
use Rattle.std.proofs.lemmas.List.{map-append, take-map, drop-map}
use Rattle.page_pool.specs.Cells.{cell}
use Rattle.page_pool.specs.Places.{places_in, range_of, run}
use Rattle.range_gate.specs.Cells.{cells_of, in_turn}
use Rattle.range_gate.proofs.Turns.{take_turn, run_cells}
use Rattle.run_laws.specs.ScriptMoves.{own_at}
use Rattle.stack_walk_laws.specs.Requests.{pages_for, private_tuples}
use Rattle.stack_walk_laws.proofs.Private.{tuples_from}

turn_join : (from a b : ℕ) → in_turn from (a + b) ≡ in_turn from a ++ in_turn (from + a) b
turn_join from zero b = let e : from + 0 ≡ from = omega arith in let f : 0 + b ≡ b = omega arith in ap (in_turn from) f ∙ ap (λ z. in_turn z b) (sym e)
turn_join from (suc a) b = let e : suc from + a ≡ from + suc a = omega arith in let f : suc a + b ≡ suc (a + b) = omega arith in ap (in_turn from) f ∙ ap (λ l. from ∷ l) (turn_join (suc from) a b ∙ ap (λ z. in_turn (suc from) a ++ in_turn z b) e)

drop_turn : (from n k : ℕ) → k ≤ n → drop k (in_turn from n) ≡ in_turn (from + k) (n - k)
drop_turn from n zero h = let e : from + 0 ≡ from = omega arith in let f : n - 0 ≡ n = omega arith in rw (e, f) refl
drop_turn from zero (suc k) h = absurd (omega arith)
drop_turn from (suc n) (suc k) h = let e : suc from + k ≡ from + suc k = omega arith in let f : suc n - suc k ≡ n - k = omega arith in rw f (drop_turn (suc from) n k (omega arith) ∙ ap (λ z. in_turn z (n - k)) e)

-- the pages from the k-th on
pages_cells : (page count k m : ℕ) → cells_of (tuples_from page count k m) ≡ in_turn (4096 * (page + k)) (min (8 * (count - 512 * k)) (4096 * m))
pages_cells page count k zero = let e : min (8 * (count - 512 * k)) (4096 * 0) ≡ 0 = omega arith in rw e refl
pages_cells page count k (suc m) =
    let here = min (8 * (count - 512 * k)) 4096 in
    let rest = min (8 * (count - 512 * suc k)) (4096 * m) in
    let sum : min (8 * (count - 512 * k)) (4096 * suc m) ≡ here + rest = omega arith in
    let z : 4096 * (page + k) + 0 ≡ 4096 * (page + k) = omega arith in
    let one : map cell (run (page + k) 0 here) ≡ in_turn (4096 * (page + k)) here = run_cells (page + k) 0 here ∙ ap (λ x. in_turn x here) z in
    let more : in_turn (4096 * (page + suc k)) rest ≡ in_turn (4096 * (page + k) + here) rest
    = ⊎_elim
    (λ (l : 8 * (count - 512 * k) < 4096). let e : rest ≡ 0 = omega arith in rw e refl)
    (λ (l : 4096 ≤ 8 * (count - 512 * k)). let e : 4096 * (page + suc k) ≡ 4096 * (page + k) + here = omega arith in ap (λ x. in_turn x rest) e)
    (cases_lt (8 * (count - 512 * k)) 4096) in
    map-append cell (run (page + k) 0 here) (places_in (tuples_from page count (suc k) m))
    ∙ (ap (λ l. l ++ cells_of (tuples_from page count (suc k) m)) one
    ∙ (ap (λ l. in_turn (4096 * (page + k)) here ++ l) (pages_cells page count (suc k) m ∙ more)
    ∙ (sym (turn_join (4096 * (page + k)) here rest) ∙ ap (in_turn (4096 * (page + k))) (sym sum))))

private_cells : (page count : ℕ) → cells_of (private_tuples page count) ≡ in_turn (4096 * page) (8 * count)
private_cells page count =
    let e : min (8 * (count - 512 * 0)) (4096 * pages_for count) ≡ 8 * count = omega arith in
    let f : 4096 * (page + 0) ≡ 4096 * page = omega arith in
    pages_cells page count 0 (pages_for count) ∙ (ap (in_turn (4096 * (page + 0))) e ∙ ap (λ x. in_turn x (8 * count)) f)

-- tuple k of n
pub own_cells : (page n k : ℕ) → k < n → own_at (4096 * page) k ≡ map cell (range_of (private_tuples page n) (8 * k) 8)
own_cells page n k h =
    let a = drop_turn (4096 * page) (8 * n) (8 * k) (omega arith) in
    let b = take_turn (4096 * page + 8 * k) (8 * n - 8 * k) 8 (omega arith) in
    sym (sym (take-map cell 8 (drop (8 * k) (places_in (private_tuples page n)))) ∙ (ap (take 8) (sym (drop-map cell (8 * k) (places_in (private_tuples page n))) ∙ (ap (drop (8 * k)) (private_cells page n) ∙ a)) ∙ b))
