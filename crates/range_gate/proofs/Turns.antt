-- Cells of a page, one after another.
use Rattle.std.proofs.Common.{ℕ, ◌≤◌, take, ◌≡◌, zero, refl, suc, arith, ap, ◌∷◌, map, ◌*◌, ◌+◌, ◌∙◌}
use Rattle.range_gate.specs.Cells.{in_turn}
use Rattle.page_pool.specs.Cells.{cell}
use Rattle.page_pool.specs.Places.{run}

pub take_turn : (from n k : ℕ) → k ≤ n → take k (in_turn from n) ≡ in_turn from k
take_turn from n zero h = refl
take_turn from zero (suc k) h = absurd (omega arith)
take_turn from (suc n) (suc k) h = ap (λ l. from ∷ l) (take_turn (suc from) n k (omega arith))

pub run_cells : (page off n : ℕ) → map cell (run page off n) ≡ in_turn (4096 * page + off) n
unfolding run
run_cells page off zero = refl
run_cells page off (suc n) = let e : 4096 * page + (off + 1) ≡ suc (4096 * page + off) = omega arith in ap (λ l. (4096 * page + off) ∷ l) (run_cells page (off + 1) n ∙ ap (λ z. in_turn z n) e)
