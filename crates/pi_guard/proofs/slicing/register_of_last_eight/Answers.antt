use Rattle.std.proofs.Common.{◌≡◌, ℕ, length, drop, get_or, ap, arith, length-drop}
use Rattle.pi_guard.proofs.Linear.{eight}
use Rattle.pi_guard.proofs.Folds.{of_zero}
use Rattle.pi_guard.proofs.slicing.register_of_last_eight.Goals as goal

pub returns : goal.returns
returns c =
    let xs = drop 8 c.args.b.now in
    let long : length xs ≡ 8 = omega (arith, length-drop 8 c.args.b.now, c.told-b) in
    let whole = of_zero xs in
    let sum = eight xs long in
    let at : (i : ℕ) → get_or c.last_eight-last.result i 0 ≡ get_or xs i 0 =
    λ i. ap (λ l. get_or l i 0) c.last_eight-last.ensures in
    let at_0 = at 0 in
    let at_1 = at 1 in
    let at_2 = at 2 in
    let at_3 = at 3 in
    let at_4 = at 4 in
    let at_5 = at 5 in
    let at_6 = at 6 in
    let at_7 = at 7 in
    cc
