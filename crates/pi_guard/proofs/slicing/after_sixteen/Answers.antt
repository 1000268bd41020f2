use Rattle.std.proofs.Common.{◌≡◌, ℕ, ◌+◌, ◌%◌, get_or, refl, ap, ◌∙◌}
use Rattle.std.specs.Prelude.{bit_and}
use Rattle.std.proofs.lemmas.List.{get_or-drop}
use Rattle.std.proofs.lemmas.Nat.{and_mask}
use Rattle.pi_guard.proofs.Linear.{sliced, fourteen}
use Rattle.pi_guard.proofs.slicing.after_sixteen.Goals as goal

pub returns : goal.returns
returns c =
    let low : bit_and c.args.state 255 ≡ c.args.state % 256 = and_mask c.args.state 8 in
    let whole = sliced 14 c.args.state _ (bit_and c.args.state 255) c.args.b.now c.told-b c.ranges.state.fits refl low in
    let rest = fourteen c.args.b.now c.told-b in
    let at : (i : ℕ) → get_or c.last_eight-last.result i 0 ≡ get_or c.args.b.now (8 + i) 0 =
    λ i. ap (λ l. get_or l i 0) c.last_eight-last.ensures ∙ get_or-drop 8 c.args.b.now i 0 in
    let at_0 = at 0 in
    let at_1 = at 1 in
    let at_2 = at 2 in
    let at_3 = at 3 in
    let at_4 = at 4 in
    let at_5 = at 5 in
    let at_6 = at 6 in
    let at_7 = at 7 in
    cc
