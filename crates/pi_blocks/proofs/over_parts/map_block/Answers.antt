use Rattle.std.proofs.Common.{rules, ◌≡◌, ◌+◌, ◌-◌, ◌≤◌, ◌∙◌, drop, ap, arith}
use Rattle.std.proofs.lemmas.List.{drop-drop}
use Rattle.pi_blocks.specs.Parts.{bytes_of_mut, left_in}
use Rattle.pi_blocks.proofs.Spreads.{next_block_left, rest_is_there}
use Rattle.pi_blocks.proofs.over_parts.map_block.Goals as goal

pub skip-requires-2-clause-enough : goal.skip-requires-2-clause-enough
skip-requires-2-clause-enough c =
    let covered = c.covered-before.result in
    let left = left_in bytes_of_mut c.args.parts.now c.args.place.now in
    let read = left_in bytes_of_mut c.exchange.new.parts c.exchange.new.place in
    let all : covered + 4 + 4 ≡ covered + 8 = omega arith in
    let behind : read ≡ drop (covered + 8) left = c.exchange.ensures.left ∙ (ap (drop 4) c.skip.ensures.left ∙ (drop-drop 4 (covered + 4) left ∙ ap (λ n. drop n left) all)) in
    omega (arith, rest_is_there c.stride.result covered left read behind (omega (arith, c.stride.ensures, c.requires.more)))

pub returns-clause-left : goal.returns-clause-left
returns-clause-left c =
    let l = c.args.layout in
    let covered = c.covered-before.result in
    let stride = c.stride.result in
    let left = left_in bytes_of_mut c.args.parts.now c.args.place.now in
    let read = left_in bytes_of_mut c.exchange.new.parts c.exchange.new.place in
    let all : covered + 4 + 4 ≡ covered + 8 = omega arith in
    let behind : read ≡ drop (covered + 8) left = c.exchange.ensures.left ∙ (ap (drop 4) c.skip.ensures.left ∙ (drop-drop 4 (covered + 4) left ∙ ap (λ n. drop n left) all)) in
    let fits : l.tuple_at + 8 ≤ l.meta_size = search rules in
    let room : covered + 8 ≤ stride = omega (arith, fits, c.covered-before.ensures, c.stride.ensures) in
    let rest : stride - (covered + 4) - 4 ≡ stride - covered - 8 = omega arith in
    next_block_left stride covered left read (left_in bytes_of_mut c.exchange.new.parts c.skip-2.new.place) room behind (c.skip-2.ensures.left ∙ ap (λ n. drop n read) rest) ∙ ap (λ n. drop n left) c.stride.ensures
